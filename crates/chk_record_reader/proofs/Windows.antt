-- What a window of a file's bytes shows.
use Rattle.std.proofs.Common.{◌≡◌, ℕ, ◌+◌, ◌-◌, ◌≤◌, List, ◌++◌, length, take, drop, arith, refl, ap, sym, ◌∙◌}
use Rattle.std.proofs.lemmas.List.{drop-drop, drop-take, length-drop, length-take, take-take, take_at, take-append-drop}
use Rattle.chk_bytes.specs.Numbers.{spelled}
use Rattle.chk_record_index.specs.Heads.{Head}
use Rattle.chk_record_reader.specs.Spans.{record_size, key_size, IsValueSpan, NoValueSpan, room_of}
use Rattle.chk_record_reader.specs.ReadBack.{value_at}
use Rattle.chk_record_reader.proofs.Records.{IsWhole}

-- so many bytes from a place of the window on are those of the file
shows : (all window : List ℕ) (from at size : ℕ) → window ≡ take (length window) (drop from all)
    → at + size ≤ length window
    → take size (drop at window) ≡ take size (drop (from + at) all)
shows all window from at size is within =
    let n : ℕ = length window in
    let m : ℕ = n - at in
    let split : n ≡ at + m = omega arith in
    ap (λ b. take size (drop at b)) is
    ∙ (ap (λ k. take size (drop at (take k (drop from all)))) split
    ∙ (ap (take size) (drop-take at m (drop from all))
    ∙ (take-take size m (drop at (drop from all)) (omega arith) ∙ ap (take size)
    (drop-drop at from all))))

-- what was read from a place on is a window
pub is_window : (all window : List ℕ) (from size : ℕ) → window ≡ take size (drop from all) → window
    ≡ take (length window) (drop from all)
is_window all window from size is =
    let rest = drop size (drop from all) in
    sym (take_at window rest (length window) refl)
    ∙ ap (take (length window)) (ap (λ w. w ++ rest) is ∙ take-append-drop size (drop from all))

module _ (all window : List ℕ) (from at : ℕ) (behind : from ≤ at) (is : window ≡ take
    (length window) (drop from all)) where
  here : from + (at - from) ≡ at
  here = omega arith

  sizes_same : at - from + 8 ≤ length window → record_size (at - from) window ≡ record_size at all
  sizes_same within =
      ap spelled (shows all window from (at - from) 4 is (omega arith) ∙ ap (λ k. take 4
      (drop k all)) here)

  keys_same : at - from + 8 ≤ length window → key_size (at - from) window ≡ key_size at all
  keys_same within =
      ap spelled (shows all window from (at - from + 4) 4 is (omega arith)
      ∙ ap (λ k. take 4 (drop k all)) (let e : from + (at - from + 4) ≡ at + 4 = omega arith in e))

  -- the value that a window shows is the file's
  pub value_shown : (size start len : ℕ) → IsValueSpan window (at - from) size start len → take len
      (drop start window) ≡ value_at at all
  value_shown size start len s =
      let k = keys_same s.numbers in
      let r = sizes_same s.numbers in
      let fits = s.fits in
      let starts : start ≡ at - from + 12 + key_size at all = s.starts ∙ ap
      (λ n. at - from + 12 + n) k in
      let place : from + start ≡ at + 12 + key_size at all = omega arith in
      let many : len ≡ record_size at all - key_size at all - 4 = (let same = s.same in let e : len
      ≡ record_size at all - key_size at all - 4 = omega arith in e) in
      shows all window from start len is s.within
      ∙ (ap (λ n. take len (drop n all)) place ∙ ap (λ n. take n (drop
      (at + 12 + key_size at all) all)) many)

-- a window with the record's place and its room has it
pub never_missing : (all window : List ℕ) (from size : ℕ) (h : Head) → from ≤ h.at → window
    ≡ take size (drop from all) → h.at - from + room_of h ≤ size → IsWhole all h
    → NoValueSpan window (h.at - from) (h.key.seq - h.begin) → ⊥
never_missing all window from size h behind is room whole none =
    let few = ap length is ∙ length-take size (drop from all) in
    let left = length-drop from all in
    let fits = whole.fits in
    let short = whole.short in
    let sizes = whole.sizes in
    let long : h.at - from + (12 + key_size h.at all + (h.key.seq - h.begin)) ≤ length window = omega arith in
    let w = is_window all window from size is in
    let numbers : h.at - from + 8 ≤ length window = omega arith in
    let k = keys_same all window from h.at behind w numbers in
    let r = sizes_same all window from h.at behind w numbers in
    none (record {
      numbers = numbers;
      fits = r ∙ (sizes ∙ ap (λ n. n + 4 + (h.key.seq - h.begin)) (sym k));
      starts = refl;
      same = refl;
      within = omega arith;
    })
