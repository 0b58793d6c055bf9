-- The longest sound front, and what is salvaged behind it.
use Rattle.std.proofs.Common.{◌≡◌, ℕ, zero, suc, ◌+◌, ◌-◌, ◌<◌, ◌≤◌, Bool, true, false, nat_eq, List, [], ◌∷◌, ◌++◌, length, take, drop, map, Option, Some, None, unwrap_or, inl, inr, arith, refl, ap, ap₂, sym, subst, ◌∙◌}
use Rattle.std.specs.List.{starts_with}
use Rattle.std.proofs.lemmas.List.{length-append, length-drop, length-take-le, drop_at, drop-drop, take-append-drop, append_assoc, append-nil}
use Rattle.chk_bytes.specs.Laws.{AreBytes}
use Rattle.chk_bytes.specs.Words.{joined}
use Rattle.chk_seqfile.specs.Entries.{Entry, NoEntry, SyncEntry, RecordEntry, Damaged, IsEntry, AreEntries, sync_entry, size_of_record, entry_at, placed, records_at, records_of}
use Rattle.chk_seqfile.proofs.EntryLemmas.{length-record_entry, entry_at-record, entry_at-sync}
use Rattle.chk_seqfile.proofs.FoundEntries.{record_found, nothing_found}
use Rattle.chk_seqfile.proofs.RecordLemmas.{records_at-damaged, placed_entry, placed_entries, records_of-header, records_at-entries}
use Rattle.chk_seqfile.proofs.FileLemmas.{records_of-append}
use Rattle.chk_salvage.specs.Front.{IsFront, IsReadSo, IsDamaged, Kept, Skipped, next_sync, skip_end, salvaged_at, salvage_of}
use Rattle.chk_salvage.specs.Laws.{IsSkipEnd}
use Rattle.chk_salvage.proofs.EntryFits.{bytes_behind}
use Rattle.chk_salvage.proofs.FrontLemmas.{read_so_sync, read_so_record, IsStopped, header_of_front}
use Rattle.chk_salvage.proofs.SalvageLemmas.{here_or, salvaged_at-sync, salvaged_at-record, salvage_of-header}
use Rattle.chk_salvage.proofs.ReaderLemmas.{items_skip}

-- ---- the longest sound front

pub one_front : (bytes : List ℕ) (m n : ℕ) → IsFront bytes m → IsFront bytes n → m ≡ n
one_front bytes m n f g =
    let low = g.longest m f.within f.sound in
    let high = f.longest n g.within g.sound in
    omega arith

-- no entry stands behind it
stops : (bytes : List ℕ) (n : ℕ) → AreBytes bytes → (f : IsFront bytes n) (e : Entry) → entry_at f.sound.marker (drop n bytes) ≡ e → IsStopped e
stops bytes n are f NoEntry first = tt
stops bytes n are f SyncEntry first =
    let here : IsReadSo f.sound.marker bytes n = record { within = f.within; file = f.sound; marker_is = refl } in
    let further = read_so_sync f.sound.marker bytes n f.sound.header.marker_size (bytes_behind n bytes are) first here in
    let longer = f.longest (n + 20) further.within further.file in
    omega arith
stops bytes n are f (RecordEntry key value) first =
    let here : IsReadSo f.sound.marker bytes n = record { within = f.within; file = f.sound; marker_is = refl } in
    let found = record_found f.sound.marker (drop n bytes) key value (bytes_behind n bytes are) first in
    let further = read_so_record f.sound.marker bytes n key value (drop (size_of_record key value) (drop n bytes)) found.0 found.1 here in
    let longer = f.longest (n + size_of_record key value) further.within further.file in
    omega arith
stops bytes n are f (Damaged why) first = tt

-- where none stands no records are read
no_records : (marker bytes : List ℕ) (at : ℕ) (e : Entry) → entry_at marker bytes ≡ e → IsStopped e → records_at marker at bytes ≡ []
no_records marker bytes at NoEntry first stopped = ap (records_at marker at) (nothing_found marker bytes first)
no_records marker bytes at SyncEntry first stopped = absurd stopped
no_records marker bytes at (RecordEntry key value) first stopped = absurd stopped
no_records marker bytes at (Damaged why) first stopped = records_at-damaged marker at bytes first

pub front_has_records : (bytes : List ℕ) (n : ℕ) → AreBytes bytes → IsFront bytes n → records_of bytes ≡ records_of (take n bytes)
front_has_records bytes n are f =
    let marker : List ℕ = f.sound.marker in
    let rest : List ℕ = drop n bytes in
    let none : records_at marker (length (take n bytes)) rest ≡ [] =
    no_records marker rest (length (take n bytes)) (entry_at marker rest) refl (stops bytes n are f (entry_at marker rest) refl) in
    ap records_of (sym (take-append-drop n bytes)) ∙ records_of-append (take n bytes) rest f.sound
    ∙ ap (λ x. records_of (take n bytes) ++ x) none ∙ append-nil (records_of (take n bytes))

-- ---- what is salvaged of it

-- an entry is kept if it is a record
salvaged_at-entry : (marker : List ℕ) (at : ℕ) (e rest : List ℕ) (h : IsEntry marker e) → length marker ≡ 16
    → salvaged_at marker at (e ++ rest) ≡ map Kept (placed_entry marker at e h) ++ salvaged_at marker (at + length e) rest
salvaged_at-entry marker at e rest (inl sync) wide =
    let size : length e ≡ 20 = let all = ap length sync in omega arith in
    salvaged_at-sync marker at (e ++ rest) (ap (λ x. entry_at marker (x ++ rest)) sync ∙ entry_at-sync marker rest wide)
    ∙ ap₂ (λ n x. salvaged_at marker (at + n) x) (sym size) (drop_at e rest 20 size)
salvaged_at-entry marker at e rest (inr r) wide =
    let size : length e ≡ size_of_record r.key r.value = ap length r.is ∙ length-record_entry r.key r.value in
    salvaged_at-record marker at (e ++ rest) r.key r.value
    (ap (λ x. entry_at marker (x ++ rest)) r.is ∙ entry_at-record marker r.key r.value rest r.small)
    ∙ ap (λ xs. Kept (placed at r.key r.value) ∷ xs)
    (ap₂ (λ n x. salvaged_at marker (at + n) x) (sym size) (drop_at e rest (size_of_record r.key r.value) size))

map_kept-append : (xs ys : List _) → map Kept (xs ++ ys) ≡ map Kept xs ++ map Kept ys
map_kept-append [] ys = refl
map_kept-append (x ∷ xs) ys = ap (λ zs. Kept x ∷ zs) (map_kept-append xs ys)

salvaged_at-entries : (marker : List ℕ) (at : ℕ) (es : List (List ℕ)) (rest : List ℕ) (each : AreEntries marker es) → length marker ≡ 16
    → salvaged_at marker at (joined es ++ rest)
    ≡ map Kept (placed_entries marker at es each) ++ salvaged_at marker (at + length (joined es)) rest
salvaged_at-entries marker at [] rest each wide = ap (λ n. salvaged_at marker n rest) (omega arith)
salvaged_at-entries marker at (e ∷ es) rest each wide =
    let here : ℕ = at + length e in
    let one = placed_entry marker at e each.0 in
    let others = placed_entries marker here es each.1 in
    let there : here + length (joined es) ≡ at + length (e ++ joined es) = omega (arith, length-append e (joined es)) in
    ap (salvaged_at marker at) (append_assoc e (joined es) rest)
    ∙ salvaged_at-entry marker at e (joined es ++ rest) each.0 wide
    ∙ ap (λ xs. map Kept one ++ xs) (salvaged_at-entries marker here es rest each.1 wide ∙ ap (λ n. map Kept others ++ salvaged_at marker n rest) there)
    ∙ sym (append_assoc (map Kept one) (map Kept others) (salvaged_at marker (at + length (e ++ joined es)) rest))
    ∙ ap (λ xs. xs ++ salvaged_at marker (at + length (e ++ joined es)) rest) (sym (map_kept-append one others))

pub salvage_keeps_front : (bytes : List ℕ) (n : ℕ) → AreBytes bytes → (f : IsFront bytes n)
    → salvage_of bytes ≡ map Kept (records_of bytes) ++ salvaged_at f.sound.marker n (drop n bytes)
salvage_keeps_front bytes n are f =
    let file = f.sound in
    let marker : List ℕ = file.marker in
    let head : ℕ = length file.head in
    let rest : List ℕ = drop n bytes in
    let es = file.form.pieces in
    let each = file.form.each in
    let wide = file.header.marker_size in
    let read = header_of_front bytes n file in
    let split : bytes ≡ file.head ++ (joined es ++ rest) =
    sym (take-append-drop n bytes) ∙ ap (λ x. x ++ rest) file.is ∙ append_assoc file.head file.entries rest
    ∙ ap (λ x. file.head ++ (x ++ rest)) file.form.is in
    let behind : drop head bytes ≡ joined es ++ rest = ap (drop head) split ∙ drop_at file.head (joined es ++ rest) head refl in
    let size : head + length (joined es) ≡ n =
    ap (λ x. head + length x) (sym file.form.is) ∙ sym (length-append file.head file.entries) ∙ ap length (sym file.is) ∙ length-take-le n bytes f.within in
    let none : records_at marker (head + length (joined es)) rest ≡ [] =
    no_records marker rest (head + length (joined es)) (entry_at marker rest) refl (stops bytes n are f (entry_at marker rest) refl) in
    let records : records_of bytes ≡ placed_entries marker head es each =
    records_of-header bytes (record { marker = marker; end = head }) read ∙ ap (records_at marker head) behind
    ∙ records_at-entries marker head es rest each wide
    ∙ ap (λ x. placed_entries marker head es each ++ x) none ∙ append-nil (placed_entries marker head es each) in
    salvage_of-header bytes (record { marker = marker; end = head }) read
    ∙ ap (salvaged_at marker head) behind
    ∙ salvaged_at-entries marker head es rest each wide
    ∙ ap₂ (λ r m. map Kept r ++ salvaged_at marker m rest) (sym records) size

-- ---- where a skipped range ends

-- a whole sync entry stands first
abbrev IsFirst : List ℕ → List ℕ → Type 0
IsFirst marker bytes = starts_with nat_eq bytes (sync_entry marker) ≡ true

-- the first place, counted from the start of the bytes
abbrev IsNext : List ℕ → ℕ → List ℕ → Option ℕ → Type 0
IsNext marker at bytes (Some q) =
    (at ≤ q) × (q < at + length bytes) × IsFirst marker (drop (q - at) bytes) × ((j : ℕ) → at + j < q → IsFirst marker (drop j bytes) → ⊥)
IsNext marker at bytes None = (j : ℕ) → IsFirst marker (drop j bytes) → ⊥

next_later : (marker : List ℕ) (at b : ℕ) (bytes : List ℕ) (o : Option ℕ) → starts_with nat_eq (b ∷ bytes) (sync_entry marker) ≡ false
    → IsNext marker (at + 1) bytes o → IsNext marker at (b ∷ bytes) o
next_later marker at b bytes (Some q) none (low, high, stands, least) = (
  omega arith,
  omega arith,
  (let same : q - at ≡ suc (q - (at + 1)) = omega arith in
      subst (λ n. IsFirst marker (drop n (b ∷ bytes))) (sym same) stands),
  λ j. elim j as (λ j. at + j < q → IsFirst marker (drop j (b ∷ bytes)) → ⊥) [
    | zero ↦ λ less first. cc
    | suc i ↦ λ less first. least i (omega arith) first
  ],
)
next_later marker at b bytes None none least = λ j. elim j as (λ j. IsFirst marker (drop j (b ∷ bytes)) → ⊥) [
  | zero ↦ λ first. cc
  | suc i ↦ λ first. least i first
]

next_here : (marker : List ℕ) (at b : ℕ) (bytes : List ℕ) (o : Option ℕ) (t : Bool) → starts_with nat_eq (b ∷ bytes) (sync_entry marker) ≡ t
    → IsNext marker (at + 1) bytes o → IsNext marker at (b ∷ bytes) (here_or at o t)
next_here marker at b bytes o true is later = (
  omega arith,
  omega arith,
  (let same : at - at ≡ 0 = omega arith in
      subst (λ n. IsFirst marker (drop n (b ∷ bytes))) (sym same) is),
  λ j less first. omega arith,
)
next_here marker at b bytes o false is later = next_later marker at b bytes o is later

next_none : (marker : List ℕ) (j : ℕ) → IsFirst marker (drop j []) → ⊥
next_none marker zero first = cc
next_none marker (suc j) first = cc

next_sync-is : (marker : List ℕ) (at : ℕ) (bytes : List ℕ) → IsNext marker at bytes (next_sync marker at bytes)
next_sync-is marker at [] = next_none marker
next_sync-is marker at (b ∷ bytes) =
    next_here marker at b bytes (next_sync marker (at + 1) bytes) (starts_with nat_eq (b ∷ bytes) (sync_entry marker)) refl
    (next_sync-is marker (at + 1) bytes)

-- from a place in some bytes
skip_of_next : (marker bytes : List ℕ) (at : ℕ) (o : Option ℕ) → at < length bytes → IsNext marker (at + 1) (drop (at + 1) bytes) o
    → IsSkipEnd marker bytes at (unwrap_or o (at + length (drop at bytes)))
skip_of_next marker bytes at (Some q) inside (low, high, stands, least) = record {
  past = omega arith;
  within = omega (arith, length-drop (at + 1) bytes);
  stands = inr (let same : (at + 1) + (q - (at + 1)) ≡ q = omega arith in
      subst (λ x. IsFirst marker x) (drop-drop (q - (at + 1)) (at + 1) bytes ∙ ap (λ n. drop n bytes) same) stands);
  least = λ j above below first. let same : (at + 1) + (j - (at + 1)) ≡ j = omega arith in
      least (j - (at + 1)) (omega arith)
      (subst (λ x. IsFirst marker x) (sym (drop-drop (j - (at + 1)) (at + 1) bytes ∙ ap (λ n. drop n bytes) same)) first);
}
skip_of_next marker bytes at None inside least = record {
  past = omega (arith, length-drop at bytes);
  within = omega (arith, length-drop at bytes);
  stands = inl (omega (arith, length-drop at bytes));
  least = λ j above below first. let same : (at + 1) + (j - (at + 1)) ≡ j = omega arith in
      least (j - (at + 1))
      (subst (λ x. IsFirst marker x) (sym (drop-drop (j - (at + 1)) (at + 1) bytes ∙ ap (λ n. drop n bytes) same)) first);
}

skip_end-is : (marker bytes : List ℕ) (at : ℕ) → at < length bytes → IsSkipEnd marker bytes at (skip_end marker at (drop at bytes))
skip_end-is marker bytes at inside =
    subst (λ x. IsSkipEnd marker bytes at (unwrap_or (next_sync marker (at + 1) x) (at + length (drop at bytes)))) (sym (drop-drop 1 at bytes))
    (skip_of_next marker bytes at (next_sync marker (at + 1) (drop (at + 1) bytes)) inside (next_sync-is marker (at + 1) (drop (at + 1) bytes)))

pub salvage_skips_damage : (marker bytes : List ℕ) (at : ℕ) → at < length bytes → IsDamaged marker bytes at
    → (to : ℕ) × IsSkipEnd marker bytes at to
    × (salvaged_at marker at (drop at bytes) ≡ Skipped at to ∷ salvaged_at marker to (drop to bytes))
salvage_skips_damage marker bytes at inside damage =
    let to : ℕ = skip_end marker at (drop at bytes) in
    (to, skip_end-is marker bytes at inside, items_skip marker bytes at to (omega arith) damage refl)
