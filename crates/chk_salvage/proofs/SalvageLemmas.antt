-- What is salvaged from a place on.
use Rattle.std.proofs.Common.{◌≡◌, ℕ, zero, suc, ◌+◌, ◌-◌, ◌<◌, ◌≤◌, Bool, true, false, List, [], ◌∷◌, length, drop, get_or, Option, Some, None, unwrap_or, nat_eq, arith, refl, ap, sym, Ok, ◌∙◌}
use Rattle.std.specs.List.{starts_with}
use Rattle.std.specs.Prelude.{IfSome}
use Rattle.std.proofs.lemmas.List.{length-drop, drop_more}
use Rattle.chk_seqfile.specs.declared.entries.Why.{Why}
use Rattle.chk_seqfile.specs.declared.headers.HeaderRef.{HeaderRef}
use Rattle.chk_seqfile.specs.Headers.{read_header}
use Rattle.chk_seqfile.specs.Entries.{Entry, NoEntry, SyncEntry, RecordEntry, Damaged, sync_entry, entry_at, placed, size_of_record}
use Rattle.chk_seqfile.proofs.EntryLemmas.{entry_at-nil}
use Rattle.chk_salvage.specs.Front.{next_sync, skip_end, Item, Kept, Skipped, salvaged_from, salvaged_at, salvaged_behind, salvage_of}

-- ---- the next sync entry

-- the place, if one stands there, else a later one
abbrev pub here_or : ℕ → Option ℕ → Bool → Option ℕ
here_or at later true = Some at
here_or at later false = later

-- one stands at the place itself
next_sync-cons_true : (marker : List ℕ) (at b : ℕ) (bytes : List ℕ) → starts_with nat_eq (b ∷ bytes) (sync_entry marker) ≡ true
    → next_sync marker at (b ∷ bytes) ≡ Some at
next_sync-cons_true marker at b bytes stands = ap (here_or at (next_sync marker (at + 1) bytes)) stands

-- none stands at the place itself
next_sync-cons_false : (marker : List ℕ) (at b : ℕ) (bytes : List ℕ) → starts_with nat_eq (b ∷ bytes) (sync_entry marker) ≡ false
    → next_sync marker at (b ∷ bytes) ≡ next_sync marker (at + 1) bytes
next_sync-cons_false marker at b bytes none = ap (here_or at (next_sync marker (at + 1) bytes)) none

pub next_sync-later : (marker : List ℕ) (at : ℕ) (bytes : List ℕ) → at < length bytes → starts_with nat_eq (drop at bytes) (sync_entry marker) ≡ false
    → next_sync marker at (drop at bytes) ≡ next_sync marker (at + 1) (drop (at + 1) bytes)
next_sync-later marker at bytes inside none =
    let split : drop at bytes ≡ get_or bytes at 0 ∷ drop (at + 1) bytes = drop_more bytes at 0 inside in
    ap (next_sync marker at) split ∙ next_sync-cons_false marker at (get_or bytes at 0) (drop (at + 1) bytes)
    (ap (λ x. starts_with nat_eq x (sync_entry marker)) (sym split) ∙ none)

-- it lies in the bytes
later_within : (at n : ℕ) (o : Option ℕ) → IfSome o (λ q. (at + 1 ≤ q) × (q < at + 1 + n)) → IfSome o (λ q. (at ≤ q) × (q < at + suc n))
later_within at n None h = tt
later_within at n (Some q) (low, high) = (omega arith, omega arith)

next_sync-within : (marker : List ℕ) (at : ℕ) (bytes : List ℕ) → IfSome (next_sync marker at bytes) (λ q. (at ≤ q) × (q < at + length bytes))
next_sync-within marker at [] = tt
next_sync-within marker at (b ∷ bytes) =
    elim (starts_with nat_eq (b ∷ bytes) (sync_entry marker))
    as (λ t. IfSome (here_or at (next_sync marker (at + 1) bytes) t) (λ q. (at ≤ q) × (q < at + suc (length bytes)))) [
      | true ↦ (omega arith, omega arith)
      | false ↦ later_within at (length bytes) (next_sync marker (at + 1) bytes) (next_sync-within marker (at + 1) bytes)
    ]

-- a skipped range isn't empty, and ends in the bytes
end_past : (at n : ℕ) (o : Option ℕ) → IfSome o (λ q. (at + 1 ≤ q) × (q < at + 1 + n)) → (at < unwrap_or o (at + suc n)) × (unwrap_or o (at + suc n) ≤ at + suc n)
end_past at n None h = (omega arith, omega arith)
end_past at n (Some q) (low, high) = (omega arith, omega arith)

pub skip_end-past : (marker : List ℕ) (at : ℕ) (bytes : List ℕ) → 0 < length bytes
    → (at < skip_end marker at bytes) × (skip_end marker at bytes ≤ at + length bytes)
skip_end-past marker at [] some = absurd (omega arith)
skip_end-past marker at (b ∷ bytes) some = end_past at (length bytes) (next_sync marker (at + 1) bytes) (next_sync-within marker (at + 1) bytes)

-- ---- what is salvaged

-- what is salvaged from a place on, given what stands first
abbrev after : ℕ → List ℕ → ℕ → List ℕ → Entry → List Item
after fuel marker at bytes NoEntry = []
after fuel marker at bytes SyncEntry = salvaged_from fuel marker (at + 20) (drop 20 bytes)
after fuel marker at bytes (RecordEntry key value) =
    Kept (placed at key value) ∷ salvaged_from fuel marker (at + size_of_record key value) (drop (size_of_record key value) bytes)
after fuel marker at bytes (Damaged why) =
    Skipped at (skip_end marker at bytes)
    ∷ salvaged_from fuel marker (skip_end marker at bytes) (drop (skip_end marker at bytes - at) bytes)

-- more fuel than bytes doesn't matter
pub salvaged_from-fuel : (f g : ℕ) (marker : List ℕ) (at : ℕ) (bytes : List ℕ) → length bytes ≤ f → length bytes ≤ g
    → salvaged_from f marker at bytes ≡ salvaged_from g marker at bytes
salvaged_from-fuel zero zero marker at bytes less fewer = refl
salvaged_from-fuel zero (suc g) marker at [] less fewer = sym (ap (after g marker at []) (entry_at-nil marker))
salvaged_from-fuel zero (suc g) marker at (b ∷ bytes) less fewer = absurd (omega arith)
salvaged_from-fuel (suc f) zero marker at [] less fewer = ap (after f marker at []) (entry_at-nil marker)
salvaged_from-fuel (suc f) zero marker at (b ∷ bytes) less fewer = absurd (omega arith)
salvaged_from-fuel (suc f) (suc g) marker at [] less fewer =
    ap (after f marker at []) (entry_at-nil marker) ∙ sym (ap (after g marker at []) (entry_at-nil marker))
salvaged_from-fuel (suc f) (suc g) marker at (b ∷ bytes) less fewer =
    elim (entry_at marker all) as (λ e. after f marker at all e ≡ after g marker at all e) [
      | NoEntry ↦ refl
      | SyncEntry ↦ salvaged_from-fuel f g marker (at + 20) (drop 20 all) (omega (arith, length-drop 20 all)) (omega (arith, length-drop 20 all))
      | RecordEntry key value ↦
          let size : ℕ = size_of_record key value in
          ap (λ xs. Kept (placed at key value) ∷ xs)
          (salvaged_from-fuel f g marker (at + size) (drop size all) (omega (arith, length-drop size all)) (omega (arith, length-drop size all)))
      | Damaged why ↦
          let to : ℕ = skip_end marker at all in
          let past = (skip_end-past marker at all (omega arith)).0 in
          ap (λ xs. Skipped at to ∷ xs)
          (salvaged_from-fuel f g marker to (drop (to - at) all) (omega (arith, length-drop (to - at) all)) (omega (arith, length-drop (to - at) all)))
    ]
  where
    all : List ℕ
    all = b ∷ bytes

-- a sync entry gives nothing
pub salvaged_at-sync : (marker : List ℕ) (at : ℕ) (bytes : List ℕ) → entry_at marker bytes ≡ SyncEntry
    → salvaged_at marker at bytes ≡ salvaged_at marker (at + 20) (drop 20 bytes)
salvaged_at-sync marker at [] first = let none = entry_at-nil marker in cc
salvaged_at-sync marker at (b ∷ bytes) first =
    ap (after (length bytes) marker at (b ∷ bytes)) first
    ∙ salvaged_from-fuel (length bytes) (length (drop 20 (b ∷ bytes))) marker (at + 20) (drop 20 (b ∷ bytes))
    (omega (arith, length-drop 19 bytes)) (omega arith)

-- a record is kept
pub salvaged_at-record : (marker : List ℕ) (at : ℕ) (bytes key value : List ℕ) → entry_at marker bytes ≡ RecordEntry key value
    → salvaged_at marker at bytes
    ≡ Kept (placed at key value) ∷ salvaged_at marker (at + size_of_record key value) (drop (size_of_record key value) bytes)
salvaged_at-record marker at [] key value first = let none = entry_at-nil marker in cc
salvaged_at-record marker at (b ∷ bytes) key value first =
    let size : ℕ = size_of_record key value in
    ap (after (length bytes) marker at (b ∷ bytes)) first
    ∙ ap (λ xs. Kept (placed at key value) ∷ xs)
    (salvaged_from-fuel (length bytes) (length (drop size (b ∷ bytes))) marker (at + size) (drop size (b ∷ bytes))
    (omega (arith, length-drop size (b ∷ bytes))) (omega arith))

-- damage is skipped
pub salvaged_at-damaged : (marker : List ℕ) (at : ℕ) (bytes : List ℕ) (why : Why) → entry_at marker bytes ≡ Damaged why
    → salvaged_at marker at bytes
    ≡ Skipped at (skip_end marker at bytes) ∷ salvaged_at marker (skip_end marker at bytes) (drop (skip_end marker at bytes - at) bytes)
salvaged_at-damaged marker at [] why first = let none = entry_at-nil marker in cc
salvaged_at-damaged marker at (b ∷ bytes) why first =
    let to : ℕ = skip_end marker at (b ∷ bytes) in
    let past = (skip_end-past marker at (b ∷ bytes) (omega arith)).0 in
    ap (after (length bytes) marker at (b ∷ bytes)) first
    ∙ ap (λ xs. Skipped at to ∷ xs)
    (salvaged_from-fuel (length bytes) (length (drop (to - at) (b ∷ bytes))) marker to (drop (to - at) (b ∷ bytes))
    (omega (arith, length-drop (to - at) (b ∷ bytes))) (omega arith))

-- behind a header
pub salvage_of-header : (bytes : List ℕ) (head : HeaderRef) → read_header bytes ≡ Ok head
    → salvage_of bytes ≡ salvaged_at head.marker head.end (drop head.end bytes)
unfolding salvage_of
salvage_of-header bytes head read = ap (λ r. salvaged_behind r bytes) read
