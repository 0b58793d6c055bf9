-- What records are read from entries.
use Rattle.std.proofs.Common.{◌≡◌, ℕ, zero, suc, ◌+◌, ◌≤◌, List, [], ◌∷◌, ◌++◌, length, drop, Ok, inl, inr, arith, refl, ap, ap₂, sym, ◌∙◌}
use Rattle.std.proofs.lemmas.List.{length-append, length-drop, drop_at, append_assoc}
use Rattle.chk_bytes.specs.Words.{joined}
use Rattle.chk_seqfile.specs.declared.headers.HeaderRef.{HeaderRef}
use Rattle.chk_seqfile.specs.Headers.{read_header}
use Rattle.chk_seqfile.specs.Entries.{Entry, NoEntry, SyncEntry, RecordEntry, Damaged, size_of_record, IsEntry, AreEntries, entry_at, Placed, placed, records_from, records_at, records_behind, records_of}
use Rattle.chk_seqfile.proofs.EntryLemmas.{length-record_entry, entry_at-nil, entry_at-record, entry_at-sync}

-- the records from a place on, given what stands first
abbrev after : ℕ → List ℕ → ℕ → List ℕ → Entry → List Placed
after fuel marker at bytes NoEntry = []
after fuel marker at bytes SyncEntry = records_from fuel marker (at + 20) (drop 20 bytes)
after fuel marker at bytes (RecordEntry key value) =
    placed at key value ∷ records_from fuel marker (at + size_of_record key value) (drop (size_of_record key value) bytes)
after fuel marker at bytes (Damaged why) = []

-- more fuel than bytes doesn't matter
pub records_from-fuel : (f g : ℕ) (marker : List ℕ) (at : ℕ) (bytes : List ℕ) → length bytes ≤ f
    → length bytes ≤ g
    → records_from f marker at bytes ≡ records_from g marker at bytes
records_from-fuel zero zero marker at bytes less fewer = refl
records_from-fuel zero (suc g) marker at [] less fewer =
    sym (ap (after g marker at []) (entry_at-nil marker))
records_from-fuel zero (suc g) marker at (b ∷ bytes) less fewer = absurd (omega arith)
records_from-fuel (suc f) zero marker at [] less fewer =
    ap (after f marker at []) (entry_at-nil marker)
records_from-fuel (suc f) zero marker at (b ∷ bytes) less fewer = absurd (omega arith)
records_from-fuel (suc f) (suc g) marker at bytes less fewer =
    elim (entry_at marker bytes) as (λ e. after f marker at bytes e ≡ after g marker at bytes e) [
      | NoEntry ↦ refl
      | SyncEntry ↦ records_from-fuel f g marker (at + 20) (drop 20 bytes) (omega (arith, length-drop 20 bytes)) (omega (arith, length-drop 20 bytes))
      | RecordEntry key value ↦
          let size : ℕ = size_of_record key value in
          ap (λ xs. placed at key value ∷ xs)
          (records_from-fuel f g marker (at + size) (drop size bytes) (omega (arith, length-drop size bytes)) (omega (arith, length-drop size bytes)))
      | Damaged why ↦ refl
    ]

-- no bytes have no records
-- a sync entry has none
pub records_at-sync : (marker : List ℕ) (at : ℕ) (bytes : List ℕ)
    → entry_at marker bytes ≡ SyncEntry
    → records_at marker at bytes ≡ records_at marker (at + 20) (drop 20 bytes)
records_at-sync marker at [] first = let none = entry_at-nil marker in cc
records_at-sync marker at (b ∷ bytes) first =
    ap (after (length bytes) marker at (b ∷ bytes)) first
    ∙ records_from-fuel (length bytes) (length (drop 20 (b ∷ bytes))) marker (at + 20) (drop 20 (b ∷ bytes)) (omega (arith, length-drop 19 bytes)) (omega arith)

-- a record is the first one
pub records_at-record : (marker : List ℕ) (at : ℕ) (bytes key value : List ℕ)
    → entry_at marker bytes ≡ RecordEntry key value
    → records_at marker at bytes ≡ placed at key value ∷ records_at marker (at + size_of_record key value) (drop (size_of_record key value) bytes)
records_at-record marker at [] key value first = let none = entry_at-nil marker in cc
records_at-record marker at (b ∷ bytes) key value first =
    let size : ℕ = size_of_record key value in
    ap (after (length bytes) marker at (b ∷ bytes)) first
    ∙ ap (λ xs. placed at key value ∷ xs)
    (records_from-fuel (length bytes) (length (drop size (b ∷ bytes))) marker (at + size) (drop size (b ∷ bytes)) (omega (arith, length-drop size (b ∷ bytes))) (omega arith))

-- where nothing can be read there are none
pub records_at-damaged : (marker : List ℕ) (at : ℕ) (bytes : List ℕ) {why : _}
    → entry_at marker bytes ≡ Damaged why → records_at marker at bytes ≡ []
records_at-damaged marker at [] first = refl
records_at-damaged marker at (b ∷ bytes) first =
    ap (after (length bytes) marker at (b ∷ bytes)) first

-- the record that an entry is, if it is one
abbrev pub placed_entry : (marker : List ℕ) (at : ℕ) (e : List ℕ) → IsEntry marker e → List Placed
placed_entry marker at e (inl sync) = []
placed_entry marker at e (inr r) = placed at r.key r.value ∷ []

-- the records among entries
abbrev pub placed_entries : (marker : List ℕ) (at : ℕ) (es : List (List ℕ)) → AreEntries marker es
    → List Placed
placed_entries marker at [] each = []
placed_entries marker at (e ∷ es) each =
    placed_entry marker at e each.0 ++ placed_entries marker (at + length e) es each.1

-- an entry is read, whatever follows
pub records_at-entry : (marker : List ℕ) (at : ℕ) (e rest : List ℕ) (h : IsEntry marker e)
    → length marker ≡ 16
    → records_at marker at (e ++ rest) ≡ placed_entry marker at e h ++ records_at marker (at + length e) rest
records_at-entry marker at e rest (inl sync) wide =
    let size : length e ≡ 20 = let all = ap length sync in omega arith in
    records_at-sync marker at (e ++ rest) (ap (λ x. entry_at marker (x ++ rest)) sync ∙ entry_at-sync marker rest wide)
    ∙ ap₂ (λ n x. records_at marker (at + n) x) (sym size) (drop_at e rest 20 size)
records_at-entry marker at e rest (inr r) wide =
    let size : length e ≡ size_of_record r.key r.value =
    ap length r.is ∙ length-record_entry r.key r.value in
    records_at-record marker at (e ++ rest) r.key r.value (ap (λ x. entry_at marker (x ++ rest)) r.is ∙ entry_at-record marker r.key r.value rest r.small)
    ∙ ap (λ xs. placed at r.key r.value ∷ xs)
    (ap₂ (λ n x. records_at marker (at + n) x) (sym size) (drop_at e rest (size_of_record r.key r.value) size))

-- entries are read one after the other, whatever follows
pub records_at-entries : (marker : List ℕ) (at : ℕ) (es : List (List ℕ)) (rest : List ℕ) (each : AreEntries marker es)
    → length marker ≡ 16
    → records_at marker at (joined es ++ rest) ≡ placed_entries marker at es each ++ records_at marker (at + length (joined es)) rest
records_at-entries marker at [] rest each wide = ap (λ n. records_at marker n rest) (omega arith)
records_at-entries marker at (e ∷ es) rest each wide =
    let here : ℕ = at + length e in
    let there : here + length (joined es) ≡ at + length (e ++ joined es) =
    omega (arith, length-append e (joined es)) in
    ap (records_at marker at) (append_assoc e (joined es) rest)
    ∙ records_at-entry marker at e (joined es ++ rest) each.0 wide
    ∙ ap (λ xs. placed_entry marker at e each.0 ++ xs)
    (records_at-entries marker here es rest each.1 wide
    ∙ ap (λ n. placed_entries marker here es each.1 ++ records_at marker n rest) there)
    ∙ sym (append_assoc (placed_entry marker at e each.0) (placed_entries marker here es each.1) (records_at marker (at + length (e ++ joined es)) rest))

-- the records of bytes with a header are those from its end on
pub records_of-header : (bytes : List ℕ) (head : HeaderRef) → read_header bytes ≡ Ok head
    → records_of bytes ≡ records_at head.marker head.end (drop head.end bytes)
unfolding records_of
records_of-header bytes head read = ap (λ r. records_behind r bytes) read
