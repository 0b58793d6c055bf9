-- What is read of whole files, and of cut ones.
use Rattle.std.proofs.Common.{◌≡◌, ℕ, zero, suc, ◌+◌, ◌-◌, ◌^◌, ◌<◌, ◌≤◌, Bool, true, false, cond, nat_le, List, [], ◌∷◌, ◌++◌, length, take, Err, inl, inr, ⊎_elim, arith, refl, ap, ap₂, sym, ◌∙◌}
use Rattle.std.proofs.lemmas.List.{length-append, take_all, drop_at, append_assoc, append-nil}
use Rattle.std.proofs.lemmas.Bool.{le-leb, lt-leb, cond-true, cond-false, cond_both, cases_lt}
use Rattle.chk_bytes.specs.Words.{joined}
use Rattle.chk_seqfile.specs.declared.headers.HeaderFault.TheVariants.{Short}
use Rattle.chk_seqfile.specs.Headers.{header, read_header}
use Rattle.chk_seqfile.specs.HeaderGrammar.{IsHeader}
use Rattle.chk_seqfile.specs.Entries.{sync_entry, record_entry, size_of_record, IsEntry, AreEntries, Entries, IsSequenceFile, Placed, placed, records_at, records_of, is_sync_due, piece_at, record_place, ending_by}
use Rattle.chk_seqfile.proofs.EntryLemmas.{length-record_entry, entry_at-torn, entry_some}
use Rattle.chk_seqfile.proofs.HeaderLemmas.{length-header, IsHeader-header, read_header-append, read_header-cut}
use Rattle.chk_seqfile.proofs.FieldLemmas.{take_within, take_past}
use Rattle.chk_seqfile.proofs.RecordLemmas.{records_at-damaged, placed_entry, placed_entries, records_at-entry, records_at-entries, records_of-header}

-- ---- entries behind one another

joined-append : (xs ys : List (List ℕ)) → joined (xs ++ ys) ≡ joined xs ++ joined ys
joined-append [] ys = refl
joined-append (x ∷ xs) ys =
    ap (λ z. x ++ z) (joined-append xs ys) ∙ sym (append_assoc x (joined xs) (joined ys))

AreEntries-append : (marker : List ℕ) (xs ys : List (List ℕ)) → AreEntries marker xs
    → AreEntries marker ys → AreEntries marker (xs ++ ys)
AreEntries-append marker [] ys first second = second
AreEntries-append marker (x ∷ xs) ys first second =
    (first.0, AreEntries-append marker xs ys first.1 second)

-- no entries
pub Entries-nil : (marker : List ℕ) → Entries marker []
Entries-nil marker = record { pieces = []; each = tt; is = refl }

-- entries, and then more
pub Entries-append : (marker xs ys : List ℕ) → Entries marker xs → Entries marker ys
    → Entries marker (xs ++ ys)
Entries-append marker xs ys first second = record {
  pieces = first.pieces ++ second.pieces;
  each = AreEntries-append marker first.pieces second.pieces first.each second.each;
  is = ap₂ (λ a b. a ++ b) first.is second.is ∙ sym (joined-append first.pieces second.pieces);
}

-- a record
pub Entries-record : (marker key value : List ℕ) → 8 + length key + length value < 2 ^ 31
    → Entries marker (record_entry key value)
Entries-record marker key value small = record {
  pieces = record_entry key value ∷ [];
  each = (inr (record { key = key; value = value; small = small; is = refl }), tt);
  is = sym (append-nil (record_entry key value));
}

-- a sync entry
pub Entries-sync : (marker : List ℕ) → Entries marker (sync_entry marker)
Entries-sync marker =
    record { pieces = sync_entry marker ∷ []; each = (inl refl, tt); is = sym (append-nil (sync_entry marker)) }

-- the records of entries are those of the first and those of the others
pub records_at-append : (marker : List ℕ) (at : ℕ) (xs ys : List ℕ) → length marker ≡ 16
    → Entries marker xs
    → records_at marker at (xs ++ ys) ≡ records_at marker at xs ++ records_at marker (at + length xs) ys
records_at-append marker at xs ys wide form =
    let whole : records_at marker at (joined form.pieces ++ ys) ≡ placed_entries marker at form.pieces form.each ++ records_at marker (at + length (joined form.pieces)) ys =
    records_at-entries marker at form.pieces ys form.each wide in
    let alone : records_at marker at (joined form.pieces ++ []) ≡ placed_entries marker at form.pieces form.each ++ [] =
    records_at-entries marker at form.pieces [] form.each wide in
    let first : records_at marker at xs ≡ placed_entries marker at form.pieces form.each =
    ap (records_at marker at) (form.is ∙ sym (append-nil (joined form.pieces))) ∙ alone
    ∙ append-nil (placed_entries marker at form.pieces form.each) in
    ap (λ x. records_at marker at (x ++ ys)) form.is ∙ whole
    ∙ ap₂ (λ a b. a ++ records_at marker (at + length b) ys) (sym first) (sym form.is)

-- a record alone
pub records_at-alone : (marker : List ℕ) (at : ℕ) (key value : List ℕ) → length marker ≡ 16
    → 8 + length key + length value < 2 ^ 31
    → records_at marker at (record_entry key value) ≡ placed at key value ∷ []
records_at-alone marker at key value wide small =
    ap (records_at marker at) (sym (append-nil (record_entry key value)))
    ∙ records_at-entry marker at (record_entry key value) [] (inr (record { key = key; value = value; small = small; is = refl })) wide

-- ---- what a writer appends

-- a piece is entries
pub Entries-piece : (marker : List ℕ) (place last_sync : ℕ) (key value : List ℕ)
    → 8 + length key + length value < 2 ^ 31
    → Entries marker (piece_at marker place last_sync key value)
Entries-piece marker place last_sync key value small =
    cond_both (is_sync_due place last_sync) (sync_entry marker ++ record_entry key value) (record_entry key value) (Entries marker)
    (λ due. Entries-append marker (sync_entry marker) (record_entry key value) (Entries-sync marker) (Entries-record marker key value small))
    (λ early. Entries-record marker key value small)

-- its one record
records_at-piece_due : (due : Bool) (marker : List ℕ) (at : ℕ) (key value : List ℕ)
    → length marker ≡ 16 → 8 + length key + length value < 2 ^ 31
    → records_at marker at (cond due (sync_entry marker ++ record_entry key value) (record_entry key value)) ≡ placed (cond due (at + 20) at) key value ∷ []
records_at-piece_due true marker at key value wide small =
    records_at-entry marker at (sync_entry marker) (record_entry key value) (inl refl) wide
    ∙ ap (λ n. records_at marker (at + n) (record_entry key value)) (omega arith)
    ∙ records_at-alone marker (at + 20) key value wide small
records_at-piece_due false marker at key value wide small =
    records_at-alone marker at key value wide small

pub records_at-piece : (marker : List ℕ) (place last_sync : ℕ) (key value : List ℕ)
    → length marker ≡ 16 → 8 + length key + length value < 2 ^ 31
    → records_at marker place (piece_at marker place last_sync key value) ≡ placed (record_place place last_sync) key value ∷ []
records_at-piece marker place last_sync key value wide small =
    records_at-piece_due (is_sync_due place last_sync) marker place key value wide small

-- ---- whole files

-- a header and entries are a file
-- a file with more entries is one
abbrev pub IsSequenceFile-append : (bytes more : List ℕ) (f : IsSequenceFile bytes)
    → Entries f.marker more → IsSequenceFile (bytes ++ more)
IsSequenceFile-append bytes more f form = record {
  marker = f.marker;
  head = f.head;
  entries = f.entries ++ more;
  is = ap (λ x. x ++ more) f.is ∙ append_assoc f.head f.entries more;
  header = f.header;
  form = Entries-append f.marker f.entries more f.form form;
}

-- the records behind a header
pub records_of-behind : (marker head rest : List ℕ) → IsHeader marker head
    → records_of (head ++ rest) ≡ records_at marker (length head) rest
records_of-behind marker head rest h =
    records_of-header (head ++ rest) (record { marker = marker; end = length head }) (read_header-append marker head rest h)
    ∙ ap (records_at marker (length head)) (drop_at head rest (length head) refl)

-- the records of a file with more behind it
pub records_of-append : (bytes more : List ℕ) (f : IsSequenceFile bytes)
    → records_of (bytes ++ more) ≡ records_of bytes ++ records_at f.marker (length bytes) more
records_of-append bytes more f =
    let wide = f.header.marker_size in
    let size : length bytes ≡ length f.head + length f.entries =
    ap length f.is ∙ length-append f.head f.entries in
    ap records_of (ap (λ x. x ++ more) f.is ∙ append_assoc f.head f.entries more)
    ∙ records_of-behind f.marker f.head (f.entries ++ more) f.header
    ∙ records_at-append f.marker (length f.head) f.entries more wide f.form
    ∙ ap₂ (λ a n. a ++ records_at f.marker n more) (sym (ap records_of f.is ∙ records_of-behind f.marker f.head f.entries f.header)) (sym size)

-- a written header is a file without records
abbrev pub IsSequenceFile-header : (marker : List ℕ) → length marker ≡ 16
    → IsSequenceFile (header marker)
IsSequenceFile-header marker wide = record {
  marker = marker;
  head = header marker;
  entries = [];
  is = sym (append-nil (header marker));
  header = IsHeader-header marker wide;
  form = Entries-nil marker;
}

pub records_of-written_header : (marker : List ℕ) → length marker ≡ 16
    → records_of (header marker) ≡ []
records_of-written_header marker wide =
    ap records_of (sym (append-nil (header marker)))
    ∙ records_of-behind marker (header marker) [] (IsHeader-header marker wide)

-- a piece adds its record
pub records_of-piece : (bytes : List ℕ) (f : IsSequenceFile bytes) (last_sync : ℕ) (key value : List ℕ)
    → 8 + length key + length value < 2 ^ 31
    → records_of (bytes ++ piece_at f.marker (length bytes) last_sync key value)
    ≡ records_of bytes ++ placed (record_place (length bytes) last_sync) key value ∷ []
records_of-piece bytes f last_sync key value small =
    records_of-append bytes (piece_at f.marker (length bytes) last_sync key value) f
    ∙ ap (λ x. records_of bytes ++ x) (records_at-piece f.marker (length bytes) last_sync key value f.header.marker_size small)

-- the first record behind a written header
pub records_of-first : (marker key value : List ℕ) → length marker ≡ 16
    → 8 + length key + length value < 2 ^ 31
    → records_of (header marker ++ record_entry key value) ≡ placed 96 key value ∷ []
records_of-first marker key value wide small =
    records_of-behind marker (header marker) (record_entry key value) (IsHeader-header marker wide)
    ∙ ap (λ n. records_at marker n (record_entry key value)) (length-header marker wide)
    ∙ records_at-alone marker 96 key value wide small

-- ---- cut files

ending_by-append : (n : ℕ) (xs ys : List Placed)
    → ending_by n (xs ++ ys) ≡ ending_by n xs ++ ending_by n ys
ending_by-append n [] ys = refl
ending_by-append n (x ∷ xs) ys =
    elim (nat_le x.end n) as (λ b. cond b (x ∷ ending_by n (xs ++ ys)) (ending_by n (xs ++ ys)) ≡ cond b (x ∷ ending_by n xs) (ending_by n xs) ++ ending_by n ys) [
      | true ↦ ap (λ z. x ∷ z) (ending_by-append n xs ys)
      | false ↦ ending_by-append n xs ys
    ]

-- an entry that ends past the place gives none, one that ends by it gives its own
ending_by-past : (marker : List ℕ) (at n : ℕ) (e : List ℕ) (h : IsEntry marker e)
    → n < at + length e → ending_by n (placed_entry marker at e h) ≡ []
ending_by-past marker at n e (inl sync) past = refl
ending_by-past marker at n e (inr r) past =
    let size : length e ≡ size_of_record r.key r.value =
    ap length r.is ∙ length-record_entry r.key r.value in
    cond-false _ _ _ (lt-leb (at + size_of_record r.key r.value) n (omega arith))

ending_by-within : (marker : List ℕ) (at n : ℕ) (e : List ℕ) (h : IsEntry marker e)
    → at + length e ≤ n → ending_by n (placed_entry marker at e h) ≡ placed_entry marker at e h
ending_by-within marker at n e (inl sync) within = refl
ending_by-within marker at n e (inr r) within =
    let size : length e ≡ size_of_record r.key r.value =
    ap length r.is ∙ length-record_entry r.key r.value in
    cond-true _ _ _ (le-leb (at + size_of_record r.key r.value) n (omega arith))

ending_by-none : (marker : List ℕ) (at n : ℕ) (es : List (List ℕ)) (each : AreEntries marker es)
    → n ≤ at → ending_by n (placed_entries marker at es each) ≡ []
ending_by-none marker at n [] each before = refl
ending_by-none marker at n (e ∷ es) each before =
    let some = entry_some marker e each.0 in
    ending_by-append n (placed_entry marker at e each.0) (placed_entries marker (at + length e) es each.1)
    ∙ ap₂ (λ a b. a ++ b) (ending_by-past marker at n e each.0 (omega arith)) (ending_by-none marker (at + length e) n es each.1 (omega arith))

-- of an entry that is cut nothing is read
records_at-torn : (marker : List ℕ) (at k : ℕ) (e : List ℕ) → IsEntry marker e → length marker ≡ 16
    → k < length e → records_at marker at (take k e) ≡ []
records_at-torn marker at zero e h wide cut = refl
records_at-torn marker at (suc k) e h wide cut =
    records_at-damaged marker at (take (suc k) e) (entry_at-torn marker e (suc k) h wide (omega arith) cut)

-- entries that are cut give just the records that end by the cut
pub records_at-cut : (marker : List ℕ) (at k : ℕ) (es : List (List ℕ)) (each : AreEntries marker es)
    → length marker ≡ 16
    → records_at marker at (take k (joined es)) ≡ ending_by (at + k) (placed_entries marker at es each)
records_at-cut marker at k [] each wide = ap (records_at marker at) (take_all k [] (omega arith))
records_at-cut marker at k (e ∷ es) each wide = ⊎_elim
    (λ inside.
    ap (records_at marker at) (take_within k e (joined es) (omega arith))
    ∙ records_at-torn marker at k e each.0 wide inside
    ∙ sym (split ∙ ap₂ (λ a b. a ++ b) (ending_by-past marker at (at + k) e each.0 (omega arith)) (ending_by-none marker here (at + k) es each.1 (omega arith))))
    (λ past. let same : here + (k - length e) ≡ at + k = omega arith in
    ap (records_at marker at) (take_past k e (joined es) past)
    ∙ records_at-entry marker at e (take (k - length e) (joined es)) each.0 wide
    ∙ ap₂ (λ a b. a ++ b) (sym (ending_by-within marker at (at + k) e each.0 (omega arith)))
    (records_at-cut marker here (k - length e) es each.1 wide ∙ ap (λ n. ending_by n (placed_entries marker here es each.1)) same)
    ∙ sym split)
    (cases_lt k (length e))
  where
    here : ℕ
    here = at + length e

    split : ending_by (at + k) (placed_entry marker at e each.0 ++ placed_entries marker here es each.1)
        ≡ ending_by (at + k) (placed_entry marker at e each.0) ++ ending_by (at + k) (placed_entries marker here es each.1)
    split = ending_by-append (at + k) (placed_entry marker at e each.0) (placed_entries marker here es each.1)

-- the records of a file
records_of-file : (bytes : List ℕ) (f : IsSequenceFile bytes)
    → records_of bytes ≡ placed_entries f.marker (length f.head) f.form.pieces f.form.each
records_of-file bytes f =
    let alone : records_at f.marker (length f.head) (joined f.form.pieces ++ []) ≡ placed_entries f.marker (length f.head) f.form.pieces f.form.each ++ [] =
    records_at-entries f.marker (length f.head) f.form.pieces [] f.form.each f.header.marker_size in
    ap records_of f.is ∙ records_of-behind f.marker f.head f.entries f.header
    ∙ ap (records_at f.marker (length f.head)) (f.form.is ∙ sym (append-nil (joined f.form.pieces)))
    ∙ alone ∙ append-nil (placed_entries f.marker (length f.head) f.form.pieces f.form.each)

-- a file that is cut behind its header gives just the records that end by the cut
pub records_of-cut : (bytes : List ℕ) (f : IsSequenceFile bytes) (n : ℕ) → length f.head ≤ n
    → records_of (take n bytes) ≡ ending_by n (records_of bytes)
records_of-cut bytes f n past =
    let h : ℕ = length f.head in
    let same : h + (n - h) ≡ n = omega arith in
    ap records_of (ap (take n) f.is ∙ take_past n f.head f.entries past)
    ∙ records_of-behind f.marker f.head (take (n - h) f.entries) f.header
    ∙ ap (λ x. records_at f.marker h (take (n - h) x)) f.form.is
    ∙ records_at-cut f.marker h (n - h) f.form.pieces f.form.each f.header.marker_size
    ∙ ap₂ ending_by same (sym (records_of-file bytes f))

-- a file that is cut in its header is Short
pub read_header-of_cut : (bytes : List ℕ) (f : IsSequenceFile bytes) (n : ℕ) → n < length f.head
    → read_header (take n bytes) ≡ Err Short
read_header-of_cut bytes f n inside =
    ap read_header (ap (take n) f.is ∙ take_within n f.head f.entries (omega arith))
    ∙ read_header-cut f.marker f.head n f.header inside
