-- Fronts of a file that are SequenceFiles, and the longest one.
use Rattle.std.proofs.Common.{◌≡◌, ℕ, ◌+◌, ◌-◌, ◌^◌, ◌<◌, ◌≤◌, List, [], ◌∷◌, ◌++◌, length, take, drop, Ok, inl, inr, arith, refl, ap, ap₂, sym, subst, ◌∙◌}
use Rattle.std.proofs.lemmas.List.{length-append, length-take-le, length-drop, take_at, drop_at, take-append-drop, drop-drop, append_assoc, append-nil, append_cancel_left}
use Rattle.chk_bytes.specs.Laws.{AreBytes}
use Rattle.chk_bytes.specs.Words.{joined}
use Rattle.chk_seqfile.specs.declared.headers.HeaderRef.{HeaderRef}
use Rattle.chk_seqfile.specs.Headers.{read_header}
use Rattle.chk_seqfile.specs.Entries.{Entry, NoEntry, SyncEntry, RecordEntry, Damaged, IsEntry, AreEntries, Entries, IsSequenceFile, sync_entry, record_entry, size_of_record, entry_at}
use Rattle.chk_seqfile.proofs.EntryLemmas.{length-record_entry, entry_at-record, entry_at-sync}
use Rattle.chk_seqfile.proofs.FoundEntries.{record_found, sync_found}
use Rattle.chk_seqfile.proofs.FileLemmas.{Entries-nil, Entries-record, Entries-sync, Entries-append}
use Rattle.chk_seqfile.proofs.HeaderLemmas.{read_header-append, read_header-sound}
use Rattle.chk_salvage.specs.declared.entry.Seen.{Seen}
use Rattle.chk_salvage.specs.declared.entry.Seen.TheVariants as seen
use Rattle.chk_salvage.specs.Front.{IsFront, IsReadSo}
use Rattle.chk_salvage.specs.Views.{entry_of}
use Rattle.chk_salvage.specs.Skipping.{StandsThere}

-- ---- what was read is a SequenceFile

-- a header
pub read_so_header : (bytes : List ℕ) (head : HeaderRef) → read_header bytes ≡ Ok head → IsReadSo head.marker bytes head.end
read_so_header bytes head read =
    let found = read_header-sound bytes head read in
    record {
      within = found.0;
      file = record {
        marker = head.marker;
        head = take head.end bytes;
        entries = [];
        is = sym (append-nil (take head.end bytes));
        header = found.1;
        form = Entries-nil head.marker;
      };
      marker_is = refl;
    }

-- entries behind it
pub take_further : (bytes : List ℕ) (place : ℕ) (piece rest : List ℕ) → place ≤ length bytes → drop place bytes ≡ piece ++ rest
    → take (place + length piece) bytes ≡ take place bytes ++ piece
take_further bytes place piece rest within split =
    let front : List ℕ = take place bytes in
    let whole : bytes ≡ (front ++ piece) ++ rest =
    sym (take-append-drop place bytes) ∙ ap (λ x. front ++ x) split ∙ sym (append_assoc front piece rest) in
    let size : length (front ++ piece) ≡ place + length piece =
    length-append front piece ∙ ap (λ n. n + length piece) (length-take-le place bytes within) in
    ap (take (place + length piece)) whole ∙ take_at (front ++ piece) rest (place + length piece) size

pub read_so_more : (marker bytes : List ℕ) (place : ℕ) (piece rest : List ℕ) → IsReadSo marker bytes place → Entries marker piece
    → drop place bytes ≡ piece ++ rest → IsReadSo marker bytes (place + length piece)
read_so_more marker bytes place piece rest so form split =
    let within = so.within in
    let left : length bytes - place ≡ length piece + length rest =
    sym (length-drop place bytes) ∙ ap length split ∙ length-append piece rest in
    record {
      within = omega arith;
      file = record {
        marker = so.file.marker;
        head = so.file.head;
        entries = so.file.entries ++ piece;
        is = take_further bytes place piece rest within split ∙ ap (λ x. x ++ piece) so.file.is
            ∙ append_assoc so.file.head so.file.entries piece;
        header = so.file.header;
        form = Entries-append so.file.marker so.file.entries piece so.file.form
            (subst (λ m. Entries m piece) (sym so.marker_is) form);
      };
      marker_is = so.marker_is;
    }

-- a sync entry that was read
pub read_so_sync : (marker bytes : List ℕ) (place : ℕ) → length marker ≡ 16 → AreBytes (drop place bytes) → entry_at marker (drop place bytes) ≡ SyncEntry
    → IsReadSo marker bytes place → IsReadSo marker bytes (place + 20)
read_so_sync marker bytes place wide are read so =
    let size : length (sync_entry marker) ≡ 20 = omega arith in
    subst (λ n. IsReadSo marker bytes (place + n)) size
    (read_so_more marker bytes place (sync_entry marker) (drop 20 (drop place bytes)) so (Entries-sync marker)
    (sync_found marker (drop place bytes) are read))

-- a record that stands there
pub read_so_record : (marker bytes : List ℕ) (place : ℕ) (key value rest : List ℕ) → 8 + length key + length value < 2 ^ 31
    → drop place bytes ≡ record_entry key value ++ rest
    → IsReadSo marker bytes place → IsReadSo marker bytes (place + size_of_record key value)
read_so_record marker bytes place key value rest small stands so =
    subst (λ n. IsReadSo marker bytes (place + n)) (length-record_entry key value)
    (read_so_more marker bytes place (record_entry key value) rest so (Entries-record marker key value small) stands)

-- what is seen stands there
pub seen_stands : (marker bytes : List ℕ) (at : ℕ) (s : Seen) → AreBytes (drop at bytes) → entry_of s ≡ entry_at marker (drop at bytes) → StandsThere s bytes at
seen_stands marker bytes at seen.Nothing are is = tt
seen_stands marker bytes at seen.Sync are is = tt
seen_stands marker bytes at (seen.Record key value) are is =
    let found = record_found marker (drop at bytes) key.now value.now are (sym is) in
    (found.0, found.1 ∙ ap (λ r. record_entry key.now value.now ++ r) (drop-drop (size_of_record key.now value.now) at bytes))
seen_stands marker bytes at (seen.Damaged why) are is = tt

-- ---- the longest one

-- no entry stands first
abbrev pub IsStopped : Entry → Type 0
IsStopped NoEntry = Unit {0}
IsStopped SyncEntry = ⊥
IsStopped (RecordEntry key value) = ⊥
IsStopped (Damaged why) = Unit {0}

-- an entry that stands first doesn't stop
not_stopped : (marker e rest : List ℕ) → length marker ≡ 16 → IsEntry marker e → IsStopped (entry_at marker (e ++ rest)) → ⊥
not_stopped marker e rest wide (inl sync) stopped =
    subst IsStopped (ap (λ x. entry_at marker (x ++ rest)) sync ∙ entry_at-sync marker rest wide) stopped
not_stopped marker e rest wide (inr r) stopped =
    subst IsStopped (ap (λ x. entry_at marker (x ++ rest)) r.is ∙ entry_at-record marker r.key r.value rest r.small) stopped

-- the first of two ways to read the same bytes is the other
same_entry : (marker e rest e' rest' : List ℕ) → length marker ≡ 16 → IsEntry marker e → IsEntry marker e' → e ++ rest ≡ e' ++ rest' → e ≡ e'
same_entry marker e rest e' rest' wide (inl sync) (inl sync') same = sync ∙ sym sync'
same_entry marker e rest e' rest' wide (inl sync) (inr r) same =
    let one : entry_at marker (e ++ rest) ≡ SyncEntry = ap (λ x. entry_at marker (x ++ rest)) sync ∙ entry_at-sync marker rest wide in
    let other : entry_at marker (e' ++ rest') ≡ RecordEntry r.key r.value = ap (λ x. entry_at marker (x ++ rest')) r.is ∙ entry_at-record marker r.key r.value rest' r.small in
    cc
same_entry marker e rest e' rest' wide (inr r) (inl sync) same =
    let one : entry_at marker (e ++ rest) ≡ RecordEntry r.key r.value = ap (λ x. entry_at marker (x ++ rest)) r.is ∙ entry_at-record marker r.key r.value rest r.small in
    let other : entry_at marker (e' ++ rest') ≡ SyncEntry = ap (λ x. entry_at marker (x ++ rest')) sync ∙ entry_at-sync marker rest' wide in
    cc
same_entry marker e rest e' rest' wide (inr r) (inr r') same =
    let one : entry_at marker (e ++ rest) ≡ RecordEntry r.key r.value = ap (λ x. entry_at marker (x ++ rest)) r.is ∙ entry_at-record marker r.key r.value rest r.small in
    let other : entry_at marker (e' ++ rest') ≡ RecordEntry r'.key r'.value = ap (λ x. entry_at marker (x ++ rest')) r'.is ∙ entry_at-record marker r'.key r'.value rest' r'.small in
    let both : RecordEntry r.key r.value ≡ RecordEntry r'.key r'.value = sym one ∙ ap (entry_at marker) same ∙ other in
    let keys : r.key ≡ r'.key = cc in
    let values : r.value ≡ r'.value = cc in
    r.is ∙ ap₂ record_entry keys values ∙ sym r'.is

-- entries of the same bytes end by the place where reading stops
no_longer : (marker : List ℕ) (es es' : List (List ℕ)) (rest rest' : List ℕ) → length marker ≡ 16 → AreEntries marker es → AreEntries marker es'
    → IsStopped (entry_at marker rest) → joined es ++ rest ≡ joined es' ++ rest' → length (joined es') ≤ length (joined es)
no_longer marker es [] rest rest' wide each each' stopped same = omega arith
no_longer marker [] (e' ∷ es') rest rest' wide each each' stopped same =
    absurd (not_stopped marker e' (joined es' ++ rest') wide each'.0
    (subst (λ x. IsStopped (entry_at marker x)) (same ∙ append_assoc e' (joined es') rest') stopped))
no_longer marker (e ∷ es) (e' ∷ es') rest rest' wide each each' stopped same =
    let split : e ++ (joined es ++ rest) ≡ e' ++ (joined es' ++ rest') =
    sym (append_assoc e (joined es) rest) ∙ same ∙ append_assoc e' (joined es') rest' in
    let first : e ≡ e' = same_entry marker e (joined es ++ rest) e' (joined es' ++ rest') wide each.0 each'.0 split in
    let others : joined es ++ rest ≡ joined es' ++ rest' =
    append_cancel_left e (joined es ++ rest) (joined es' ++ rest') (split ∙ ap (λ x. x ++ (joined es' ++ rest')) (sym first)) in
    let fewer = no_longer marker es es' rest rest' wide each.1 each'.1 stopped others in
    let sizes = ap length first in
    omega (arith, length-append e (joined es), length-append e' (joined es'))

-- a front that is a SequenceFile is its header, its entries and what follows
parts_of : (bytes : List ℕ) (n : ℕ) (f : IsSequenceFile (take n bytes)) → bytes ≡ f.head ++ (f.entries ++ drop n bytes)
parts_of bytes n f =
    sym (take-append-drop n bytes) ∙ ap (λ x. x ++ drop n bytes) f.is ∙ append_assoc f.head f.entries (drop n bytes)

-- its header is that of the bytes
pub header_of_front : (bytes : List ℕ) (n : ℕ) (f : IsSequenceFile (take n bytes))
    → read_header bytes ≡ Ok (record { marker = f.marker; end = length f.head })
header_of_front bytes n f =
    ap read_header (parts_of bytes n f) ∙ read_header-append f.marker f.head (f.entries ++ drop n bytes) f.header

-- its size
size_of_front : (bytes : List ℕ) (n : ℕ) (f : IsSequenceFile (take n bytes)) → n ≤ length bytes → length f.head + length (joined f.form.pieces) ≡ n
size_of_front bytes n f within =
    ap (λ x. length f.head + length x) (sym f.form.is) ∙ sym (length-append f.head f.entries) ∙ ap length (sym f.is)
    ∙ length-take-le n bytes within

-- two heads that were read from the same bytes are the same
same_head : (bytes : List ℕ) (a b : HeaderRef) → read_header bytes ≡ Ok a → read_header bytes ≡ Ok b → a ≡ b
same_head bytes a b first second = cc

-- where what was read is a SequenceFile and no entry stands, the longest sound front ends
pub front_here : (marker bytes : List ℕ) (place : ℕ) → IsReadSo marker bytes place → IsStopped (entry_at marker (drop place bytes)) → IsFront bytes place
front_here marker bytes place so stopped = record {
  within = so.within;
  sound = so.file;
  longest = λ m inside g.
      let f = so.file in
      let heads = same_head bytes (record { marker = f.marker; end = length f.head }) (record { marker = g.marker; end = length g.head })
      (header_of_front bytes place f) (header_of_front bytes m g) in
      let markers : g.marker ≡ marker = sym (ap (λ h. h.marker) heads) ∙ so.marker_is in
      let sizes : length f.head ≡ length g.head = ap (λ h. h.end) heads in
      let behind : joined f.form.pieces ++ drop place bytes ≡ joined g.form.pieces ++ drop m bytes =
      ap (λ x. x ++ drop place bytes) (sym f.form.is)
      ∙ sym (ap (drop (length f.head)) (parts_of bytes place f) ∙ drop_at f.head (f.entries ++ drop place bytes) (length f.head) refl)
      ∙ ap (λ n. drop n bytes) sizes
      ∙ ap (drop (length g.head)) (parts_of bytes m g) ∙ drop_at g.head (g.entries ++ drop m bytes) (length g.head) refl
      ∙ ap (λ x. x ++ drop m bytes) g.form.is in
      let fewer = no_longer marker f.form.pieces g.form.pieces (drop place bytes) (drop m bytes)
      (ap length (sym so.marker_is) ∙ f.header.marker_size)
      (subst (λ k. AreEntries k f.form.pieces) so.marker_is f.form.each)
      (subst (λ k. AreEntries k g.form.pieces) markers g.form.each) stopped behind in
      let size = size_of_front bytes place f so.within in
      let other_size = size_of_front bytes m g inside in
      omega arith;
}
