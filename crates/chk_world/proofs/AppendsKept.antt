-- A line of a good answer to a post names a record that stands in its sink.
use Rattle.std.proofs.Common.{◌≡◌, ◌⊎◌, inl, inr, ℕ, ◌+◌, ◌^◌, Bool, true, false, ◌&&◌, List, [], ◌∷◌, ◌++◌, length, drop, get_or, append-nil, ap, sym, subst, ◌∙◌, refl, arith, true≢false, MatchBool, if◌then◌else◌, bytes_eq}
use Rattle.std.specs.Prelude.{IsTrue, Contains, filter_map, codes, ◌==◌, ◌/◌, ◌%◌}
use Rattle.std.proofs.lemmas.Bool.{and_parts}
use Rattle.std.proofs.lemmas.Option.{same_Some}
use Rattle.std.proofs.lemmas.List.Elements.{Contains-append_right, filter_map-append}
use Rattle.std.proofs.Math.Seq.{drop-append_seam}
use Rattle.chk_bytes.specs.Stems.{Stem, is_stem, stem_text}
use Rattle.chk_bytes.specs.Words.{before_end}
use Rattle.chk_seqfile.specs.Headers.{header, written_front, class_text}
use Rattle.chk_seqfile.specs.Entries.{Entry, NoEntry, SyncEntry, RecordEntry, Damaged, entry_at, sync_entry, record_entry, piece_at, is_sync_due, placed, record_place, records_of}
use Rattle.chk_seqfile.proofs.HeaderLemmas.{length-header, length-marker_of}
use Rattle.chk_seqfile.proofs.EntryLemmas.{entry_at-record, entry_at-sync, length-record_entry}
use Rattle.chk_seqfile.proofs.FileLemmas.{records_of-piece}
use Rattle.chk_chunk.specs.Keys.{Chunk, IsKey, is_chunk, chunk_limit, read_key}
use Rattle.chk_chunk.proofs.KeyLaws.{key_is_read}
use Rattle.chk_world.specs.Names.{Name, SinkFile, Temporary, OtherFile, guessed_name, picked, is_known, spell, if_spelled, read}
use Rattle.chk_world.specs.Books.{chunk_of, chunks_within}
use Rattle.chk_world.specs.Collectors.{Current, Handling, IsPosted, IsNextPiece, marker}
use Rattle.chk_world.specs.Rules.{is_sink}
use Rattle.chk_world.proofs.Forms.{Grows, posted_valid, one_chunk, record_small}

-- a name that is read as a sink's has a stem that can be spelled
pub known_sink : (w : List ℕ) (x : Stem) → read w ≡ SinkFile x → IsTrue (is_stem x)
unfolding read
known_sink w x e = go (picked (λ t. Temporary (guessed_name t)) (before_end (codes ".tmp") w) (guessed_name w)) e
  where
    pick : (n : Name) (b : Bool) → is_known n && bytes_eq (spell n) w ≡ b → (if b then n else OtherFile w) ≡ SinkFile x → IsTrue (is_stem x)
    pick n true k e = subst (λ m. is_known m ≡ true) e (and_parts (is_known n) (bytes_eq (spell n) w) k).0
    pick n false k e = absurd (true≢false (sym (ap is_sink e)))

    go : (n : Name) → if_spelled n w ≡ SinkFile x → IsTrue (is_stem x)
    go n e = pick n (is_known n && bytes_eq (spell n) w) refl e

-- ---- a record is of one chunk

key_in : Entry → List ℕ
key_in (RecordEntry key value) = key
key_in NoEntry = []
key_in SyncEntry = []
key_in (Damaged why) = []

value_in : Entry → List ℕ
value_in (RecordEntry key value) = value
value_in NoEntry = []
value_in SyncEntry = []
value_in (Damaged why) = []

is_record : Entry → Bool
is_record (RecordEntry key value) = true
is_record NoEntry = false
is_record SyncEntry = false
is_record (Damaged why) = false

read_so : (m : List ℕ) (c : Chunk) (key : List ℕ) → IsTrue (is_chunk c) → IsKey c.key key → entry_at m (record_entry key c.value) ≡ RecordEntry key c.value
read_so m c key valid is =
    ap (entry_at m) (sym (append-nil (record_entry key c.value))) ∙ entry_at-record m key c.value [] (record_small c key valid is)

one_record : (c d : Chunk) (key other : List ℕ) → IsTrue (is_chunk c) → IsTrue (is_chunk d) → IsKey c.key key → IsKey d.key other
    → record_entry key c.value ≡ record_entry other d.value → c ≡ d
unfolding key_in value_in
one_record c d key other valid well is are same =
    let e : RecordEntry key c.value ≡ RecordEntry other d.value = sym (read_so [] c key valid is) ∙ (ap (entry_at []) same ∙ read_so [] d other well are) in
    let keys : c.key ≡ d.key =
    same_Some c.key d.key (sym (key_is_read c.key key is) ∙ (ap read_key (ap key_in e) ∙ key_is_read d.key other are)) in
    let values : c.value ≡ d.value = ap value_in e in
    λ i. record { key = keys i; value = values i }

no_sync : (m : List ℕ) (c : Chunk) (key rest : List ℕ) → length m ≡ 16 → IsTrue (is_chunk c) → IsKey c.key key
    → sync_entry m ++ rest ≡ record_entry key c.value → ⊥
unfolding is_record
no_sync m c key rest wide valid is e =
    true≢false (sym (ap is_record (read_so m c key valid is)) ∙ (ap is_record (ap (entry_at m) (sym e)) ∙ ap is_record (entry_at-sync m rest wide)))

no_header : (m key value : List ℕ) → length m ≡ 16 → header m ≡ record_entry key value → ⊥
unfolding written_front class_text
no_header m key value wide e =
    let size : length (record_entry key value) ≡ 16 + length key + length value = length-record_entry key value in
    let first : 83 ≡ (8 + length key + length value) / 2 ^ 24 % 256 = ap (λ l. get_or l 0 0) e in
    omega (arith, size, length-header m wide, ap length e, first)

no_header_behind : (m rest : List ℕ) → header m ≡ sync_entry m ++ rest → ⊥
unfolding written_front class_text
no_header_behind m rest e = let first : 83 ≡ 255 = ap (λ l. get_or l 0 0) e in omega (arith, first)

-- the piece for a chunk that tells of another one is for that one
same_piece : (m : List ℕ) (b : Bool) (c d : Chunk) (key other piece : List ℕ) → length m ≡ 16 → IsTrue (is_chunk c) → IsTrue (is_chunk d)
    → IsKey c.key key → IsKey d.key other → piece ≡ (if b then sync_entry m ++ record_entry other d.value else record_entry other d.value)
    → (piece ≡ record_entry key c.value) ⊎ (piece ≡ sync_entry m ++ record_entry key c.value) → c ≡ d
same_piece m true c d key other piece wide valid well is are e (inl h) = absurd (no_sync m c key (record_entry other d.value) wide valid is (sym e ∙ h))
same_piece m true c d key other piece wide valid well is are e (inr h) =
    one_record c d key other valid well is are
    (sym (drop-append_seam (sync_entry m) (record_entry key c.value)) ∙ (ap (drop (length (sync_entry m))) (sym h ∙ e) ∙ drop-append_seam (sync_entry m) (record_entry other d.value)))
same_piece m false c d key other piece wide valid well is are e (inl h) = one_record c d key other valid well is are (sym h ∙ e)
same_piece m false c d key other piece wide valid well is are e (inr h) = absurd (no_sync m d other (record_entry key c.value) wide well are (sym h ∙ e))

-- what was appended for a chunk is a record of it in the sink
pub told_stands : (handled : List Handling) (cur : Current) (x : Stem) (written piece key : List ℕ) (c : Chunk) → cur.stem ≡ x → Grows x written
    → IsNextPiece handled cur (length written) piece → IsTrue (is_chunk c) → IsKey c.key key
    → (piece ≡ record_entry key c.value) ⊎ (piece ≡ sync_entry (marker x) ++ record_entry key c.value)
    → Contains (chunks_within chunk_limit (written ++ piece)) c
told_stands handled cur x written piece key c is grows next valid is_key tells =
    go (length written == 0) refl grows (subst (λ y. MatchBool (length written == 0) (piece ≡ header (marker y))
    ((c : Chunk) × (key : List ℕ) × IsPosted handled c × IsKey c.key key
    × (piece ≡ piece_at (marker y) (length written) cur.sync_end key c.value))) is next)
  where
    wide : length (marker x) ≡ 16
    wide = length-marker_of (stem_text x)

    go : (b : Bool) → (length written == 0) ≡ b → Grows x written
        → MatchBool b (piece ≡ header (marker x)) ((c : Chunk) × (key : List ℕ) × IsPosted handled c × IsKey c.key key
        × (piece ≡ piece_at (marker x) (length written) cur.sync_end key c.value))
        → Contains (chunks_within chunk_limit (written ++ piece)) c
    go true e g k = elim tells [
      | inl h ↦ absurd (no_header (marker x) key c.value wide (sym k ∙ h))
      | inr h ↦ absurd (no_header_behind (marker x) (record_entry key c.value) (sym k ∙ h))
    ]
    go false e (inl none) k = absurd (true≢false (sym (ap (λ w. length w == 0) none) ∙ e))
    go false e (inr s) k =
        let d = k.0 in
        let other = k.1 in
        let well = posted_valid handled d k.2 in
        let same : c ≡ d = same_piece (marker x) (is_sync_due (length written) cur.sync_end) c d key other piece wide valid well is_key k.3 k.4 tells in
        let last = placed (record_place (length written) cur.sync_end) other d.value ∷ [] in
        let chunks : chunks_within chunk_limit (written ++ piece) ≡ chunks_within chunk_limit written ++ d ∷ [] =
        ap (λ p. chunks_within chunk_limit (written ++ p)) (k.4 ∙ ap (λ m. piece_at m (length written) cur.sync_end other d.value) (sym s.marker_is))
        ∙ (ap (filter_map (chunk_of chunk_limit)) (records_of-piece written s.form cur.sync_end other d.value (record_small d other well k.3))
        ∙ (filter_map-append (chunk_of chunk_limit) (records_of written) last
        ∙ ap (λ l. chunks_within chunk_limit written ++ l) (one_chunk d other (record_place (length written) cur.sync_end) well k.3))) in
        subst (λ cs. Contains cs c) (sym chunks) (Contains-append_right (chunks_within chunk_limit written) (d ∷ []) c (0, omega arith, sym same))
