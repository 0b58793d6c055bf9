-- What is written to a segment is a SequenceFile of its chunks.
use Rattle.std.proofs.Common.{◌≡◌, ℕ, ◌+◌, ◌≤◌, ◌<◌, ◌^◌, Bool, true, false, List, [], ◌∷◌, ◌++◌, length, length-append, refl, ap, sym, subst, ◌∙◌, arith, nat_le, nat_lt, ◌&&◌, bytes_eq, codes, if◌then◌else◌}
use Rattle.std.specs.Prelude.{IsTrue, filter_map}
use Rattle.std.specs.List.{cons_option}
use Rattle.std.proofs.lemmas.Bool.{and_parts, leb-true}
use Rattle.std.proofs.lemmas.List.Elements.{filter_map-append}
use Rattle.chk_chunk.specs.Keys.{Chunk, IsKey, is_key, has_value, written_key, chunk_limit, record_limit}
use Rattle.chk_chunk.proofs.KeyLaws.{written_key_is_key, key_is_read}
use Rattle.chk_chunk.proofs.KeySizes.{key_size}
use Rattle.chk_seqfile.specs.Headers.{header, marker_of}
use Rattle.chk_seqfile.specs.Entries.{Placed, records_of, piece_at, placed, record_place, sync_entry, record_entry, is_sync_due}
use Rattle.chk_seqfile.proofs.HeaderLemmas.{length-header, length-marker_of}
use Rattle.chk_seqfile.proofs.EntryLemmas.{length-record_entry}
use Rattle.chk_seqfile.proofs.FileLemmas.{IsSequenceFile-header, IsSequenceFile-append, Entries-piece, records_of-written_header, records_of-piece}
use Rattle.chk_world.specs.Books.{chunks_within, chunk_of, chunk_with, chunk_if}
use Rattle.chk_book.specs.Folders.{most_in}
use Rattle.chk_book.specs.Segmenting.{IsSegmentOf}

-- a segment with this marker
abbrev pub Marked : ℕ → List ℕ → List ℕ → List Chunk → Type 0
Marked most marker bytes chunks = (s : IsSegmentOf most bytes chunks) × (s.form.form.marker ≡ marker)

pub at_bytes : (most : ℕ) (marker : List ℕ) (chunks : List Chunk) {a b : List ℕ} → a ≡ b → Marked most marker a chunks → Marked most marker b chunks
at_bytes most marker chunks e m = subst (λ (x : List ℕ). Marked most marker x chunks) e m

pub most_bound : (folder : List ℕ) → most_in folder ≤ 1048576
most_bound folder = go (bytes_eq folder (codes "demux"))
  where
    go : (b : Bool) → (if b then record_limit else chunk_limit) ≤ 1048576
    go true = omega arith
    go false = omega arith

-- a header is a segment without chunks
pub header_form : (most : ℕ) (stem : List ℕ) → Marked most (marker_of stem) (header (marker_of stem)) []
header_form most stem =
    let wide = length-marker_of stem in
    let none = records_of-written_header (marker_of stem) wide in
    let size = length-header (marker_of stem) wide in (
      record {
        form = record {
          form = IsSequenceFile-header (marker_of stem) wide;
          all = ap (λ rs. length (filter_map (chunk_of most) rs)) none ∙ sym (ap length none);
        };
        are = ap (filter_map (chunk_of most)) none;
        begun = omega (arith, size);
        small = omega (arith, size);
      },
      refl,
    )

-- the record of a chunk is read as it
one_chunk : (most : ℕ) (c : Chunk) (key : List ℕ) (at : ℕ) → IsTrue (has_value most c.key c.value) → IsKey c.key key
    → filter_map (chunk_of most) (placed at key c.value ∷ []) ≡ c ∷ []
one_chunk most c key at valid is =
    ap (λ k. cons_option (chunk_with most k c.value) []) (key_is_read c.key key is)
    ∙ ap (λ ok. cons_option (chunk_if ok c.key c.value) []) valid

pub value_bound : (most : ℕ) (c : Chunk) → IsTrue (has_value most c.key c.value) → length c.value ≤ most
value_bound most c valid =
    let n : ℕ = length c.value in
    let value = and_parts (nat_lt 0 n) (nat_le n most && nat_le (c.key.start + n) c.key.seq) valid in
    leb-true n most (and_parts (nat_le n most) (nat_le (c.key.start + n) c.key.seq) value.1).0

piece_size : (marker : List ℕ) (place last : ℕ) (key value : List ℕ) → length marker ≡ 16
    → length (piece_at marker place last key value) ≤ 36 + length key + length value
piece_size marker place last key value wide = go (is_sync_due place last)
  where
    go : (b : Bool) → length (if b then sync_entry marker ++ record_entry key value else record_entry key value) ≤ 36 + length key + length value
    go true = omega (arith, length-append (sync_entry marker) (record_entry key value), length-record_entry key value, wide)
    go false = omega (arith, length-record_entry key value)

-- with a piece for a chunk it has that chunk behind the others
pub piece_form : (most : ℕ) (marker bytes : List ℕ) (chunks : List Chunk) → Marked most marker bytes chunks
    → (c : Chunk) (last : ℕ) → most ≤ 1048576 → length bytes ≤ 2 ^ 62 → IsTrue (is_key c.key) → IsTrue (has_value most c.key c.value)
    → Marked most marker (bytes ++ piece_at marker (length bytes) last (written_key c.key) c.value) (chunks ++ c ∷ [])
piece_form most marker bytes chunks (s, is) c last fits room known valid =
    subst (λ (m : List ℕ). Marked most marker (bytes ++ piece_at m (length bytes) last key c.value) (chunks ++ c ∷ [])) is (
      record {
        form = record { form = IsSequenceFile-append bytes piece s.form.form (Entries-piece s.form.form.marker (length bytes) last key c.value small); all = counted };
        are = more_chunks ∙ ap (λ cs. cs ++ c ∷ []) s.are;
        begun = omega (arith, s.begun, length-append bytes piece);
        small = omega (arith, room, length-append bytes piece, piece_size s.form.form.marker (length bytes) last key c.value s.form.form.header.marker_size, short, wide);
      },
      is,
    )
  where
    key : List ℕ
    key = written_key c.key

    short : length key ≤ 16409
    short = key_size c.key key (written_key_is_key c.key known)

    wide : length c.value ≤ 1048576
    wide = let v = value_bound most c valid in omega (arith, v, fits)

    small : 8 + length key + length c.value < 2 ^ 31
    small = omega (arith, short, wide)

    piece : List ℕ
    piece = piece_at s.form.form.marker (length bytes) last key c.value

    last_record : List Placed
    last_record = placed (record_place (length bytes) last) key c.value ∷ []

    more : records_of (bytes ++ piece) ≡ records_of bytes ++ last_record
    more = records_of-piece bytes s.form.form last key c.value small

    more_chunks : chunks_within most (bytes ++ piece) ≡ chunks_within most bytes ++ c ∷ []
    more_chunks =
        ap (filter_map (chunk_of most)) more
        ∙ (filter_map-append (chunk_of most) (records_of bytes) last_record
        ∙ ap (λ cs. chunks_within most bytes ++ cs) (one_chunk most c key (record_place (length bytes) last) valid (written_key_is_key c.key known)))

    counted : length (chunks_within most (bytes ++ piece)) ≡ length (records_of (bytes ++ piece))
    counted =
        ap length more_chunks
        ∙ (length-append (chunks_within most bytes) (c ∷ [])
        ∙ (ap (λ n. n + 1) s.form.all ∙ sym (ap length more ∙ length-append (records_of bytes) last_record)))
