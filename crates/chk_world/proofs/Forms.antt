-- What is written to a sink: nothing yet, or a SequenceFile of chunks, which grows at its end.
use Rattle.std.proofs.Common.{◌≡◌, ◌⊎◌, inl, inr, ℕ, ◌+◌, ◌≤◌, ◌<◌, ◌^◌, Bool, true, false, List, [], ◌∷◌, ◌++◌, length, length-append, refl, ap, sym, subst, ◌∙◌, true≢false, arith, MatchBool, nat_le, nat_lt, ◌&&◌}
use Rattle.std.specs.Prelude.{IsTrue, Contains, ◌==◌, filter_map, slice_index_or, zero, suc}
use Rattle.std.specs.List.{cons_option}
use Rattle.std.proofs.lemmas.Bool.{and_parts, leb-true}
use Rattle.std.proofs.lemmas.List.Elements.{Contains-append_cases, filter_map-append}
use Rattle.chk_bytes.specs.Stems.{Stem, stem_text}
use Rattle.chk_chunk.specs.Keys.{Chunk, IsKey, is_key, is_chunk, has_value, chunk_limit}
use Rattle.chk_chunk.specs.Posts.{ArePostParts}
use Rattle.chk_chunk.proofs.KeyLaws.{key_is_read}
use Rattle.chk_chunk.proofs.KeySizes.{key_size}
use Rattle.chk_seqfile.specs.Headers.{header}
use Rattle.chk_seqfile.specs.HeaderGrammar.{IsHeader}
use Rattle.chk_seqfile.specs.Entries.{IsSequenceFile, Placed, records_of, piece_at, placed, record_place}
use Rattle.chk_seqfile.proofs.HeaderLemmas.{length-marker_of}
use Rattle.chk_seqfile.proofs.FileLemmas.{IsSequenceFile-header, IsSequenceFile-append, Entries-piece, records_of-written_header, records_of-piece}
use Rattle.chk_http_grammar.specs.Messages.{IsPostOf}
use Rattle.chk_world.specs.Books.{AllChunks, chunks_within, chunk_of, chunk_with, chunk_if}
use Rattle.chk_world.specs.Collectors.{Current, Handling, IsPosted, IsNextPiece, marker}

-- a SequenceFile with the sink's marker, of which each record is a chunk
pub record SinkForm (x : Stem) (written : List ℕ) : Type 0 where
  pub form : IsSequenceFile written
  pub marker_is : form.marker ≡ marker x
  pub all : length (chunks_within chunk_limit written) ≡ length (records_of written)

-- nothing yet, or that
abbrev pub Grows : Stem → List ℕ → Type 0
Grows x written = (written ≡ []) ⊎ SinkForm x written

pub all_chunks : (x : Stem) (written : List ℕ) → SinkForm x written → AllChunks chunk_limit written
all_chunks x written s = record { form = s.form; all = s.all }

-- what has a byte is a file
pub grown_form : (x : Stem) (written : List ℕ) → Grows x written → 0 < length written → SinkForm x written
grown_form x written (inl e) long = absurd (let z : ⊥ = omega (arith, long, ap length e) in z)
grown_form x written (inr s) long = s

-- each chunk of a post is one that can be spelled
parts_valid : (chunks : List Chunk) (bytes : List ℕ) (k : ℕ) (c : Chunk) → ArePostParts chunks bytes → k < length chunks
    → slice_index_or chunks k c ≡ c → IsTrue (is_chunk c)
parts_valid [] bytes k c are low is = absurd (let z : ⊥ = omega arith in z)
parts_valid (d ∷ ds) bytes zero c are low is = subst (λ d. IsTrue (is_chunk d)) is are.2
parts_valid (d ∷ ds) bytes (suc k) c are low is = parts_valid ds are.1 k c are.5 (omega arith) is

pub post_valid : (chunks : List Chunk) (bytes : List ℕ) → IsPostOf chunks bytes → (c : Chunk) → Contains chunks c → IsTrue (is_chunk c)
post_valid chunks bytes p c one =
    let post = p.2 in
    parts_valid chunks post.parts one.0 c post.are one.1 one.2

pub posted_valid : (handled : List Handling) (c : Chunk) → IsPosted handled c → IsTrue (is_chunk c)
posted_valid handled c p = post_valid p.chunks p.message.bytes p.post c p.one

-- a record of a chunk is read as it
pub one_chunk : (c : Chunk) (key : List ℕ) (at : ℕ) → IsTrue (is_chunk c) → IsKey c.key key
    → filter_map (chunk_of chunk_limit) (placed at key c.value ∷ []) ≡ c ∷ []
one_chunk c key at valid is =
    let parts = and_parts (is_key c.key) (has_value chunk_limit c.key c.value) valid in
    ap (λ k. cons_option (chunk_with chunk_limit k c.value) []) (key_is_read c.key key is)
    ∙ ap (λ ok. cons_option (chunk_if ok c.key c.value) []) parts.1

pub record_small : (c : Chunk) (key : List ℕ) → IsTrue (is_chunk c) → IsKey c.key key → 8 + length key + length c.value < 2 ^ 31
record_small c key valid is =
    let parts = and_parts (is_key c.key) (has_value chunk_limit c.key c.value) valid in
    let n : ℕ = length c.value in
    let value = and_parts (nat_lt 0 n) (nat_le n chunk_limit && nat_le (c.key.start + n) c.key.seq) parts.1 in
    let most : length c.value ≤ 131072 = leb-true n chunk_limit (and_parts (nat_le n chunk_limit) (nat_le (c.key.start + n) c.key.seq) value.1).0 in
    omega (arith, key_size c.key key is, most)

-- a header is a file without records
header_form : (x : Stem) → SinkForm x (header (marker x))
header_form x =
    let wide = length-marker_of (stem_text x) in
    record {
      form = IsSequenceFile-header (marker x) wide;
      marker_is = refl;
      all = ap (λ rs. length (filter_map (chunk_of chunk_limit) rs)) (records_of-written_header (marker x) wide)
          ∙ sym (ap length (records_of-written_header (marker x) wide));
    }

-- with a piece for a chunk it has one chunk more
piece_form : (x : Stem) (written : List ℕ) (s : SinkForm x written) (c : Chunk) (key : List ℕ) (end : ℕ) → IsTrue (is_chunk c) → IsKey c.key key
    → SinkForm x (written ++ piece_at (marker x) (length written) end key c.value)
piece_form x written s c key end valid is =
    subst (λ m. SinkForm x (written ++ piece_at m (length written) end key c.value)) s.marker_is (record {
      form = IsSequenceFile-append written piece s.form (Entries-piece s.form.marker (length written) end key c.value small);
      marker_is = s.marker_is;
      all = ap (λ rs. length (filter_map (chunk_of chunk_limit) rs)) more
          ∙ (ap length (filter_map-append (chunk_of chunk_limit) (records_of written) last)
          ∙ (length-append (chunks_within chunk_limit written) (filter_map (chunk_of chunk_limit) last)
          ∙ (counted ∙ sym (ap length more ∙ length-append (records_of written) last))));
    })
  where
    small : 8 + length key + length c.value < 2 ^ 31
    small = record_small c key valid is

    piece : List ℕ
    piece = piece_at s.form.marker (length written) end key c.value

    last : List Placed
    last = placed (record_place (length written) end) key c.value ∷ []

    more : records_of (written ++ piece_at s.form.marker (length written) end key c.value) ≡ records_of written ++ (placed (record_place (length written) end) key c.value ∷ [])
    more = records_of-piece written s.form end key c.value small

    counted : length (chunks_within chunk_limit written) + length (filter_map (chunk_of chunk_limit) (placed (record_place (length written) end) key c.value ∷ []))
        ≡ length (records_of written) + 1
    counted = omega (arith, s.all, ap length (one_chunk c key (record_place (length written) end) valid is))

header_some : (m head : List ℕ) → IsHeader m head → length head ≡ 0 → ⊥
header_some m head h e = let z : ⊥ = omega (arith, e, ap length h.is) in z

-- what may be written next keeps the form
pub piece_grows : (handled : List Handling) (cur : Current) (x : Stem) (written piece : List ℕ) → cur.stem ≡ x → Grows x written
    → IsNextPiece handled cur (length written) piece → SinkForm x (written ++ piece)
piece_grows handled cur x written piece is grows next =
    go (length written == 0) refl grows (subst (λ y. MatchBool (length written == 0) (piece ≡ header (marker y))
    ((c : Chunk) × (key : List ℕ) × IsPosted handled c × IsKey c.key key
    × (piece ≡ piece_at (marker y) (length written) cur.sync_end key c.value))) is next)
  where
    go : (b : Bool) → (length written == 0) ≡ b → Grows x written
        → MatchBool b (piece ≡ header (marker x)) ((c : Chunk) × (key : List ℕ) × IsPosted handled c × IsKey c.key key
        × (piece ≡ piece_at (marker x) (length written) cur.sync_end key c.value))
        → SinkForm x (written ++ piece)
    go true e (inl none) k = subst (SinkForm x) (sym (ap (λ w. w ++ piece) none ∙ k)) (header_form x)
    go true e (inr s) k =
        absurd (header_some s.form.marker s.form.head s.form.header
        (let z : length s.form.head ≡ 0 = omega (arith, nothing (length written) e, ap length s.form.is, length-append s.form.head s.form.entries) in z))
      where
        nothing : (n : ℕ) → (n == 0) ≡ true → n ≡ 0
        nothing n e = grind arith
    go false e (inl none) k = absurd (true≢false (sym (ap (λ w. length w == 0) none) ∙ e))
    go false e (inr s) k =
        subst (λ p. SinkForm x (written ++ p)) (sym k.4)
        (piece_form x written s k.0 k.1 cur.sync_end (posted_valid handled k.0 k.2) k.3)

only_one : (c d : Chunk) → Contains (c ∷ []) d → c ≡ d
only_one c d one = go one.0 one.1 one.2
  where
    go : (k : ℕ) → k < 1 → slice_index_or (c ∷ []) k d ≡ d → c ≡ d
    go zero low is = is
    go (suc k) low is = absurd (let z : ⊥ = omega arith in z)

no_chunk : (c : Chunk) → Contains [] c → ⊥
no_chunk c one = let below = one.1 in omega (arith, below)

-- a chunk of what is then written was there, or is a posted one
pub piece_chunks : (handled : List Handling) (cur : Current) (x : Stem) (written piece : List ℕ) → cur.stem ≡ x → Grows x written
    → IsNextPiece handled cur (length written) piece → (c : Chunk) → Contains (chunks_within chunk_limit (written ++ piece)) c
    → Contains (chunks_within chunk_limit written) c ⊎ IsPosted handled c
piece_chunks handled cur x written piece is grows next c one =
    go (length written == 0) refl grows (subst (λ y. MatchBool (length written == 0) (piece ≡ header (marker y))
    ((c : Chunk) × (key : List ℕ) × IsPosted handled c × IsKey c.key key
    × (piece ≡ piece_at (marker y) (length written) cur.sync_end key c.value))) is next)
  where
    go : (b : Bool) → (length written == 0) ≡ b → Grows x written
        → MatchBool b (piece ≡ header (marker x)) ((c : Chunk) × (key : List ℕ) × IsPosted handled c × IsKey c.key key
        × (piece ≡ piece_at (marker x) (length written) cur.sync_end key c.value))
        → Contains (chunks_within chunk_limit written) c ⊎ IsPosted handled c
    go true e (inl none) k =
        let file : written ++ piece ≡ header (marker x) = ap (λ w. w ++ piece) none ∙ k in
        absurd (no_chunk c (subst (λ rs. Contains (filter_map (chunk_of chunk_limit) rs) c)
        (ap records_of file ∙ records_of-written_header (marker x) (length-marker_of (stem_text x))) one))
    go true e (inr s) k =
        absurd (header_some s.form.marker s.form.head s.form.header
        (let z : length s.form.head ≡ 0 = omega (arith, nothing (length written) e, ap length s.form.is, length-append s.form.head s.form.entries) in z))
      where
        nothing : (n : ℕ) → (n == 0) ≡ true → n ≡ 0
        nothing n e = grind arith
    go false e (inl none) k = absurd (true≢false (sym (ap (λ w. length w == 0) none) ∙ e))
    go false e (inr s) k =
        let d = k.0 in
        let key = k.1 in
        let valid = posted_valid handled d k.2 in
        let last = placed (record_place (length written) cur.sync_end) key d.value ∷ [] in
        let file : written ++ piece ≡ written ++ piece_at s.form.marker (length written) cur.sync_end key d.value =
        ap (λ p. written ++ p) (k.4 ∙ ap (λ m. piece_at m (length written) cur.sync_end key d.value) (sym s.marker_is)) in
        let chunks : chunks_within chunk_limit (written ++ piece) ≡ chunks_within chunk_limit written ++ d ∷ [] =
        ap (chunks_within chunk_limit) file
        ∙ (ap (filter_map (chunk_of chunk_limit)) (records_of-piece written s.form cur.sync_end key d.value (record_small d key valid k.3))
        ∙ (filter_map-append (chunk_of chunk_limit) (records_of written) last
        ∙ ap (λ l. chunks_within chunk_limit written ++ l) (one_chunk d key (record_place (length written) cur.sync_end) valid k.3))) in
        elim (Contains-append_cases (chunks_within chunk_limit written) (d ∷ []) c (subst (λ cs. Contains cs c) chunks one)) [
          | inl old ↦ inl old
          | inr new ↦ inr (subst (IsPosted handled) (only_one d c new) k.2)
        ]
