-- How long keys are.
use Rattle.std.proofs.Common.{◌≡◌, ℕ, ◌+◌, ◌≤◌, true, false, List, ◌++◌, length, ap, ◌∙◌, inl, inr, arith}
use Rattle.std.specs.Prelude.{IsTrue}
use Rattle.std.proofs.lemmas.Bool.{and_parts, cond-true, cond-false}
use Rattle.std.proofs.lemmas.List.{length-append}
use Rattle.chk_bytes.specs.Words.{is_word}
use Rattle.chk_chunk.specs.Keys.{Key, Stream, IsKey, is_stream, fits_1, key_1, key_2, written_key, counted, counted_stream}
use Rattle.chk_chunk.proofs.KeyLemmas.{word_fits, stream_facts, key_facts}

-- how long a key is
counted_size : (text : List ℕ) → IsTrue (is_word text) → length (counted text) ≤ 4098
counted_size text w = omega (arith, word_fits text w)

stream_size : (s : Stream) → IsTrue (is_stream s) → length (counted_stream s) ≤ 12294
stream_size s valid =
    let w = stream_facts s valid in
    omega (
      arith,
      counted_size s.source w.source,
      counted_size s.kind w.kind,
      counted_size s.name w.name,
      length-append (counted s.source) (counted s.kind ++ counted s.name),
      length-append (counted s.kind) (counted s.name),
    )

pub key_1_size : (k : Key) → length (key_1 k) ≡ 9 + length (counted_stream k.stream)
unfolding key_1
key_1_size k = omega arith

pub key_2_size : (k : Key) → length (key_2 k) ≡ 17 + length (counted_stream k.stream) + length (counted k.cluster)
unfolding key_2
key_2_size k = omega (arith, length-append (counted_stream k.stream) (counted k.cluster))

pub key_size : (k : Key) (bytes : List ℕ) → IsKey k bytes → length bytes ≤ 16409
key_size k bytes (inl h) =
    let facts = key_facts k (and_parts _ _ h.0).0 in
    omega (arith, ap length h.1, key_1_size k, stream_size k.stream facts.stream)
key_size k bytes (inr h) =
    let facts = key_facts k h.0 in
    omega (arith, ap length h.1, key_2_size k, stream_size k.stream facts.stream, counted_size k.cluster facts.cluster)

-- how long a key is where it is written
pub texts_size : (s : Stream) → length (counted_stream s) ≡ 6 + length s.source + length s.kind + length s.name
texts_size s =
    omega (
      arith,
      length-append (counted s.source) (counted s.kind ++ counted s.name),
      length-append (counted s.kind) (counted s.name),
    )

pub written_1_size : (k : Key) → fits_1 k ≡ true
    → length (written_key k) ≡ 9 + (6 + length k.stream.source + length k.stream.kind + length k.stream.name)
unfolding written_key
written_1_size k fits = ap length (cond-true _ _ _ fits) ∙ (key_1_size k ∙ ap (λ n. 9 + n) (texts_size k.stream))

pub written_2_size : (k : Key) → fits_1 k ≡ false
    → length (written_key k) ≡ 17 + (6 + length k.stream.source + length k.stream.kind + length k.stream.name) + 2 + length k.cluster
unfolding written_key
written_2_size k wide =
    ap length (cond-false _ _ _ wide) ∙ (key_2_size k ∙ omega (arith, texts_size k.stream))
