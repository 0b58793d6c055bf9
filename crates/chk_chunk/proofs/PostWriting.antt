-- Posts as they are written.
use Rattle.std.proofs.Common.{subst, ◌≡◌, ℕ, zero, suc, ◌+◌, ◌<◌, ◌≤◌, List, [], ◌∷◌, ◌++◌, length, take, get_or, refl, sym, ap, ◌∙◌, arith, append_assoc}
use Rattle.std.specs.Prelude.{IsTrue}
use Rattle.std.proofs.lemmas.Bool.{and_parts}
use Rattle.std.proofs.lemmas.List.{append-nil, length-append, length-map, map_more}
use Rattle.chk_bytes.specs.Numbers.{be32, with_length}
use Rattle.chk_chunk.specs.Keys.{Chunk, is_key, is_chunk, has_value, chunk_limit, written_key}
use Rattle.chk_chunk.specs.Posts.{IsPost, ArePostParts, AreChunks, post_limit, most_chunks, written_part, written_parts, written_post}
use Rattle.chk_chunk.specs.Lent.{chunk_of, chunks_of, AreValid}
use Rattle.chk_chunk.specs.declared.Chunk.{Chunk as OwnedChunk}
use Rattle.chk_chunk.proofs.Appended.{two_parts}
use Rattle.chk_chunk.proofs.KeyLaws.{written_key_is_key}
use Rattle.chk_chunk.proofs.KeySizes.{key_size}
use Rattle.chk_chunk.proofs.PostGrammar.{value_facts}

-- how long a chunk is
pub written_part-size : (c : Chunk) → length (written_part c) ≡ 8 + length (written_key c.key) + length c.value
unfolding written_part
written_part-size c = omega (arith, length-append (with_length (written_key c.key)) (with_length c.value))

pub value_small : (c : Chunk) → IsTrue (is_chunk c) → length c.value ≤ 131072
value_small c valid =
    (value_facts c.key c.value (and_parts (is_key c.key) (has_value chunk_limit c.key c.value) valid).1).most

-- a chunk's four pieces, one after the other
pub written_part-pieces : (c : Chunk) (old m n o new : List ℕ) (key_size value_size : ℕ)
    → key_size ≡ length (written_key c.key) → value_size ≡ length c.value
    → m ≡ old ++ be32 key_size → n ≡ m ++ written_key c.key → o ≡ n ++ be32 value_size → new ≡ o ++ c.value
    → new ≡ old ++ written_part c
unfolding written_part
written_part-pieces c old m n o new key_size value_size ks vs p q r s =
    let front : n ≡ old ++ with_length (written_key c.key) =
    two_parts old (be32 (length (written_key c.key))) (written_key c.key) m n (p ∙ ap (λ k. old ++ be32 k) ks) q in
    let back : new ≡ n ++ with_length c.value =
    two_parts n (be32 (length c.value)) c.value o new (r ∙ ap (λ k. n ++ be32 k) vs) s in
    two_parts old (with_length (written_key c.key)) (with_length c.value) n new front back

-- one more chunk
pub written_parts-push : (cs : List Chunk) (c : Chunk) → written_parts (cs ++ c ∷ []) ≡ written_parts cs ++ written_part c
written_parts-push [] c = append-nil (written_part c)
written_parts-push (d ∷ cs) c =
    ap (λ t. written_part d ++ t) (written_parts-push cs c)
    ∙ sym (append_assoc (written_part d) (written_parts cs) (written_part c))

pub written_parts_more : (chunks : List OwnedChunk) (i : ℕ) (c : OwnedChunk) → i < length chunks → c ≡ get_or chunks i c
    → written_parts (chunks_of (take (i + 1) chunks)) ≡ written_parts (chunks_of (take i chunks)) ++ written_part (chunk_of c)
written_parts_more chunks i c within is =
    ap written_parts (map_more chunk_of chunks i c within)
    ∙ (written_parts-push (chunks_of (take i chunks)) (chunk_of (get_or chunks i c))
    ∙ ap (λ d. written_parts (chunks_of (take i chunks)) ++ written_part (chunk_of d)) (sym is))

-- valid chunks
pub tail_chunks : (c : Chunk) (cs : List Chunk) → AreChunks (c ∷ cs) → AreChunks cs
tail_chunks c cs all k d within = all (suc k) d (omega arith)

pub chunks_of_valid : (chunks : List OwnedChunk) → AreValid chunks → AreChunks (chunks_of chunks)
chunks_of_valid [] all k d within = absurd (omega arith)
chunks_of_valid (c ∷ chunks) all zero d within = all 0 c (omega arith)
chunks_of_valid (c ∷ chunks) all (suc k) d within =
    chunks_of_valid chunks (λ j e below. all (suc j) e (omega arith)) k d (omega arith)

-- what is written is what it is the spelling of
pub written_parts_are : (cs : List Chunk) → AreChunks cs → ArePostParts cs (written_parts cs)
unfolding written_part
written_parts_are [] all = refl
written_parts_are (c ∷ cs) all =
    let valid : IsTrue (is_chunk c) = all 0 c (omega arith) in (
      written_key c.key,
      written_parts cs,
      valid,
      written_key_is_key c.key (and_parts (is_key c.key) (has_value chunk_limit c.key c.value) valid).0,
      refl,
      written_parts_are cs (tail_chunks c cs all),
    )

pub written_post_is_post : (cs : List Chunk) → 0 < length cs → length cs ≤ most_chunks → AreChunks cs
    → length (written_post cs) ≤ post_limit → IsPost cs (written_post cs)
written_post_is_post cs some few all short = record {
  some = some;
  few = few;
  short = short;
  parts = written_parts cs;
  is = refl;
  are = written_parts_are cs all;
}

-- the sum of the sizes so far
pub size_more : (chunks : List OwnedChunk) (i size : ℕ) (c : OwnedChunk) → i < length chunks → c ≡ get_or chunks i c
    → size ≡ 4 + length (written_parts (chunks_of (take i chunks)))
    → size + length (written_part (chunk_of c)) ≡ 4 + length (written_parts (chunks_of (take (i + 1) chunks)))
size_more chunks i size c within is so_far =
    let more = ap length (written_parts_more chunks i c within is) in
    let sum = length-append (written_parts (chunks_of (take i chunks))) (written_part (chunk_of c)) in
    omega arith

pub post_more : (chunks : List OwnedChunk) (i : ℕ) (c : OwnedChunk) (head post new : List ℕ) → i < length chunks
    → c ≡ get_or chunks i c → post ≡ head ++ written_parts (chunks_of (take i chunks)) → new ≡ post ++ written_part (chunk_of c)
    → new ≡ head ++ written_parts (chunks_of (take (i + 1) chunks))
post_more chunks i c head post new within is so_far more =
    two_parts head (written_parts (chunks_of (take i chunks))) (written_part (chunk_of c)) post new so_far more
    ∙ ap (λ t. head ++ t) (sym (written_parts_more chunks i c within is))

pub post_of_valid : (chunks : List OwnedChunk) → 0 < length chunks → length chunks ≤ most_chunks → AreValid chunks
    → length (written_post (chunks_of chunks)) ≤ post_limit → IsPost (chunks_of chunks) (written_post (chunks_of chunks))
post_of_valid chunks some few valid short =
    let size : length (chunks_of chunks) ≡ length chunks = length-map chunks chunk_of in
    written_post_is_post (chunks_of chunks) (omega arith) (omega arith) (chunks_of_valid chunks valid) short

pub written_part_small : (c : Chunk) → IsTrue (is_chunk c) → length (written_part c) ≤ 147489
written_part_small c valid =
    let valid_key : IsTrue (is_key c.key) = (and_parts (is_key c.key) (has_value chunk_limit c.key c.value) valid).0 in
    omega (
      arith,
      written_part-size c,
      value_small c valid,
      key_size c.key (written_key c.key) (written_key_is_key c.key valid_key),
    )

pub item_small : (chunks : List OwnedChunk) (i : ℕ) (c : OwnedChunk) → AreValid chunks → i < length chunks
    → c ≡ get_or chunks i c → length (written_part (chunk_of c)) ≤ 147489
item_small chunks i c valid within is =
    written_part_small (chunk_of c)
    (subst (λ (x : OwnedChunk). IsTrue (is_chunk (chunk_of x))) (sym is) (valid i c within))
