-- When a record is a chunk.
use Rattle.std.proofs.Common.{◌≡◌, inl, inr, ℕ, ◌+◌, ◌≤◌, ◌&&◌, true, false, List, length, Option, Some, None, refl, ap, ◌∙◌, arith}
use Rattle.std.specs.Prelude.{IsTrue, nat_lt, nat_le}
use Rattle.std.proofs.lemmas.Bool.{and_parts, and_from, leb-true}
use Rattle.chk_seqfile.specs.Entries.{Placed}
use Rattle.chk_chunk.specs.Keys.{Key, IsKey, is_key, fits_1, has_value, has_words, read_key}
use Rattle.chk_chunk.proofs.KeyLaws.{key_is_read, read_is_key}
use Rattle.chk_chunk.proofs.KeyLemmas.{key_facts}
use Rattle.chk_world.specs.Books.{chunk_if, chunk_with, chunk_of}

-- a key that was read
pub valid_key : (k : Key) (bytes : List ℕ) → IsKey k bytes → IsTrue (is_key k)
valid_key k bytes (inl one) = (and_parts (is_key k) (fits_1 k) one.0).0
valid_key k bytes (inr two) = two.0

pub key_words : (k : Key) (bytes : List ℕ) → IsKey k bytes → IsTrue (has_words k)
key_words k bytes is = let f = key_facts k (valid_key k bytes is) in and_from _ _ f.stream f.cluster

-- the record is no chunk, since its key is none
pub no_key : (most : ℕ) (r : Placed) → ((k : Key) → IsKey k r.key → ⊥) → chunk_of most r ≡ None
no_key most r none = by (read_key r.key) refl
  where
    by : (o : Option Key) → read_key r.key ≡ o → chunk_with most (read_key r.key) r.value ≡ None
    by None e = ap (λ o. chunk_with most o r.value) e
    by (Some k) e = absurd (none k (read_is_key k r.key e))

-- or since its value is none
pub no_value : (most : ℕ) (r : Placed) (k : Key) → IsKey k r.key → has_value most k r.value ≡ false → chunk_of most r ≡ None
no_value most r k is none = ap (λ o. chunk_with most o r.value) (key_is_read k r.key is) ∙ ap (λ b. chunk_if b k r.value) none

-- the record is a chunk
pub is_chunk : (most : ℕ) (r : Placed) (k : Key) → IsKey k r.key → has_value most k r.value ≡ true
    → chunk_of most r ≡ Some (record { key = k; value = r.value })
is_chunk most r k is fine = ap (λ o. chunk_with most o r.value) (key_is_read k r.key is) ∙ ap (λ b. chunk_if b k r.value) fine

-- and its value is no longer than the sequence id
pub value_fits : (most : ℕ) (k : Key) (value : List ℕ) → has_value most k value ≡ true → length value ≤ k.seq
value_fits most k value h =
    let n : ℕ = length value in
    let a = and_parts (nat_lt 0 n) (nat_le n most && nat_le (k.start + n) k.seq) h in
    let b = and_parts (nat_le n most) (nat_le (k.start + n) k.seq) a.1 in
    let c = leb-true (k.start + n) k.seq b.1 in omega arith
