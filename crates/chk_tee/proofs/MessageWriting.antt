-- Messages as they are written.
use Rattle.std.proofs.Common.{subst, ◌≡◌, ℕ, zero, suc, ◌+◌, ◌<◌, ◌≤◌, List, [], ◌∷◌, ◌++◌, length, take, get_or, refl, sym, ap, ◌∙◌, arith, append_assoc}
use Rattle.std.specs.Prelude.{IsTrue, ◌&&◌}
use Rattle.std.proofs.lemmas.Bool.{and_parts}
use Rattle.std.proofs.lemmas.List.{append-nil, length-map, map_more}
use Rattle.chk_bytes.specs.Numbers.{be32, be64, with_length}
use Rattle.chk_bytes.specs.Stems.{is_stem, is_count, stem_text}
use Rattle.chk_chunk.specs.Keys.{Key, is_key, is_chunk, has_value, chunk_limit, counted, written_key}
use Rattle.chk_chunk.proofs.Appended.{two_parts, five_parts}
use Rattle.chk_chunk.proofs.KeyLaws.{written_key_is_key}
use Rattle.chk_chunk.proofs.KeySizes.{key_size}
use Rattle.chk_chunk.proofs.PostWriting.{value_small}
use Rattle.chk_tee.specs.Messages.{Teed, IsTee, AreTeeParts, AreTeed, is_teed, tee_limit, most_teed, tee_mark, written_teed, written_teeds, written_tee}
use Rattle.chk_tee.specs.Lent.{lent_teed, lent_teeds, AreValidTeeds}
use Rattle.chk_tee.specs.declared.Teed.{Teed as LentTeed}

-- the parts of a chunk that can be spelled
pub record TeedFacts (t : Teed) : Type 0 where
  pub stem : IsTrue (is_stem t.stem)
  pub count : IsTrue (is_count t.offset)
  pub chunk : IsTrue (is_chunk t.chunk)
  pub key : IsTrue (is_key t.chunk.key)

pub teed_facts : (t : Teed) → IsTrue (is_teed t) → TeedFacts t
teed_facts t valid =
    let a = and_parts (is_stem t.stem) (is_count t.offset && is_chunk t.chunk) valid in
    let b = and_parts (is_count t.offset) (is_chunk t.chunk) a.1 in
    let d = and_parts (is_key t.chunk.key) (has_value chunk_limit t.chunk.key t.chunk.value) b.1 in
    record { stem = a.0; count = b.0; chunk = b.1; key = d.0 }

pub key_fits : (k : Key) → IsTrue (is_key k) → length (written_key k) ≤ 16409
key_fits k valid = key_size k (written_key k) (written_key_is_key k valid)

pub teed_value_small : (t : Teed) → IsTrue (is_teed t) → length t.chunk.value ≤ 131072
teed_value_small t valid = value_small t.chunk (teed_facts t valid).chunk

-- a chunk's five pieces, one after the other
pub written_teed-pieces : (t : Teed) (old m n o p new : List ℕ) (size : ℕ) → size ≡ length t.chunk.value
    → m ≡ old ++ counted (stem_text t.stem) → n ≡ m ++ be64 t.offset → o ≡ n ++ with_length (written_key t.chunk.key)
    → p ≡ o ++ be32 size → new ≡ p ++ t.chunk.value → new ≡ old ++ written_teed t
unfolding written_teed
written_teed-pieces t old m n o p new size is a b d e f =
    five_parts old (counted (stem_text t.stem)) (be64 t.offset) (with_length (written_key t.chunk.key))
    (be32 (length t.chunk.value)) t.chunk.value m n o p new a b d (e ∙ ap (λ k. o ++ be32 k) is) f

-- one more chunk
pub written_teeds-push : (ts : List Teed) (t : Teed) → written_teeds (ts ++ t ∷ []) ≡ written_teeds ts ++ written_teed t
written_teeds-push [] t = append-nil (written_teed t)
written_teeds-push (u ∷ ts) t =
    ap (λ l. written_teed u ++ l) (written_teeds-push ts t)
    ∙ sym (append_assoc (written_teed u) (written_teeds ts) (written_teed t))

pub written_teeds_more : (items : List LentTeed) (i : ℕ) (t : LentTeed) → i < length items → t ≡ get_or items i t
    → written_teeds (lent_teeds (take (i + 1) items)) ≡ written_teeds (lent_teeds (take i items)) ++ written_teed (lent_teed t)
written_teeds_more items i t within is =
    ap written_teeds (map_more lent_teed items i t within)
    ∙ (written_teeds-push (lent_teeds (take i items)) (lent_teed (get_or items i t))
    ∙ ap (λ d. written_teeds (lent_teeds (take i items)) ++ written_teed (lent_teed d)) (sym is))

pub tee_more : (items : List LentTeed) (i : ℕ) (t : LentTeed) (head tee new : List ℕ) → i < length items
    → t ≡ get_or items i t → tee ≡ head ++ written_teeds (lent_teeds (take i items)) → new ≡ tee ++ written_teed (lent_teed t)
    → new ≡ head ++ written_teeds (lent_teeds (take (i + 1) items))
tee_more items i t head tee new within is so_far more =
    two_parts head (written_teeds (lent_teeds (take i items))) (written_teed (lent_teed t)) tee new so_far more
    ∙ ap (λ l. head ++ l) (sym (written_teeds_more items i t within is))

-- what is written is what it is the spelling of
tail_teeds : (t : Teed) (ts : List Teed) → AreTeed (t ∷ ts) → AreTeed ts
tail_teeds t ts all k d within = all (suc k) d (omega arith)

pub written_teeds_are : (ts : List Teed) → AreTeed ts → AreTeeParts ts (written_teeds ts)
unfolding written_teed
written_teeds_are [] all = refl
written_teeds_are (t ∷ ts) all =
    let valid : IsTrue (is_teed t) = all 0 t (omega arith) in (
      written_key t.chunk.key,
      written_teeds ts,
      valid,
      written_key_is_key t.chunk.key (teed_facts t valid).key,
      refl,
      written_teeds_are ts (tail_teeds t ts all),
    )

pub written_tee_is_tee : (ts : List Teed) → 0 < length ts → length ts ≤ most_teed → AreTeed ts
    → length (written_tee ts) ≤ tee_limit → IsTee ts (written_tee ts)
written_tee_is_tee ts some few all short = record {
  some = some;
  few = few;
  short = short;
  parts = written_teeds ts;
  is = append_assoc tee_mark (be32 (length ts)) (written_teeds ts);
  are = written_teeds_are ts all;
}

pub lent_teeds_valid : (items : List LentTeed) → AreValidTeeds items → AreTeed (lent_teeds items)
lent_teeds_valid [] all k d within = absurd (omega arith)
lent_teeds_valid (t ∷ items) all zero d within = all 0 t (omega arith)
lent_teeds_valid (t ∷ items) all (suc k) d within =
    lent_teeds_valid items (λ j e below. all (suc j) e (omega arith)) k d (omega arith)

pub tee_of_valid : (items : List LentTeed) → 0 < length items → length items ≤ most_teed → AreValidTeeds items
    → length (written_tee (lent_teeds items)) ≤ tee_limit → IsTee (lent_teeds items) (written_tee (lent_teeds items))
tee_of_valid items some few valid short =
    let size : length (lent_teeds items) ≡ length items = length-map items lent_teed in
    written_tee_is_tee (lent_teeds items) (omega arith) (omega arith) (lent_teeds_valid items valid) short

pub item_valid : (items : List LentTeed) (i : ℕ) (t : LentTeed) → AreValidTeeds items → i < length items
    → t ≡ get_or items i t → IsTrue (is_teed (lent_teed t))
item_valid items i t valid within is =
    subst (λ (x : LentTeed). IsTrue (is_teed (lent_teed x))) (sym is) (valid i t within)
