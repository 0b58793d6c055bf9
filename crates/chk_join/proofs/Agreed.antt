-- Where archives agree, and the first stream of which they don't.
use Rattle.std.proofs.Common.{◌≡◌, ◌⊎◌, inl, inr, ℕ, suc, Bool, true, false, List, [], ◌∷◌, Option}
use Rattle.std.proofs.Common.{Some, None, refl, ap, ap₂, sym, subst, ◌∙◌, if◌then◌else◌}
use Rattle.std.specs.Prelude.{option_map, ◌==◌}
use Rattle.std.proofs.lemmas.Bool.{eqb-true}
use Rattle.std.proofs.lemmas.Option.{none-some, same_Some}
use Rattle.chk_bytes.specs.Words.{BeginsWith}
use Rattle.chk_site.specs.Files.{Files}
use Rattle.chk_chunk.specs.Keys.{Stream, same_stream, stream_lt}
use Rattle.chk_world.proofs.Each.{Each}
use Rattle.chk_world.proofs.NameTests.{streams_same}
use Rattle.chk_record_index.proofs.Apart.{apart_from, apart}
use Rattle.chk_join_sources.specs.declared.gathering.Side.{Side}
use Rattle.chk_join_sources.specs.Differences.{first_difference}
use Rattle.chk_join_sources.specs.declared.difference.Difference.{Difference}
use Rattle.chk_join_sources.specs.Pairs.{Pair, left_alone, right_alone, paired}
use Rattle.chk_join_sources.specs.Differing.{PairAgrees, PairDiffers, FirstDiffers}
use Rattle.chk_join_sources.proofs.Lookup.{pair_stream, pair_for}
use Rattle.chk_join.specs.Preparing.{stream_of}
use Rattle.chk_world.proofs.Rounds.{stream_self}
use Rattle.chk_join.proofs.PairFacts.{PairsRise, no_pair}
use Rattle.chk_record_reader.proofs.OnePass.{stream_onward as before_on}

-- ---- bytes

-- of lists that don't differ one is a front of the other
pub fronts : (v w : List ℕ) → first_difference v w ≡ None → BeginsWith v w ⊎ BeginsWith w v
fronts [] w none = inr (w, refl)
fronts (x ∷ v) [] none = inl (x ∷ v, refl)
fronts (x ∷ v) (y ∷ w) none = go (x == y) refl none (λ n. fronts v w n)
  where
    unmapped : (o : Option ℕ) → option_map suc o ≡ None → o ≡ None
    unmapped None e = refl
    unmapped (Some k) e = absurd (none-some (suc k) (sym e))

    longer : x ≡ y → BeginsWith v w ⊎ BeginsWith w v → BeginsWith (x ∷ v) (y ∷ w) ⊎ BeginsWith (y ∷ w) (x ∷ v)
    longer e (inl k) = inl (k.0, ap₂ (λ z l. z ∷ l) e k.1)
    longer e (inr k) = inr (k.0, ap₂ (λ z l. z ∷ l) (sym e) k.1)

    go : (b : Bool) → (x == y) ≡ b → (if b then option_map suc (first_difference v w) else Some 0) ≡ None
        → (first_difference v w ≡ None → BeginsWith v w ⊎ BeginsWith w v)
        → BeginsWith (x ∷ v) (y ∷ w) ⊎ BeginsWith (y ∷ w) (x ∷ v)
    go true e n rest = longer (eqb-true x y e) (rest (unmapped (first_difference v w) n))
    go false e n rest = absurd (none-some 0 (sym n))

-- ---- pairs

-- the first pair that differs is its stream's, and each earlier stream's pair agrees
pub record IsFirst (l r : Side) (held : Files) (ps : List Pair) (d : Difference) : Type 0 where
  pub pair : Pair
  pub there : pair_for (stream_of d) ps ≡ Some pair
  pub differs : PairDiffers l r held pair d
  pub first : (t : Stream) → stream_lt t (stream_of d) ≡ true → (q : Pair) → pair_for t ps ≡ Some q → PairAgrees l r held q

-- the stream of a difference is its pair's
differing_stream : (l r : Side) (held : Files) (p : Pair) (d : Difference) → PairDiffers l r held p d
    → stream_of d ≡ pair_stream p
differing_stream l r held (left_alone a) d x = absurd x
differing_stream l r held (right_alone b) d x = absurd x
differing_stream l r held (paired a b) d x = ap stream_of x.0

-- a pair that is found is among them, and of this stream
found_in : (P : Pair → Type 0) (s : Stream) (ps : List Pair) (q : Pair) → Each P ps → pair_for s ps ≡ Some q
    → P q × (same_stream s (pair_stream q) ≡ true)
found_in P s [] q all is = absurd (none-some q is)
found_in P s (p ∷ ps) q all is = go (same_stream s (pair_stream p)) refl is (λ i. found_in P s ps q all.1 i)
  where
    go : (b : Bool) → same_stream s (pair_stream p) ≡ b → (if b then Some p else pair_for s ps) ≡ Some q
        → (pair_for s ps ≡ Some q → P q × (same_stream s (pair_stream q) ≡ true))
        → P q × (same_stream s (pair_stream q) ≡ true)
    go true e i rest = subst (λ k. P k × (same_stream s (pair_stream k) ≡ true)) (same_Some p q i) (all.0, e)
    go false e i rest = rest i

pub is_first : (l r : Side) (held : Files) (ps : List Pair) (d : Difference) → PairsRise ps → FirstDiffers l r held ps d
    → IsFirst l r held ps d
is_first l r held [] d rise x = absurd x
is_first l r held (p ∷ ps) d rise (inl x) =
    let stream : stream_of d ≡ pair_stream p = differing_stream l r held p d x in
    record {
      pair = p;
      there = ap (λ b. if b then Some p else pair_for (stream_of d) ps)
          (ap (same_stream (stream_of d)) (sym stream) ∙ stream_self (stream_of d));
      differs = x;
      first = λ t below q is.
          let under : stream_lt t (pair_stream p) ≡ true = subst (λ u. stream_lt t u ≡ true) stream below in
          let none : pair_for t ps ≡ None = no_pair t ps (all_later t (pair_stream p) under ps rise.0) in
          absurd (none-some q
          (sym (ap (λ b. if b then Some p else pair_for t ps) (apart t (pair_stream p) under) ∙ none) ∙ is));
    }
  where
    all_later : (t u : Stream) → stream_lt t u ≡ true → (qs : List Pair)
        → Each (λ q. stream_lt u (pair_stream q) ≡ true) qs → Each (λ q. stream_lt t (pair_stream q) ≡ true) qs
    all_later t u under [] all = tt
    all_later t u under (q ∷ qs) all = (before_on t u (pair_stream q) under all.0, all_later t u under qs all.1)
is_first l r held (p ∷ ps) d rise (inr x) =
    let rest = is_first l r held ps d rise.1 x.1 in
    let f = found_in (λ q. stream_lt (pair_stream p) (pair_stream q) ≡ true) (stream_of d) ps rest.pair rise.0 rest.there in
    let stream : stream_of d ≡ pair_stream rest.pair = streams_same (stream_of d) (pair_stream rest.pair) f.1 in
    let before : stream_lt (pair_stream p) (stream_of d) ≡ true =
    subst (λ u. stream_lt (pair_stream p) u ≡ true) (sym stream) f.0 in
    record {
      pair = rest.pair;
      there = ap (λ b. if b then Some p else pair_for (stream_of d) ps) (apart_from (pair_stream p) (stream_of d) before)
          ∙ rest.there;
      differs = rest.differs;
      first = λ t below q is. go t below q (same_stream t (pair_stream p)) is (λ i. rest.first t below q i);
    }
  where
    go : (t : Stream) → stream_lt t (stream_of d) ≡ true → (q : Pair) → (b : Bool)
        → (if b then Some p else pair_for t ps) ≡ Some q
        → (pair_for t ps ≡ Some q → PairAgrees l r held q) → PairAgrees l r held q
    go t below q true i more = subst (PairAgrees l r held) (same_Some p q i) x.0
    go t below q false i more = more i
