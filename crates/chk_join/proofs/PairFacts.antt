-- The pairs of two archives' streams rise, and each is of one stream.
use Rattle.std.proofs.Common.{◌≡◌, Bool, true, false, List, [], ◌∷◌, map, Some, None, refl, ap, sym}
use Rattle.std.proofs.Common.{subst, ◌∙◌}
use Rattle.std.specs.Prelude.{option_map, if◌then◌else◌, nat_lt}
use Rattle.chk_chunk.specs.Keys.{Stream, same_stream, stream_lt}
use Rattle.chk_world.specs.Books.{End}
use Rattle.chk_world.proofs.Each.{Each, each_as}
use Rattle.chk_world.proofs.NameTests.{streams_same}
use Rattle.chk_record_index.proofs.Orders.{streams}
use Rattle.chk_record_reader.specs.Courses.{end_of}
use Rattle.chk_archive_parts.proofs.EndsInOrder.{Sorted}
use Rattle.chk_record_index.proofs.Apart.{apart}
use Rattle.chk_record_reader.proofs.OnePass.{stream_onward as before_on}
use Rattle.chk_join_sources.specs.Pairs.{Pair, left_alone, right_alone, paired, pairs_of, pair_with}
use Rattle.chk_join_sources.specs.Pairs.{taken_end}
use Rattle.chk_join_sources.proofs.Lookup.{pair_stream, pair_for}

-- both ends of a pair are of one stream
abbrev pub IsMatched : Pair → Type 0
IsMatched (left_alone a) = Unit {0}
IsMatched (right_alone b) = Unit {0}
IsMatched (paired a b) = a.stream ≡ b.stream

-- the stream of each pair comes before those of later ones
abbrev pub PairsRise : List Pair → Type 0
PairsRise [] = Unit {0}
PairsRise (p ∷ ps) = Each (λ q. stream_lt (pair_stream p) (pair_stream q) ≡ true) ps × PairsRise ps

-- both facts
pub record AreInTurn (ps : List Pair) : Type 0 where
  pub matched : Each IsMatched ps
  pub rise : PairsRise ps

-- this stream comes before those of the ends, and so before those of their pairs
abbrev Above : Stream → End → Type 0
Above t e = stream_lt t e.stream ≡ true

abbrev PairAbove : Stream → Pair → Type 0
PairAbove t p = stream_lt t (pair_stream p) ≡ true

alone_above : (t : Stream) (ys : List End) → Each (Above t) ys → Each (PairAbove t) (map right_alone ys)
alone_above t [] all = tt
alone_above t (b ∷ ys) all = (all.0, alone_above t ys all.1)

with_above : (t : Stream) (a : End) (xs : List End) → Above t a
    → ((ys : List End) → Each (Above t) ys → Each (PairAbove t) (pairs_of xs ys))
    → (ys : List End) → Each (Above t) ys → Each (PairAbove t) (pair_with a (pairs_of xs) ys)
with_above t a xs first rest [] all = (first, rest [] tt)
with_above t a xs first rest (b ∷ ys) all =
    go (stream_lt a.stream b.stream) (stream_lt b.stream a.stream) (with_above t a xs first rest ys all.1)
  where
    go : (u v : Bool) → Each (PairAbove t) (pair_with a (pairs_of xs) ys)
        → Each (PairAbove t) (if u then left_alone a ∷ pairs_of xs (b ∷ ys)
        else (if v then right_alone b ∷ pair_with a (pairs_of xs) ys else paired a b ∷ pairs_of xs ys))
    go true v more = (first, rest (b ∷ ys) all)
    go false true more = (all.0, more)
    go false false more = (first, rest ys all.1)

all_above : (t : Stream) (xs ys : List End) → Each (Above t) xs → Each (Above t) ys → Each (PairAbove t) (pairs_of xs ys)
all_above t [] ys left right = alone_above t ys right
all_above t (a ∷ xs) ys left right =
    with_above t a xs left.0 (λ zs all. all_above t xs zs left.1 all) ys right

-- all behind one that comes later come later
later_on : (t : Stream) (b : End) (ys : List End) → Above t b → Each (λ (f : End). stream_lt b.stream f.stream ≡ true) ys
    → Each (Above t) ys
later_on t b ys first all =
    each_as (λ (f : End). stream_lt b.stream f.stream ≡ true) (Above t) ys (λ f k. before_on t b.stream f.stream first k) all

alone_in_turn : (ys : List End) → Sorted ys → AreInTurn (map right_alone ys)
alone_in_turn [] sorted = record { matched = tt; rise = tt }
alone_in_turn (b ∷ ys) sorted =
    let r = alone_in_turn ys sorted.1 in
    record { matched = (tt, r.matched); rise = (alone_above b.stream ys sorted.0, r.rise) }

with_in_turn : (a : End) (xs : List End) → Sorted (a ∷ xs)
    → ((ys : List End) → Sorted ys → AreInTurn (pairs_of xs ys))
    → (ys : List End) → Sorted ys → AreInTurn (pair_with a (pairs_of xs) ys)
with_in_turn a xs left rest [] right =
    let r = rest [] tt in
    record { matched = (tt, r.matched); rise = (all_above a.stream xs [] left.0 tt, r.rise) }
with_in_turn a xs left rest (b ∷ ys) right =
    go (stream_lt a.stream b.stream) refl (stream_lt b.stream a.stream) refl (with_in_turn a xs left rest ys right.1)
  where
    go : (u : Bool) → stream_lt a.stream b.stream ≡ u → (v : Bool) → stream_lt b.stream a.stream ≡ v
        → AreInTurn (pair_with a (pairs_of xs) ys)
        → AreInTurn (if u then left_alone a ∷ pairs_of xs (b ∷ ys)
        else (if v then right_alone b ∷ pair_with a (pairs_of xs) ys else paired a b ∷ pairs_of xs ys))
    go true e v f more =
        let r = rest (b ∷ ys) right in
        record {
          matched = (tt, r.matched);
          rise = (all_above a.stream xs (b ∷ ys) left.0 (e, later_on a.stream b ys e right.0), r.rise);
        }
    go false e true f more =
        record {
          matched = (tt, more.matched);
          rise = (
            with_above b.stream a xs f (λ zs all. all_above b.stream xs zs (later_on b.stream a xs f left.0) all) ys right.0,
            more.rise,
          );
        }
    go false e false f more =
        let r = rest ys right.1 in
        let same : a.stream ≡ b.stream = streams_same a.stream b.stream (streams.are_alike a.stream b.stream e f) in
        record {
          matched = (same, r.matched);
          rise = (
            all_above a.stream xs ys left.0
                (subst (λ t. Each (λ (f : End). stream_lt t f.stream ≡ true) ys) (sym same) right.0),
            r.rise,
          );
        }

pub in_turn : (xs ys : List End) → Sorted xs → Sorted ys → AreInTurn (pairs_of xs ys)
in_turn [] ys left right = alone_in_turn ys right
in_turn (a ∷ xs) ys left right = with_in_turn a xs left (λ zs s. in_turn xs zs left.1 s) ys right

-- ---- the taken ends

pub taken_stream : (p : Pair) → IsMatched p → (taken_end p).stream ≡ pair_stream p
taken_stream (left_alone a) m = refl
taken_stream (right_alone b) m = refl
taken_stream (paired a b) m = go (nat_lt a.end b.end)
  where
    go : (t : Bool) → (if t then b else a).stream ≡ a.stream
    go true = sym m
    go false = refl

pub taken_sorted : (ps : List Pair) → AreInTurn ps → Sorted (map taken_end ps)
taken_sorted [] t = tt
taken_sorted (p ∷ ps) t = (
  each_taken ps t.matched.1 t.rise.0,
  taken_sorted ps (record { matched = t.matched.1; rise = t.rise.1 }),
)
  where
    each_taken : (qs : List Pair) → Each IsMatched qs → Each (λ q. stream_lt (pair_stream p) (pair_stream q) ≡ true) qs
        → Each (λ (f : End). stream_lt (taken_end p).stream f.stream ≡ true) (map taken_end qs)
    each_taken [] m k = tt
    each_taken (q ∷ qs) m k = (
      subst (λ u. stream_lt u (taken_end q).stream ≡ true) (sym (taken_stream p t.matched.0))
          (subst (λ u. stream_lt (pair_stream p) u ≡ true) (sym (taken_stream q m.0)) k.0),
      each_taken qs m.1 k.1,
    )

pub end_of_taken : (s : Stream) (ps : List Pair) → Each IsMatched ps
    → end_of s (map taken_end ps) ≡ option_map taken_end (pair_for s ps)
end_of_taken s [] m = refl
end_of_taken s (p ∷ ps) m =
    ap (λ u. if same_stream s u then Some (taken_end p) else end_of s (map taken_end ps)) (taken_stream p m.0)
    ∙ go (same_stream s (pair_stream p)) (end_of_taken s ps m.1)
  where
    go : (t : Bool) → end_of s (map taken_end ps) ≡ option_map taken_end (pair_for s ps)
        → (if t then Some (taken_end p) else end_of s (map taken_end ps))
        ≡ option_map taken_end (if t then Some p else pair_for s ps)
    go true rest = refl
    go false rest = rest

-- a stream in front of all has no pair
pub no_pair : (s : Stream) (ps : List Pair) → Each (λ q. stream_lt s (pair_stream q) ≡ true) ps → pair_for s ps ≡ None
no_pair s [] all = refl
no_pair s (q ∷ ps) all =
    ap (λ t. if t then Some q else pair_for s ps) (apart s (pair_stream q) all.0) ∙ no_pair s ps all.1
