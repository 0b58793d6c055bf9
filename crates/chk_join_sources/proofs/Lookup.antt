-- What the pairs of two archives' ends have of one stream.
use Rattle.std.proofs.Common.{◌≡◌, Bool, true, false, List, [], ◌∷◌, map, Option, Some, None, refl, ap, sym, ◌∙◌, subst, true≢false}
use Rattle.std.specs.Prelude.{if◌then◌else◌}
use Rattle.std.proofs.lemmas.Bool.{and_parts}
use Rattle.chk_chunk.specs.Keys.{Stream, same_stream, stream_lt}
use Rattle.chk_world.specs.Books.{End, ends_rise}
use Rattle.chk_world.proofs.Each.{Each}
use Rattle.chk_world.proofs.NameTests.{streams_same}
use Rattle.chk_record_index.proofs.Orders.{streams}
use Rattle.chk_record_reader.specs.Courses.{end_of}
use Rattle.chk_join_sources.specs.Pairs.{Pair, left_alone, right_alone, paired, pairs_of}
use Rattle.chk_record_index.proofs.Apart.{apart as not_same}

-- the stream of a pair
abbrev pub pair_stream : Pair → Stream
pair_stream (left_alone a) = a.stream
pair_stream (right_alone b) = b.stream
pair_stream (paired a b) = a.stream

-- the first pair of a stream
abbrev pub pair_for : Stream → List Pair → Option Pair
pair_for s [] = None
pair_for s (p ∷ ps) = if same_stream s (pair_stream p) then Some p else pair_for s ps

-- the pair of what both archives have of it
abbrev pub pair_with_both : Option End → Option End → Option Pair
pair_with_both None None = None
pair_with_both (Some a) None = Some (left_alone a)
pair_with_both None (Some b) = Some (right_alone b)
pair_with_both (Some a) (Some b) = Some (paired a b)

-- ---- ends that rise

onward : (s t u : Stream) → stream_lt s t ≡ true → stream_lt t u ≡ true → stream_lt s u ≡ true
onward s t u first second = go (stream_lt s u) refl
  where
    go : (b : Bool) → stream_lt s u ≡ b → stream_lt s u ≡ true
    go true e = e
    go false e = absurd (true≢false (sym second ∙ streams.order.onward t s u (streams.order.one_way s t first) e))

rest_rises : (e : End) (es : List End) → ends_rise (e ∷ es) ≡ true → ends_rise es ≡ true
rest_rises e [] rise = refl
rest_rises e (f ∷ es) rise = (and_parts (stream_lt e.stream f.stream) (ends_rise (f ∷ es)) rise).1

-- a stream in front of all has no end
no_end_of : (s : Stream) (e : End) (es : List End) → ends_rise (e ∷ es) ≡ true → stream_lt s e.stream ≡ true
    → end_of s (e ∷ es) ≡ None
no_end_of s e [] rise below = ap (λ (b : Bool). if b then Some e else None) (not_same s e.stream below)
no_end_of s e (f ∷ es) rise below =
    let parts = and_parts (stream_lt e.stream f.stream) (ends_rise (f ∷ es)) rise in
    ap (λ (b : Bool). if b then Some e else end_of s (f ∷ es)) (not_same s e.stream below)
    ∙ no_end_of s f es parts.1 (onward s e.stream f.stream below parts.0)

-- ---- the pair of a stream is of what both have of it

alone : (s : Stream) (ys : List End) → pair_for s (map right_alone ys) ≡ pair_with_both None (end_of s ys)
alone s [] = refl
alone s (b ∷ ys) = go (same_stream s b.stream) (alone s ys)
  where
    go : (t : Bool) → pair_for s (map right_alone ys) ≡ pair_with_both None (end_of s ys)
        → (if t then Some (right_alone b) else pair_for s (map right_alone ys)) ≡ pair_with_both None (if t then Some b else end_of s ys)
    go true rest = refl
    go false rest = rest

-- the end in front is of the stream, which the other archive doesn't have; or it isn't
left_here : (s : Stream) (a : End) (xs ys : List End) (ps : List Pair) → (same_stream s a.stream ≡ true → end_of s ys ≡ None)
    → pair_for s ps ≡ pair_with_both (end_of s xs) (end_of s ys)
    → pair_for s (left_alone a ∷ ps) ≡ pair_with_both (end_of s (a ∷ xs)) (end_of s ys)
left_here s a xs ys ps none rest = go (same_stream s a.stream) refl
  where
    go : (t : Bool) → same_stream s a.stream ≡ t → (if t then Some (left_alone a) else pair_for s ps)
        ≡ pair_with_both (if t then Some a else end_of s xs) (end_of s ys)
    go true e = sym (ap (pair_with_both (Some a)) (none e))
    go false e = rest

right_here : (s : Stream) (b : End) (xs ys : List End) (ps : List Pair) → (same_stream s b.stream ≡ true → end_of s xs ≡ None)
    → pair_for s ps ≡ pair_with_both (end_of s xs) (end_of s ys)
    → pair_for s (right_alone b ∷ ps) ≡ pair_with_both (end_of s xs) (end_of s (b ∷ ys))
right_here s b xs ys ps none rest = go (same_stream s b.stream) refl
  where
    go : (t : Bool) → same_stream s b.stream ≡ t → (if t then Some (right_alone b) else pair_for s ps)
        ≡ pair_with_both (end_of s xs) (if t then Some b else end_of s ys)
    go true e = sym (ap (λ o. pair_with_both o (Some b)) (none e))
    go false e = rest

both_here : (s : Stream) (a b : End) (xs ys : List End) (ps : List Pair) → a.stream ≡ b.stream
    → pair_for s ps ≡ pair_with_both (end_of s xs) (end_of s ys)
    → pair_for s (paired a b ∷ ps) ≡ pair_with_both (end_of s (a ∷ xs)) (end_of s (b ∷ ys))
both_here s a b xs ys ps same rest =
    go (same_stream s a.stream)
    ∙ ap (λ (t : Stream). pair_with_both (end_of s (a ∷ xs)) (if same_stream s t then Some b else end_of s ys)) same
  where
    go : (t : Bool) → (if t then Some (paired a b) else pair_for s ps)
        ≡ pair_with_both (if t then Some a else end_of s xs) (if t then Some b else end_of s ys)
    go true = refl
    go false = rest

in_front : (s : Stream) (a b : End) (ys : List End) → ends_rise (b ∷ ys) ≡ true → stream_lt a.stream b.stream ≡ true
    → same_stream s a.stream ≡ true → end_of s (b ∷ ys) ≡ None
in_front s a b ys rise below same =
    no_end_of s b ys rise (subst (λ (t : Stream). stream_lt t b.stream ≡ true) (sym (streams_same s a.stream same)) below)

one_stream : (a b : End) → stream_lt a.stream b.stream ≡ false → stream_lt b.stream a.stream ≡ false → a.stream ≡ b.stream
one_stream a b first second = streams_same a.stream b.stream (streams.are_alike a.stream b.stream first second)

-- both archives have ends left, and what is left behind the first pair is so
first_of_both : (s : Stream) (a b : End) (xs ys : List End) → ends_rise (a ∷ xs) ≡ true → ends_rise (b ∷ ys) ≡ true
    → pair_for s (pairs_of xs (b ∷ ys)) ≡ pair_with_both (end_of s xs) (end_of s (b ∷ ys))
    → pair_for s (pairs_of (a ∷ xs) ys) ≡ pair_with_both (end_of s (a ∷ xs)) (end_of s ys)
    → pair_for s (pairs_of xs ys) ≡ pair_with_both (end_of s xs) (end_of s ys)
    → (t u : Bool) → stream_lt a.stream b.stream ≡ t → stream_lt b.stream a.stream ≡ u
    → pair_for s (if t then left_alone a ∷ pairs_of xs (b ∷ ys)
    else (if u then right_alone b ∷ pairs_of (a ∷ xs) ys else paired a b ∷ pairs_of xs ys))
    ≡ pair_with_both (end_of s (a ∷ xs)) (end_of s (b ∷ ys))
first_of_both s a b xs ys left right one other both true u e f =
    left_here s a xs (b ∷ ys) (pairs_of xs (b ∷ ys)) (in_front s a b ys right e) one
first_of_both s a b xs ys left right one other both false true e f =
    right_here s b (a ∷ xs) ys (pairs_of (a ∷ xs) ys) (in_front s b a xs left f) other
first_of_both s a b xs ys left right one other both false false e f =
    both_here s a b xs ys (pairs_of xs ys) (one_stream a b e f) both

with_first : (s : Stream) (a : End) (xs : List End) → ends_rise (a ∷ xs) ≡ true
    → ((ys : List End) → ends_rise ys ≡ true → pair_for s (pairs_of xs ys) ≡ pair_with_both (end_of s xs) (end_of s ys))
    → (ys : List End) → ends_rise ys ≡ true
    → pair_for s (pairs_of (a ∷ xs) ys) ≡ pair_with_both (end_of s (a ∷ xs)) (end_of s ys)
with_first s a xs left rest [] right = left_here s a xs [] (pairs_of xs []) (λ e. refl) (rest [] refl)
with_first s a xs left rest (b ∷ ys) right =
    first_of_both s a b xs ys left right (rest (b ∷ ys) right) (with_first s a xs left rest ys (rest_rises b ys right))
    (rest ys (rest_rises b ys right)) (stream_lt a.stream b.stream) (stream_lt b.stream a.stream) refl refl

pub lookup : (s : Stream) (xs ys : List End) → ends_rise xs ≡ true → ends_rise ys ≡ true
    → pair_for s (pairs_of xs ys) ≡ pair_with_both (end_of s xs) (end_of s ys)
lookup s [] ys left right = alone s ys
lookup s (a ∷ xs) ys left right = with_first s a xs left (λ zs rise. lookup s xs zs (rest_rises a xs left) rise) ys right

-- ---- what holds of each pair holds of that of a stream

pub each_for : (P : Pair → Type 0) (s : Stream) (ps : List Pair) (p : Pair) → Each P ps → pair_for s ps ≡ Some p → P p
each_for P s [] p each is = absurd (let z : ⊥ = cc in z)
each_for P s (q ∷ ps) p each is = go (same_stream s (pair_stream q)) (each_for P s ps p each.1) is
  where
    go : (t : Bool) → (pair_for s ps ≡ Some p → P p) → (if t then Some q else pair_for s ps) ≡ Some p → P p
    go true rest e = subst P (let same : q ≡ p = cc in same) each.0
    go false rest e = rest e
