-- The streams of two archives side by side, in byte order.
use Rattle.std.specs.Prelude.{Bool, true, false, nat_lt, List, [], ◌∷◌, map, drop, if◌then◌else◌}
use Rattle.chk_chunk.specs.Keys.{stream_lt}
use Rattle.chk_world.specs.Books.{End}
use Rattle.chk_join_sources.specs.declared.pairs.Turn.{Turn}
use Rattle.chk_join_sources.specs.declared.pairs.Turn.TheVariants.{Left, Right, Both}
use Rattle.chk_join_sources.specs.declared.pairs.Places.{Places}

-- a stream's end in one archive alone, or in both
pub data Pair : Type 0 where
  left_alone : (a : End) → Pair
  right_alone : (b : End) → Pair
  paired : (a b : End) → Pair

-- the pairs of this end and of all behind it, which `rest` pairs, with these
abbrev pub pair_with : End → (List End → List Pair) → List End → List Pair
pair_with a rest [] = left_alone a ∷ rest []
pair_with a rest (b ∷ ys) =
    if stream_lt a.stream b.stream then left_alone a ∷ rest (b ∷ ys)
    else (if stream_lt b.stream a.stream then right_alone b ∷ pair_with a rest ys else paired a b ∷ rest ys)

-- the pairs of ends that stand in byte order
abbrev pub pairs_of : List End → List End → List Pair
pairs_of [] ys = map right_alone ys
pairs_of (a ∷ xs) ys = pair_with a (pairs_of xs) ys

-- whose end is the first one
abbrev pub turn_of : List End → List End → Turn
turn_of [] ys = Right
turn_of (a ∷ xs) [] = Left
turn_of (a ∷ xs) (b ∷ ys) =
    if stream_lt a.stream b.stream then Left else (if stream_lt b.stream a.stream then Right else Both)

-- the pairs that aren't gone through yet
abbrev pub pairs_left : List End → List End → Places → List Pair
pairs_left lefts rights at = pairs_of (drop at.left lefts) (drop at.right rights)

-- the right archive has more bytes of the stream, both having the same start
abbrev pub is_from_right : Pair → Bool
is_from_right (left_alone a) = false
is_from_right (right_alone b) = true
is_from_right (paired a b) = nat_lt a.end b.end

-- the end of the one that has more
abbrev pub taken_end : Pair → End
taken_end (left_alone a) = a
taken_end (right_alone b) = b
taken_end (paired a b) = if nat_lt a.end b.end then b else a
