-- What is taken of all streams.
use Rattle.std.specs.Prelude.{◌≡◌, ◌≤◌, ℕ, ◌+◌, ◌-◌, Bool, List, [], ◌∷◌, ◌++◌, length, map, sum_by, if◌then◌else◌}
use Rattle.chk_chunk.specs.Keys.{Stream}
use Rattle.chk_world.specs.Books.{End}
use Rattle.chk_record_index.specs.Heads.{Head}
use Rattle.chk_book.specs.Views.{end_view}
use Rattle.chk_join_sources.specs.declared.blocks.Block.{Block}
use Rattle.chk_join_sources.specs.Blocks.{AllOf, StreamsRise, HoldsStream}
use Rattle.chk_join_sources.specs.declared.plan.Choice.{Choice}
use Rattle.chk_join_sources.specs.declared.plan.Plan.{Plan}
use Rattle.chk_join_sources.specs.declared.pairs.Places.{Places}
use Rattle.chk_join_sources.specs.Pairs.{Pair, is_from_right, taken_end, pairs_left}

-- how many bytes a stream has that ends so
abbrev pub size_of : End → ℕ
size_of e = e.end - e.start

-- nothing is taken yet
pub record TakesNothing (p : Plan) : Type 0 where
  pub choices : p.choices.items ≡ []
  pub ends : p.ends ≡ []
  pub bytes : p.bytes ≡ 0

-- one more stream is taken, which ends so
pub record HasTaken (e : End) (c : Choice) (old new : Plan) : Type 0 where
  pub choices : new.choices.items ≡ old.choices.items ++ c ∷ []
  pub ends : map end_view new.ends ≡ map end_view old.ends ++ e ∷ []
  pub bytes : new.bytes ≡ old.bytes + size_of e

-- the heads in the block are of this stream, and where streams rise no other ones are
pub record IsBlockOf (heads : List Head) (s : Stream) (b : Block) : Type 0 where
  pub low : b.first ≤ b.end
  pub high : b.end ≤ length heads
  pub all : AllOf heads s b.first b.end
  pub holds : StreamsRise heads → HoldsStream heads s b.first b.end

-- the records that have more bytes are chosen, the left ones where both have as many
pub record IsChoiceOf (lefts rights : List Head) (p : Pair) (c : Choice) : Type 0 where
  pub side : c.from_right ≡ is_from_right p
  pub block : IsBlockOf (if is_from_right p then rights else lefts) (taken_end p).stream c.block

-- the same of each pair and the choice at its place
abbrev pub AreChoicesOf : List Head → List Head → List Pair → List Choice → Type 0
AreChoicesOf lefts rights [] [] = Unit {0}
AreChoicesOf lefts rights [] (c ∷ cs) = ⊥
AreChoicesOf lefts rights (p ∷ ps) [] = ⊥
AreChoicesOf lefts rights (p ∷ ps) (c ∷ cs) = IsChoiceOf lefts rights p c × AreChoicesOf lefts rights ps cs

-- a block of the stream's heads is taken
abbrev pub HasTakenBlock : List Head → End → Bool → Plan → Plan → Type 0
HasTakenBlock heads e from_right old new =
    (b : Block) × IsBlockOf heads e.stream b × HasTaken e (record { from_right = from_right; block = b }) old new

-- of the pair what is to be taken is taken
abbrev pub HasTakenPair : List Head → List Head → Pair → Plan → Plan → Type 0
HasTakenPair lefts rights p old new = (c : Choice) × IsChoiceOf lefts rights p c × HasTaken (taken_end p) c old new

-- what is taken of all pairs
pub record IsPlanOf (lefts rights : List Head) (ps : List Pair) (plan : Plan) : Type 0 where
  pub ends : map end_view plan.ends ≡ map taken_end ps
  pub choices : AreChoicesOf lefts rights ps plan.choices.items
  pub bytes : plan.bytes ≡ sum_by size_of (map taken_end ps)

-- one more pair is gone through
pub record HasPassed (lefts rights : List Head) (ls rs : List End) (p : Pair) (old new : Places) (before after : Plan) : Type 0 where
  pub choice : Choice
  pub is : IsChoiceOf lefts rights p choice
  pub taken : HasTaken (taken_end p) choice before after
  pub left_low : old.left ≤ new.left
  pub left_high : new.left ≤ length ls
  pub right_low : old.right ≤ new.right
  pub right_high : new.right ≤ length rs
  pub on : old.left + old.right + 1 ≤ new.left + new.right
  pub pairs : pairs_left ls rs old ≡ p ∷ pairs_left ls rs new

abbrev pub HasPassedOne : List Head → List Head → List End → List End → Places → Places → Plan → Plan → Type 0
HasPassedOne lefts rights ls rs old new before after = (p : Pair) × HasPassed lefts rights ls rs p old new before after
