-- What a comparison of two archives comes to.
use Rattle.std.specs.Prelude.{ℕ, List, [], ◌∷◌, Option, Some, None, Result, Ok, Err}
use Rattle.chk_site.specs.Files.{Files}
use Rattle.chk_site.specs.History.{History}
use Rattle.chk_world.proofs.Each.{Each}
use Rattle.chk_record_index.specs.Heads.{Head}
use Rattle.chk_record_index.specs.declared.fault.JobFault.{JobFault}
use Rattle.chk_record_index.specs.declared.fault.JobFault.TheVariants.{Damaged}
use Rattle.chk_record_reader.specs.Segments.{HasFiles}
use Rattle.chk_join_sources.specs.declared.gathering.Side.{Side}
use Rattle.chk_join_sources.specs.declared.comparing.Readers.{Readers}
use Rattle.chk_join_sources.specs.Blocks.{StreamsRise}
use Rattle.chk_join_sources.specs.Comparing.{IsSide, AreTrue}
use Rattle.chk_join_sources.specs.declared.choosing.Chosen.{Chosen}
use Rattle.chk_join_sources.specs.declared.choosing.Chosen.TheVariants.{Agree, Differ}
use Rattle.chk_join_sources.specs.declared.difference.Difference.{Difference}
use Rattle.chk_join_sources.specs.Pairs.{Pair}
use Rattle.chk_join_sources.specs.Plans.{IsPlanOf}
use Rattle.chk_join_sources.specs.Differing.{PairAgrees, PairDiffers, FirstDiffers}

-- the side's files are some of all, its heads are those of records in them, and no stream comes behind a later one
pub record IsSideInOrder (most : ℕ) (all : List (List ℕ)) (held : Files) (s : Side) : Type 0 where
  pub side : IsSide most all held s
  pub rise : StreamsRise s.heads.now

-- one pair was compared
abbrev pub ComparedPair : List (List ℕ) → Side → Side → Files → Readers → Pair → Result (Option Difference) JobFault → History → Type 0
ComparedPair all l r held rs p (Ok None) history = HasFiles all held history × (AreTrue l r held rs × PairAgrees l r held p)
ComparedPair all l r held rs p (Ok (Some d)) history = HasFiles all held history × PairDiffers l r held p d
ComparedPair all l r held rs p (Err (Damaged name at)) history = ⊥
ComparedPair all l r held rs p (Err fault) history = Unit {0}

-- the first one of these pairs was compared
abbrev pub ComparedFirst : List (List ℕ) → Side → Side → Files → Readers → List Pair → Result (Option Difference) JobFault → History → Type 0
ComparedFirst all l r held rs [] result history = ⊥
ComparedFirst all l r held rs (p ∷ ps) result history = ComparedPair all l r held rs p result history

-- the plan takes of each pair what is to be taken
abbrev pub IsChosen : List Head → List Head → List Pair → Chosen → Type 0
IsChosen lefts rights ps (Agree plan) = IsPlanOf lefts rights ps plan
IsChosen lefts rights ps (Differ d) = Unit {0}

-- where all was compared the files are as they were, and all pairs are alike, or the first one that isn't differs there; nothing is
-- ever damaged
abbrev pub ComparedPairs : List (List ℕ) → Side → Side → Files → List Pair → Result Chosen JobFault → History → Type 0
ComparedPairs all l r held ps (Ok (Agree plan)) history = HasFiles all held history × Each (PairAgrees l r held) ps
ComparedPairs all l r held ps (Ok (Differ d)) history = HasFiles all held history × FirstDiffers l r held ps d
ComparedPairs all l r held ps (Err (Damaged name at)) history = ⊥
ComparedPairs all l r held ps (Err fault) history = Unit {0}
