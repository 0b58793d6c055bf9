-- Where the bytes of two archives differ.
use Rattle.std.specs.Prelude.{◌≡◌, ◌⊎◌, ℕ, ◌+◌, min, List, [], ◌∷◌, Option, Some, None, Result, Ok, Err}
use Rattle.chk_site.specs.Files.{Files}
use Rattle.chk_site.specs.History.{History}
use Rattle.chk_chunk.specs.Keys.{Stream}
use Rattle.chk_world.specs.Books.{End}
use Rattle.chk_record_index.specs.declared.fault.JobFault.{JobFault}
use Rattle.chk_record_index.specs.declared.fault.JobFault.TheVariants.{Damaged}
use Rattle.chk_record_reader.specs.Segments.{HasFiles}
use Rattle.chk_record_reader.specs.Archives.{values_in}
use Rattle.chk_join_sources.specs.declared.gathering.Side.{Side}
use Rattle.chk_join_sources.specs.declared.comparing.Readers.{Readers}
use Rattle.chk_join_sources.specs.Differences.{first_difference}
use Rattle.chk_join_sources.specs.Comparing.{AreTrue}
use Rattle.chk_join_sources.specs.declared.difference.Difference.{Difference}
use Rattle.chk_join_sources.specs.Pairs.{Pair, left_alone, right_alone, paired}

abbrev pub difference_at : Stream → ℕ → Difference
difference_at s at = record { source = s.source; kind = s.kind; name = s.name; at = at }

-- the stream differs at this place, if there is one
abbrev pub difference_by : Stream → Option ℕ → Option Difference
difference_by s None = None
difference_by s (Some at) = Some (difference_at s at)

-- the offset so far behind the start, if there is one
abbrev pub place_behind : ℕ → Option ℕ → Option ℕ
place_behind start None = None
place_behind start (Some k) = Some (start + k)

-- the bytes that a side has of a stream
abbrev pub bytes_of : Side → Files → Stream → List ℕ
bytes_of side held s = values_in s side.names.now held side.heads.now

-- they have the same start, and one is a front of the other
abbrev pub AreAlike : ℕ → ℕ → List ℕ → List ℕ → Type 0
AreAlike start other v w = (start ≡ other) × (first_difference v w ≡ None)

-- they differ: at the lesser start, or at the first offset at which their bytes differ
abbrev pub DifferAt : ℕ → ℕ → List ℕ → List ℕ → ℕ → Type 0
DifferAt start other v w at =
    ((start ≡ other → ⊥) × (at ≡ min start other))
    ⊎ ((start ≡ other) × ((k : ℕ) × (first_difference v w ≡ Some k) × (at ≡ start + k)))

-- what was found of two ends whose streams have these bytes
abbrev pub FoundOf : List (List ℕ) → Side → Side → Files → Readers → End → End → List ℕ → List ℕ → Result (Option ℕ) JobFault
    → History → Type 0
FoundOf all l r held rs a b v w (Ok None) history =
    HasFiles all held history × (AreTrue l r held rs × AreAlike a.start b.start v w)
FoundOf all l r held rs a b v w (Ok (Some at)) history = HasFiles all held history × DifferAt a.start b.start v w at
FoundOf all l r held rs a b v w (Err (Damaged name at)) history = ⊥
FoundOf all l r held rs a b v w (Err fault) history = Unit {0}

-- what both archives have of a stream is alike
abbrev pub PairAgrees : Side → Side → Files → Pair → Type 0
PairAgrees l r held (left_alone a) = Unit {0}
PairAgrees l r held (right_alone b) = Unit {0}
PairAgrees l r held (paired a b) = AreAlike a.start b.start (bytes_of l held a.stream) (bytes_of r held b.stream)

-- it differs there
abbrev pub PairDiffers : Side → Side → Files → Pair → Difference → Type 0
PairDiffers l r held (left_alone a) d = ⊥
PairDiffers l r held (right_alone b) d = ⊥
PairDiffers l r held (paired a b) d =
    (d ≡ difference_at a.stream d.at) × DifferAt a.start b.start (bytes_of l held a.stream) (bytes_of r held b.stream) d.at

-- the first pair that isn't alike differs there
abbrev pub FirstDiffers : Side → Side → Files → List Pair → Difference → Type 0
FirstDiffers l r held [] d = ⊥
FirstDiffers l r held (p ∷ ps) d = PairDiffers l r held p d ⊎ (PairAgrees l r held p × FirstDiffers l r held ps d)
