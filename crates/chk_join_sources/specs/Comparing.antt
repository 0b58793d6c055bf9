-- How far the comparison of a stream in two archives is.
use Rattle.std.specs.Prelude.{◌≡◌, ◌⊎◌, ℕ, ◌+◌, ◌-◌, ◌<◌, ◌≤◌, List, length, ◌++◌, take, drop, flat_map, Option, Some, None, Result, Ok, Err}
use Rattle.chk_site.specs.Files.{Files}
use Rattle.chk_site.specs.History.{History}
use Rattle.chk_world.proofs.Each.{Each}
use Rattle.chk_record_index.specs.declared.fault.JobFault.{JobFault}
use Rattle.chk_record_index.specs.declared.fault.JobFault.TheVariants.{Damaged}
use Rattle.chk_record_reader.specs.Segments.{HasFiles}
use Rattle.chk_record_reader.specs.Archives.{IsKnown, AreWindows, value_in}
use Rattle.chk_join_sources.specs.declared.gathering.Side.{Side}
use Rattle.chk_join_sources.specs.declared.comparing.Cursor.{Cursor}
use Rattle.chk_join_sources.specs.declared.comparing.Progress.{Progress}
use Rattle.chk_join_sources.specs.declared.comparing.Readers.{Readers}
use Rattle.chk_join_sources.specs.Blocks.{head_in}
use Rattle.chk_join_sources.specs.Differences.{first_difference, further}
use Rattle.chk_join_sources.specs.Reading.{AreAmong}

-- the values of the records whose heads stand from the one place up to the other, joined
abbrev pub values_between : Side → Files → ℕ → ℕ → List ℕ
values_between s held first end =
    flat_map (value_in s.names.now held) (take (end - first) (drop first s.heads.now))

-- the value of the head at a place
abbrev pub value_there : Side → Files → ℕ → List ℕ
value_there s held index = value_in s.names.now held (head_in s.heads.now index)

-- what isn't passed yet
abbrev pub rest_of : Side → Files → Cursor → List ℕ
rest_of s held c = drop c.passed (values_between s held c.index c.end)

-- no more is passed of the value there than it has
abbrev pub IsWithin : Side → Files → Cursor → Type 0
IsWithin s held c = c.index < c.end → c.passed ≤ length (value_there s held c.index)

-- the first place at which both differ, behind all that was the same
abbrev pub difference_left : Side → Side → Files → Progress → Option ℕ
difference_left l r held p = further p.same (first_difference (rest_of l held p.left) (rest_of r held p.right))

-- the cursor went on by so many bytes, within a value or to the next one
pub record IsMoved (value more : List ℕ) (count : ℕ) (old new : Cursor) : Type 0 where
  pub end : new.end ≡ old.end
  pub on : ((new.index ≡ old.index) × (new.passed ≤ length value)
      × (drop new.passed value ++ more ≡ drop count (drop old.passed value ++ more)))
      ⊎ ((new.index ≡ old.index + 1) × (new.passed ≡ 0) × (more ≡ drop count (drop old.passed value ++ more)))

-- both cursors went on by the bytes that are the same
pub record IsStep (v more w rest : List ℕ) (old new : Progress) : Type 0 where
  pub count : ℕ
  pub left : IsMoved v more count old.left new.left
  pub right : IsMoved w rest count old.right new.right
  pub same : new.same ≡ old.same + count
  pub on : first_difference (drop old.left.passed v ++ more) (drop old.right.passed w ++ rest)
      ≡ further count (first_difference (drop count (drop old.left.passed v ++ more)) (drop count (drop old.right.passed w ++ rest)))

-- two values, and what stands behind each, were compared as far as both go: they differ there, or both cursors went on
abbrev pub IsCompared : List ℕ → List ℕ → List ℕ → List ℕ → Progress → Progress → Option ℕ → Type 0
IsCompared v more w rest old new (Some k) =
    further old.same (first_difference (drop old.left.passed v ++ more) (drop old.right.passed w ++ rest)) ≡ Some k
IsCompared v more w rest old new None = IsStep v more w rest old new

-- the side's files are some of all, and its heads are those of records in them
pub record IsSide (most : ℕ) (all : List (List ℕ)) (held : Files) (s : Side) : Type 0 where
  pub among : AreAmong all s.names.now
  pub known : Each (IsKnown most s.names.now held) s.heads.now

-- what both readers hold is what the files have
pub record AreTrue (l r : Side) (held : Files) (rs : Readers) : Type 0 where
  pub left : AreWindows l.names.now held rs.left
  pub right : AreWindows r.names.now held rs.right

-- both cursors stand within a value
pub record AreWithin (l r : Side) (held : Files) (p : Progress) : Type 0 where
  pub left : IsWithin l held p.left
  pub right : IsWithin r held p.right

-- Two records were compared: at Ok the files and the readers are as they have to be, and the rest differs where all differed, or
-- both differ there. Nothing is ever damaged.
abbrev pub ComparedOne : List (List ℕ) → Side → Side → Files → Readers → Progress → Progress → Result (Option ℕ) JobFault
    → History → Type 0
ComparedOne all l r held rs old new (Ok None) history =
    HasFiles all held history × AreTrue l r held rs × AreWithin l r held new
    × (difference_left l r held new ≡ difference_left l r held old)
ComparedOne all l r held rs old new (Ok (Some k)) history =
    HasFiles all held history × AreTrue l r held rs × (difference_left l r held old ≡ Some k)
ComparedOne all l r held rs old new (Err (Damaged name at)) history = ⊥
ComparedOne all l r held rs old new (Err fault) history = Unit {0}

-- at Ok this is the first place at which the bytes of both differ
abbrev pub ComparedAll : List (List ℕ) → Side → Side → Files → Readers → List ℕ → List ℕ → Result (Option ℕ) JobFault
    → History → Type 0
ComparedAll all l r held rs a b (Ok found) history =
    HasFiles all held history × AreTrue l r held rs × (found ≡ first_difference a b)
ComparedAll all l r held rs a b (Err (Damaged name at)) history = ⊥
ComparedAll all l r held rs a b (Err fault) history = Unit {0}
