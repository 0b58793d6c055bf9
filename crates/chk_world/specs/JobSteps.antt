-- The job's own steps, by what they are made for.
use Rattle.std.specs.Prelude.{◌≡◌, ◌⊎◌, ℕ, true, false, List}
use Rattle.chk_site.specs.Acts.{Deed, Creates, Appends, Syncs, Removes, Reads, AsksSize, deed}
use Rattle.chk_site.specs.History.{Step, History, IsTheirs, files_after, is_stopped}
use Rattle.chk_site.specs.Honest.{Honest}
use Rattle.chk_world.specs.Sight.{job}

-- the site's own step, by the job, honest
pub record IsOwnStep (before : History) (step : Step) : Type 0 where
  pub own : step.own ≡ true
  pub running : is_stopped before ≡ false
  pub honest : Honest before step
  pub by : step.act.who ≡ job

-- the call writes this file anew
pub data WritesTo (name : List ℕ) : Deed → Type 0 where
  removes : WritesTo name (Removes name)
  creates : WritesTo name (Creates name)
  appends : (piece : List ℕ) → WritesTo name (Appends name piece)
  syncs : WritesTo name (Syncs name)

-- the call reads a file
pub data ReadsFile : Deed → Type 0 where
  reads : (name : List ℕ) (at max : ℕ) → ReadsFile (Reads name at max)
  asks : (name : List ℕ) → ReadsFile (AsksSize name)

-- the step is one of others, or an own one of a kind
abbrev pub IsOf : (Deed → Type 0) → History → Step → Type 0
IsOf K before step = IsTheirs before step ⊎ (IsOwnStep before step × K (deed step.act))

-- the step leaves the file of this name as it is. (A sync of a done sink by its collector touches
-- it and leaves it so; that is why it isn't asked that the step doesn't touch it.)
abbrev pub SparesFile : List ℕ → History → Step → Type 0
SparesFile name before step = step.files name ≡ files_after before name

-- the call reads a file, or writes this one anew
abbrev pub ReadsOrWrites : List ℕ → Deed → Type 0
ReadsOrWrites name call = ReadsFile call ⊎ WritesTo name call
