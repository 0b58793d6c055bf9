-- The replacement of a file.
use Rattle.std.specs.Prelude.{◌≡◌, ◌≢◌, ◌⊎◌, ℕ, true, false, List, [], ◌∷◌, ◌++◌, length, codes, Option, Some, None, Result, Ok, Err}
use Rattle.chk_site.specs.declared.acts.Who.{Who}
use Rattle.chk_site.specs.declared.acts.Call.TheVariants.{Create, Append, Sync, Rename, Remove}
use Rattle.chk_site.specs.declared.acts.OutsideFault.{OutsideFault}
use Rattle.chk_site.specs.declared.acts.OutsideFault.TheVariants.{Outside, NoMemory as no_memory}
use Rattle.chk_site.specs.Files.{File, IsSettled}
use Rattle.chk_site.specs.Acts.{deed, touches, tail_in}
use Rattle.chk_site.specs.History.{Step, History, Every, Others, files_after}
use Rattle.chk_site.specs.Site.{Asked, asked}

-- the name under which a file's next content is written
abbrev pub tmp : List ℕ → List ℕ
tmp name = name ++ codes ".tmp"

-- what a replacement calls for, in turn: the next content is made anew, written and synced, and then takes the file's place
abbrev pub replacement : Who → List ℕ → List ℕ → List Asked
replacement who name bytes =
    asked who Remove (tmp name ∷ []) 0 0
    ∷ asked who Create (tmp name ∷ []) 0 0
    ∷ asked who Append (tmp name ∷ bytes ∷ []) 0 0
    ∷ asked who Sync (tmp name ∷ []) 0 0
    ∷ asked who Rename (tmp name ∷ name ∷ []) 0 0
    ∷ []

-- the step doesn't touch the file of this name, and is no stop that leaves a tail of it
pub record LeavesFile (name : List ℕ) (before : History) (step : Step) : Type 0 where
  pub untouched : touches (deed step.act) name ≡ false
  pub no_tail : tail_in step.act.answer name ≡ None

-- the step doesn't touch the file, and leaves its next content
pub record LeavesBoth (name : List ℕ) (before : History) (step : Step) : Type 0 where
  pub file : touches (deed step.act) name ≡ false
  pub next : LeavesFile (tmp name) before step

-- the file with these bytes, all of them on the disk
abbrev pub whole : List ℕ → File
whole bytes = record { bytes = bytes; synced = length bytes }

-- the file is the old one, or the new one, which is whole and on the disk
abbrev pub IsOldOrNew : Option File → List ℕ → Option File → Type 0
IsOldOrNew old bytes file = (file ≡ old) ⊎ (file ≡ Some (whole bytes))

-- at Ok the file is the new one
abbrev pub EndsAs : Result Unit OutsideFault → Option File → List ℕ → Option File → Type 0
EndsAs (Ok value) old bytes file = file ≡ Some (whole bytes)
EndsAs (Err fault) old bytes file = IsOldOrNew old bytes file

-- after each added step the file is the one before them, or the new one; after the last one at Ok it is the new one
pub record OldOrNew (name bytes : List ℕ) (result : Result Unit OutsideFault) (added history : History) : Type 0 where
  pub each : Every (λ before step. IsOldOrNew (files_after history name) bytes (step.files name)) added history
  pub last : EndsAs result (files_after history name) bytes (files_after (added ++ history) name)

-- Suppose that the file is wholly on the disk, where it is there, and that no step of others touches it or touches its next
-- content or leaves a tail of that. Then it is the old one or the new one at each moment.
abbrev pub ReplacesWhole : List ℕ → List ℕ → Result Unit OutsideFault → History → History → Type 0
ReplacesWhole name bytes result added history =
    IsSettled (files_after history name) → Others (LeavesBoth name) added history → OldOrNew name bytes result added history

-- the step, where it is the site's own, is by this process, and touches the file and its next content alone
abbrev pub TouchesBoth : Who → List ℕ → History → Step → Type 0
TouchesBoth who name before step =
    step.own ≡ true
    → (step.act.who ≡ who)
    × ((other : List ℕ) → other ≢ name → other ≢ tmp name → touches (deed step.act) other ≡ false)

-- without memory the step, where it is the site's own, leaves the file: the rename wasn't made
abbrev pub SparesOld : Result Unit OutsideFault → List ℕ → History → Step → Type 0
SparesOld (Err no_memory) name before step = step.own ≡ true → touches (deed step.act) name ≡ false
SparesOld (Err (Outside call)) name before step = Unit {0}
SparesOld (Ok value) name before step = Unit {0}
