-- The last line of a run.
use Rattle.std.specs.Prelude.{◌≡◌, ℕ, List, [], ◌∷◌, Option, Result, Ok, Err}
use Rattle.chk_site.specs.declared.acts.Call.TheVariants.{Say}
use Rattle.chk_site.specs.declared.acts.CallFault.{CallFault}
use Rattle.chk_site.specs.History.{History}
use Rattle.chk_site.specs.Site.{Adds, asked, answered, plain, Calls}
use Rattle.chk_cmd_load.specs.Processes.{chukwa}
use Rattle.chk_cmd_line.specs.declared.endings.Ending.{Ending}
use Rattle.chk_cmd_line.specs.declared.endings.Ending.TheVariants.{Outside}
use Rattle.chk_cmd_line.specs.Endings.{ending_status, ending_line}

-- the writer said the line once, whatever that was answered, or made no call
pub data SaysOnce (line : List ℕ) : Option History → Option History → Type 0 where
  unsaid : {now : Option History} → SaysOnce line now now
  said : {old new : Option History} (given : Result (Unit {0}) CallFault)
      → Adds old new (Calls (asked chukwa Say (line ∷ []) 0 0) (answered plain given)) → SaysOnce line old new

-- a command that ended well says nothing and has the status 0; another one's line is said
abbrev pub SaysEnding : Result (Unit {0}) Ending → ℕ → Option History → Option History → Type 0
SaysEnding (Ok value) status old new = (status ≡ 0) × (new ≡ old)
SaysEnding (Err e) status old new = (status ≡ ending_status e) × SaysOnce (ending_line e) old new

-- the command ended by a call that failed
abbrev pub IsOutsideEnd : Result (Unit {0}) Ending → Type 0
IsOutsideEnd (Err (Outside call)) = Unit {0}
IsOutsideEnd result = ⊥
