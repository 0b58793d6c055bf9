-- What a machine was asked for, and what it answered.
use Rattle.std.specs.Prelude.{ℕ, Bool, List, ◌∷◌, Option, option_map}
use Rattle.chk_site.specs.History.{History}
use Rattle.chk_ctl_line.specs.declared.usage.Usage.{Usage}
use Rattle.chk_ctl_run.specs.declared.outcome.Outcome.{Outcome}
use Rattle.chk_ctl_run.specs.declared.outcome.Outcome.TheVariants.{Done, Usage as usage_of}
use Rattle.chk_ctl_machine.specs.declared.extent.LongInspection.{LongInspection}
use Rattle.chk_ctl_machine.specs.declared.machine.FileNumbers.{FileNumbers}

-- one call and its answer; a site that is lent or given back has its history and its count of faults
pub data Deed : Type 0 where
  Stands : Bool → Deed
  NamesPath : List ℕ → Option (List ℕ) → Deed
  Enters : List ℕ → Bool → Deed
  AsksStore : Bool → Deed
  Lends : Option LongInspection → Option History → ℕ → Deed
  TakesBack : Option History → ℕ → Deed
  AsksAge : List ℕ → Option ℕ → Deed
  AsksLocks : Option (List ℕ) → Deed
  AsksNumbers : List ℕ → Option FileNumbers → Deed
  AsksFree : Option ℕ → Deed
  Sleeps : ℕ → Deed
  Prints : List ℕ → Bool → Deed
  Tells : Outcome → Deed
  TellsUsage : Usage → Deed

-- the deeds, the newest first, where the machine tells them
abbrev pub Told : Type 0
Told = Option (List Deed)

-- one deed more
abbrev pub after : Deed → Told → Told
after deed told = option_map (λ deeds. deed ∷ deeds) told

-- an outcome is reported, unless it is `Done`
abbrev pub ended : Outcome → Told → Told
ended Done told = told
ended (usage_of usage) told = after (TellsUsage usage) told
ended outcome told = after (Tells outcome) told
