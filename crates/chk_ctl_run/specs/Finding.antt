-- Whether a file is there, and whether the store has an archive.
use Rattle.std.specs.Prelude.{◌≡◌, ℕ, List, codes, Bool, true, false, Option, Some, None, Result}
use Rattle.std.specs.Prelude.{Ok, Err}
use Rattle.chk_site.specs.declared.acts.OutsideFault.{OutsideFault}
use Rattle.chk_site.specs.Files.{File}
use Rattle.chk_site.specs.History.{History, Every}
use Rattle.chk_site.specs.Site.{Adds}
use Rattle.chk_site.specs.Runs.{anyhow, Leads}
use Rattle.chk_replace.specs.Load.{Has}
use Rattle.chk_world.specs.JobSteps.{IsOf, ReadsFile, SparesFile}
use Rattle.chk_record_index.specs.Shown.{HasMissed}
use Rattle.chk_ctl_run.specs.declared.outcome.Outcome.{Outcome}
use Rattle.chk_ctl_run.specs.declared.outcome.Outcome.TheVariants.{NoArchive}
use Rattle.chk_ctl_run.specs.Outcomes.{told_as, OutcomeCause}

-- a file that isn't there was missed by an own read
abbrev pub ShowsMissed : List ℕ → Result Bool OutsideFault → History → History → Type 0
ShowsMissed name (Ok false) added history = HasMissed name added
ShowsMissed name result added history = Unit {0}

-- whether it is there
abbrev pub is_there : Option File → Bool
is_there None = false
is_there (Some f) = true

abbrev pub IsThere : Option File → Result Bool OutsideFault → History → Type 0
IsThere file (Ok is) history = is ≡ is_there file
IsThere file (Err fault) history = Unit {0}

-- Nothing is done but reads of a file. It isn't there only where one of them missed it; where
-- others leave the file meanwhile, it is there or not as they find it.
pub record FindsFile (name : List ℕ) (result : Result Bool OutsideFault)
    (before after : Option History) : Type 0 where
  pub quiet : Adds before after (Every (IsOf ReadsFile))
  pub missed : Adds before after (ShowsMissed name result)
  pub there : (file : Option File) → Adds before after
      (Leads (anyhow (SparesFile name)) (Has name file) (IsThere file result))

-- what comes of a store, by its archive's book
abbrev pub found_as : Result Bool OutsideFault → Result (Unit {0}) Outcome
found_as (Ok true) = Ok tt
found_as (Ok false) = Err NoArchive
found_as (Err fault) = Err (told_as (Err fault))

-- the store has an archive's book; or it has none, or that can't be read
pub record FindsArchive (result : Result (Unit {0}) Outcome) (before after : Option History)
    : Type 0 where
  pub given : Result Bool OutsideFault
  pub found : FindsFile (codes "archive/book") given before after
  pub is : result ≡ found_as given

-- this is done in a store that has an archive; in another one nothing is
pub data InStore (Does : Outcome → Option History → Option History → Type 0) : Outcome
    → Option History → Option History → Type 0 where
  not_found : {outcome : Outcome} {old new : Option History} → FindsArchive (Err outcome) old new
      → InStore Does outcome old new
  in_store : {outcome : Outcome} {old mid new : Option History} → FindsArchive (Ok tt) old mid
      → Does outcome mid new
      → InStore Does outcome old new

-- only a call of the outside that failed raises the count
abbrev pub FoundCause : ℕ → ℕ → Result (Unit {0}) Outcome → Type 0
FoundCause before now (Ok value) = now ≡ before
FoundCause before now (Err outcome) = OutcomeCause before now outcome
