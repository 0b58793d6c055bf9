-- The inspection of a store.
use Rattle.std.specs.Prelude.{◌≡◌, ℕ, Option, None, Result, Ok, Err}
use Rattle.chk_site.specs.History.{History}
use Rattle.chk_world.specs.Names.{spell, SinkFile}
use Rattle.chk_record_index.specs.declared.fault.JobFault.{JobFault}
use Rattle.chk_ctl_status_rows.specs.declared.sinks.OpenSink.{OpenSink}
use Rattle.chk_ctl_status.specs.declared.store.StoreSeen.{StoreSeen}
use Rattle.chk_ctl_status.specs.Stores.{FoundStore}
use Rattle.chk_ctl_run.specs.declared.outcome.Outcome.{Outcome}
use Rattle.chk_ctl_run.specs.declared.outcome.Outcome.TheVariants.{NoMemory}
use Rattle.chk_ctl_run.specs.Outcomes.{outcome_of_job}
use Rattle.chk_ctl_machine.specs.Deeds.{after, AsksFree, Told}
use Rattle.chk_ctl_machine.specs.Turns.{InTurn}
use Rattle.chk_ctl_machine.specs.Lending.{Lent, SeenCause}
use Rattle.chk_ctl_machine.specs.Ages.{AsksAgeOf}

-- a store, or the outcome of a refusal
abbrev pub found_as : Result StoreSeen JobFault → Result StoreSeen Outcome
found_as (Ok s) = Ok s
found_as (Err fault) = Err (outcome_of_job fault)

-- the store is read by the site
pub data ReadsStore : Result StoreSeen Outcome → Option History → Option History → Type 0 where
  unbegun : {now : Option History} → ReadsStore (Err NoMemory) now now
  read : {old new : Option History} (given : Result StoreSeen JobFault) → FoundStore given old new
      → ReadsStore (found_as given) old new

pub record FindsStore (result : Result StoreSeen Outcome) (from : Option History) (before : ℕ)
    (to : Option History) (now : ℕ) : Type 0 where
  pub told : ReadsStore result from to
  pub cause : SeenCause before now result

-- a sink gets the age of its file
pub record AgesSink (a b : OpenSink) (old new : Told) : Type 0 where
  pub age : Option ℕ
  pub is : b ≡ record a { quiet = age }
  pub asked : AsksAgeOf (spell (SinkFile a.stem)) age old new

-- those of a store do, in turn, and then the machine is asked how much is free
pub record AgesStore (found s : StoreSeen) (old new : Told) : Type 0 where
  pub aged : Told
  pub sinks : InTurn AgesSink found.sinks.unclosed.items s.sinks.unclosed.items old aged
  pub free : new ≡ after (AsksFree s.free) aged
  pub closed : s.sinks.closed ≡ found.sinks.closed
  pub waiting : s.waiting ≡ found.waiting
  pub split : s.split ≡ found.split

-- the store is read, and then ages are asked for
pub data SeesStore : Result StoreSeen Outcome → Told → Told → Type 0 where
  unseen : {outcome : Outcome} {old new : Told} → Lent None (FindsStore (Err outcome)) old new
      → SeesStore (Err outcome) old new
  seen : {found s : StoreSeen} {old mid new : Told} → Lent None (FindsStore (Ok found)) old mid
      → AgesStore found s mid new → SeesStore (Ok s) old new
