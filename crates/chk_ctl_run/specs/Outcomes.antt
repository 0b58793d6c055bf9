-- How a look ends.
use Rattle.std.specs.Prelude.{◌≡◌, ℕ, ◌≤◌, Result, Ok, Err}
use Rattle.chk_site.specs.declared.acts.OutsideFault.{OutsideFault}
use Rattle.chk_site.specs.declared.acts.OutsideFault.TheVariants.{Outside as site_failed}
use Rattle.chk_site.specs.declared.acts.OutsideFault.TheVariants.{NoMemory as no_memory}
use Rattle.chk_site.specs.Site.{Rose}
use Rattle.chk_record_index.specs.declared.fault.JobFault.{JobFault}
use Rattle.chk_record_index.specs.declared.fault.JobFault.TheVariants as job
use Rattle.chk_ctl_cat.specs.declared.fault.LookFault.{LookFault}
use Rattle.chk_ctl_cat.specs.declared.fault.LookFault.TheVariants as fault
use Rattle.chk_ctl_cat.specs.declared.stream.Came.{Came}
use Rattle.chk_ctl_cat.specs.declared.stream.Came.TheVariants as came
use Rattle.chk_ctl_run.specs.declared.outcome.Outcome.{Outcome}
use Rattle.chk_ctl_run.specs.declared.outcome.Outcome.TheVariants.{Done, NoArchive, NoBook, Unknown}
use Rattle.chk_ctl_run.specs.declared.outcome.Outcome.TheVariants.{Short, Damaged, Usage, Outside}
use Rattle.chk_ctl_run.specs.declared.outcome.Outcome.TheVariants.{Behind, Gone, NoMemory, Waits}
use Rattle.chk_ctl_run.specs.declared.outcome.Outcome.TheVariants.{Differs, Found, NoFile, Unsound}

abbrev pub outcome_status : Outcome → ℕ
outcome_status Done = 0
outcome_status NoArchive = 1
outcome_status (NoBook name) = 1
outcome_status Unknown = 1
outcome_status Short = 1
outcome_status (Damaged name at) = 1
outcome_status Unsound = 1
outcome_status Waits = 1
outcome_status Behind = 1
outcome_status Differs = 1
outcome_status Found = 1
outcome_status (Usage usage) = 2
outcome_status (Outside call) = 3
outcome_status NoFile = 3
outcome_status (Gone name) = 3
outcome_status NoMemory = 4

-- of a stream that was printed
abbrev pub outcome_of : Came → Outcome
outcome_of came.Whole = Done
outcome_of came.Short = Short
outcome_of came.Unknown = Unknown

-- of a refusal
abbrev pub outcome_of_fault : LookFault → Outcome
outcome_of_fault (fault.Outside call) = Outside call
outcome_of_fault (fault.Damaged name at) = Damaged name at
outcome_of_fault (fault.Gone name) = Gone name
outcome_of_fault fault.NoMemory = NoMemory

-- of a refusal of a read of the job's
abbrev pub outcome_of_job : JobFault → Outcome
outcome_of_job (job.Outside call) = Outside call
outcome_of_job (job.Damaged name at) = Damaged name at
outcome_of_job (job.Spent number) = NoMemory
outcome_of_job job.NoMemory = NoMemory

-- of what was printed of a stream, of lines of streams, and of one line
abbrev pub shown_as : Result Came LookFault → Outcome
shown_as (Ok came) = outcome_of came
shown_as (Err fault) = outcome_of_fault fault

abbrev pub listed_as : Result (Unit {0}) LookFault → Outcome
listed_as (Ok value) = Done
listed_as (Err fault) = outcome_of_fault fault

abbrev pub told_as : Result (Unit {0}) OutsideFault → Outcome
told_as (Ok value) = Done
told_as (Err (site_failed call)) = Outside call
told_as (Err no_memory) = NoMemory

-- only a call of the outside that failed raises the count
abbrev pub OutcomeCause : ℕ → ℕ → Outcome → Type 0
OutcomeCause before now (Outside call) = Rose before now × (before ≤ now)
OutcomeCause before now outcome = now ≡ before
