-- Why a call of the job is refused.
use Rattle.std.specs.Prelude.{◌≡◌, ℕ, List, ◌≤◌, false, ◌++◌, Result, Ok, Err}
use Rattle.chk_record_index.specs.Pieces.{AsksInPieces}
use Rattle.chk_world.specs.JobSteps.{IsOf}
use Rattle.chk_site.specs.Acts.{Deed}
use Rattle.chk_site.specs.declared.acts.OutsideFault.{OutsideFault}
use Rattle.chk_site.specs.declared.acts.OutsideFault.TheVariants.{Outside as site_failed, NoMemory as no_memory}
use Rattle.chk_site.specs.History.{History, is_stopped, Every}
use Rattle.chk_site.specs.Site.{Rose, EndsIn}
use Rattle.chk_record_index.specs.declared.fault.JobFault.{JobFault}
use Rattle.chk_record_index.specs.declared.fault.JobFault.TheVariants.{Outside, Damaged, Spent, NoMemory}

abbrev pub job_fault : OutsideFault → JobFault
job_fault (site_failed call) = Outside call
job_fault no_memory = NoMemory

-- only a call of the outside that failed raises the count
abbrev pub JobCause : {T : Type 0} → ℕ → ℕ → Result T JobFault → Type 0
JobCause before now (Ok value) = now ≡ before
JobCause before now (Err (Outside call)) = Rose before now × (before ≤ now)
JobCause before now (Err fault) = now ≡ before

-- the call that failed is the last one, where the site wasn't stopped
abbrev pub FailsLast : {T : Type 0} → Result T JobFault → History → History → Type 0
FailsLast (Ok value) added history = Unit {0}
FailsLast (Err (Outside call)) added history = is_stopped (added ++ history) ≡ false → EndsIn call added
FailsLast (Err fault) added history = Unit {0}

-- only such a refusal: a call failed, a file is damaged, there was no memory
abbrev pub IsOfRead : JobFault → Type 0
IsOfRead (Spent number) = ⊥
IsOfRead fault = Unit {0}

abbrev pub IsOfWrite : JobFault → Type 0
IsOfWrite (Spent number) = ⊥
IsOfWrite (Damaged name at) = ⊥
IsOfWrite fault = Unit {0}

abbrev pub IsOfBegin : JobFault → Type 0
IsOfBegin (Damaged name at) = ⊥
IsOfBegin fault = Unit {0}

-- the file of this name is damaged there, or there was no memory for the name
abbrev pub IsDamage : List ℕ → ℕ → JobFault → Type 0
IsDamage name at (Damaged which place) = (which ≡ name) × (place ≡ at)
IsDamage name at NoMemory = Unit {0}
IsDamage name at fault = ⊥

-- its own calls are of this kind and ask for pieces; one that failed is the last one
pub record Worked {T : Type 0} (K : Deed → Type 0) (r : Result T JobFault) (added history : History) : Type 0 where
  pub own : Every (IsOf K) added history
  pub pieces : Every AsksInPieces added history
  pub last : FailsLast r added history

-- the same result, of the job
abbrev pub job_result : {T : Type 0} → Result T OutsideFault → Result T JobFault
job_result (Ok value) = Ok value
job_result (Err fault) = Err (job_fault fault)
