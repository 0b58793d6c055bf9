-- Why a look is refused.
use Rattle.std.proofs.Common.{◌≡◌, ℕ, Ok, Err, Result, subst}
use Rattle.chk_site.specs.declared.acts.OutsideFault.{OutsideFault}
use Rattle.chk_site.specs.declared.acts.OutsideFault.TheVariants as site
use Rattle.chk_site.specs.Site.{OutsideCause}
use Rattle.chk_record_index.specs.Faults.{JobCause}
use Rattle.chk_record_index.specs.declared.fault.JobFault.{JobFault}
use Rattle.chk_record_index.specs.declared.fault.JobFault.TheVariants as job
use Rattle.chk_checkpoint.specs.Faults.{CheckCause}
use Rattle.chk_checkpoint.specs.declared.Checkpoint.{Checkpoint}
use Rattle.chk_checkpoint.specs.declared.fault.CheckFault.{CheckFault}
use Rattle.chk_checkpoint.specs.declared.fault.CheckFault.TheVariants as check
use Rattle.chk_ctl_verify.specs.Files.{check_found, damage_of}

-- the same refusal of another call
pub err_cause : (A B : Type 0) (fault : OutsideFault) (before now : ℕ)
    → OutsideCause {T = A} before now (Err fault) → OutsideCause {T = B} before now (Err fault)
err_cause A B (site.Outside call) before now cause = cause
err_cause A B site.NoMemory before now cause = cause

pub job_cause : (A : Type 0) (fault : JobFault) (before now : ℕ)
    → JobCause {T = A} before now (Err fault) → OutsideCause before now (damage_of fault)
job_cause A (job.Outside call) before now cause = cause
job_cause A (job.Damaged name at) before now cause = cause
job_cause A (job.Spent number) before now cause = cause
job_cause A job.NoMemory before now cause = cause

pub check_cause : (given : Result Checkpoint CheckFault) (before now : ℕ)
    → CheckCause before now given → OutsideCause before now (check_found given)
check_cause (Ok lines) before now cause = cause
check_cause (Err (check.Damaged at)) before now cause = cause
check_cause (Err (check.Outside call)) before now cause = cause
check_cause (Err check.NoMemory) before now cause = cause

-- a refusal behind calls that weren't refused
pub cause_then : {A : Type 0} (result : Result A OutsideFault) (before mid now : ℕ)
    → mid ≡ before → OutsideCause mid now result → OutsideCause before now result
cause_then result before mid now same cause =
    subst (λ (n : ℕ). OutsideCause n now result) same cause
