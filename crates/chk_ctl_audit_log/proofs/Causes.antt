-- Why a job ended, by what a call of it says.
use Rattle.std.proofs.Common.{◌≡◌, ℕ, Result, Err, subst}
use Rattle.chk_site.specs.declared.acts.OutsideFault.{OutsideFault}
use Rattle.chk_site.specs.declared.acts.OutsideFault.TheVariants as site
use Rattle.chk_site.specs.Site.{OutsideCause}
use Rattle.chk_record_index.specs.declared.fault.JobFault.{JobFault}
use Rattle.chk_record_index.specs.declared.fault.JobFault.TheVariants as fault
use Rattle.chk_record_index.specs.Faults.{job_fault, IsOfRead, JobCause}

pub of_call : (f : OutsideFault) → IsOfRead (job_fault f)
of_call (site.Outside call) = tt
of_call site.NoMemory = tt

pub call_cause : (T V : Type 0) (f : OutsideFault) (before now : ℕ)
    → OutsideCause {T = T} before now (Err f) → JobCause {T = V} before now (Err (job_fault f))
call_cause T V (site.Outside call) before now x = x
call_cause T V site.NoMemory before now x = x

pub job_then : {T : Type 0} (result : Result T JobFault) (a b c : ℕ) → b ≡ a
    → JobCause b c result → JobCause a c result
job_then result a b c same x = subst (λ n. JobCause n c result) same x

pub job_as : (T V : Type 0) (f : JobFault) (before now : ℕ) → JobCause {T = T} before now (Err f)
    → JobCause {T = V} before now (Err f)
job_as T V (fault.Outside call) before now x = x
job_as T V (fault.Damaged name at) before now x = x
job_as T V (fault.Spent number) before now x = x
job_as T V fault.NoMemory before now x = x
