-- What holds of a look after another one.
use Rattle.std.proofs.Common.{◌≡◌, ℕ, true, Ok, Err, Result}
use Rattle.chk_record_index.specs.Faults.{JobCause}
use Rattle.chk_record_index.specs.declared.fault.JobFault.{JobFault}
use Rattle.chk_record_index.specs.declared.fault.JobFault.TheVariants.{Outside, Damaged, Spent, NoMemory}
use Rattle.chk_ctl_held.specs.declared.finding.Waiting.{Waiting}
use Rattle.chk_ctl_held.specs.Finding.{HasDamage}

-- damage isn't counted as a call that failed
pub damage_same : (given : Result Waiting JobFault) (before now : ℕ) → HasDamage true given
    → JobCause before now given → now ≡ before
damage_same (Ok waiting) before now has cause = absurd has
damage_same (Err (Outside call)) before now has cause = absurd has
damage_same (Err (Damaged name at)) before now has cause = cause
damage_same (Err (Spent number)) before now has cause = absurd has
damage_same (Err NoMemory) before now has cause = absurd has
