-- What a refusal comes to, and what raised the count.
use Rattle.std.proofs.Common.{◌≡◌, ℕ, List, Result, Ok, Err, subst}
use Rattle.chk_site.specs.declared.acts.OutsideFault.{OutsideFault}
use Rattle.chk_site.specs.declared.acts.OutsideFault.TheVariants as site
use Rattle.chk_site.specs.Site.{OutsideCause}
use Rattle.chk_checkpoint.specs.declared.fault.CheckFault.{CheckFault}
use Rattle.chk_checkpoint.specs.declared.fault.CheckFault.TheVariants as check
use Rattle.chk_checkpoint.specs.Faults.{CheckCause}
use Rattle.chk_ctl_status_rows.specs.declared.agents.AgentsFault.{AgentsFault}
use Rattle.chk_ctl_status_rows.specs.Agents.{check_fault, fault_of, AgentsCause}
use Rattle.chk_ctl_status_rows.specs.Ends.{base_end, next_by}
use Rattle.chk_ctl_status_rows.specs.declared.probing.Probe.{Probe}
use Rattle.chk_ctl_status_rows.specs.declared.probing.Probe.TheVariants as probe

-- what comes behind calls that raised it not
pub agents_after : {T : Type 0} (result : Result T AgentsFault) (before mid now : ℕ)
    → mid ≡ before → AgentsCause mid now result → AgentsCause before now result
agents_after {T = T} result before mid now same cause =
    subst (λ (n : ℕ). AgentsCause {T = T} n now result) same cause

-- a refusal that is handed on
pub cause_as : (V T : Type 0) (fault : OutsideFault) (before now : ℕ)
    → OutsideCause {T = V} before now (Err fault)
    → AgentsCause {T = T} before now (Err (fault_of fault))
cause_as V T (site.Outside call) before now cause = cause
cause_as V T site.NoMemory before now cause = cause

pub cause_in : (V T : Type 0) (source : List ℕ) (fault : CheckFault) (before now : ℕ)
    → CheckCause {T = V} before now (Err fault)
    → AgentsCause {T = T} before now (Err (check_fault source fault))
cause_in V T source (check.Damaged at) before now cause = cause
cause_in V T source (check.Outside call) before now cause = cause
cause_in V T source check.NoMemory before now cause = cause

pub cause_next : (first size : ℕ) (given : Result Probe OutsideFault) (before now : ℕ)
    → OutsideCause before now given → OutsideCause before now (next_by first size given)
cause_next first size (Ok p) before now cause = cause
cause_next first size (Err (site.Outside call)) before now cause = cause
cause_next first size (Err site.NoMemory) before now cause = cause

pub cause_base : (first : ℕ) (given : Result Probe OutsideFault) (before now : ℕ)
    → OutsideCause before now given → OutsideCause before now (base_end first given)
cause_base first (Ok (probe.Short size)) before now cause = cause
cause_base first (Ok (probe.Ended suffix)) before now cause = cause
cause_base first (Ok probe.Open) before now cause = cause
cause_base first (Err (site.Outside call)) before now cause = cause
cause_base first (Err site.NoMemory) before now cause = cause
