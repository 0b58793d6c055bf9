-- Why a checkpoint isn't loaded.
use Rattle.std.specs.Prelude.{◌≡◌, ℕ, ◌≤◌, false, ◌++◌, Result, Ok, Err}
use Rattle.chk_site.specs.declared.acts.OutsideFault.{OutsideFault}
use Rattle.chk_site.specs.declared.acts.OutsideFault.TheVariants.{Outside as site_failed, NoMemory as no_memory}
use Rattle.chk_site.specs.History.{History, is_stopped}
use Rattle.chk_site.specs.Site.{Rose, EndsIn}
use Rattle.chk_checkpoint.specs.declared.fault.CheckFault.{CheckFault}
use Rattle.chk_checkpoint.specs.declared.fault.CheckFault.TheVariants.{Outside, NoMemory}

-- the same fault, of a load
abbrev pub check_fault : OutsideFault → CheckFault
check_fault (site_failed call) = Outside call
check_fault no_memory = NoMemory

-- only a call of the outside that failed raises the count
abbrev pub CheckCause : {T : Type 0} → ℕ → ℕ → Result T CheckFault → Type 0
CheckCause before now (Ok value) = now ≡ before
CheckCause before now (Err (Outside call)) = Rose before now × (before ≤ now)
CheckCause before now (Err fault) = now ≡ before

-- the call that failed is the last one, where the site wasn't stopped
abbrev pub FailsLast : {T : Type 0} → Result T CheckFault → History → History → Type 0
FailsLast (Ok value) added history = Unit {0}
FailsLast (Err (Outside call)) added history = is_stopped (added ++ history) ≡ false → EndsIn call added
FailsLast (Err fault) added history = Unit {0}
