-- Why a look wasn't finished, and what follows from it.
use Rattle.std.specs.Prelude.{◌≡◌, ℕ, List, ◌≤◌, ◌++◌, false, Result, Ok, Err}
use Rattle.chk_site.specs.declared.acts.OutsideFault.{OutsideFault}
use Rattle.chk_site.specs.declared.acts.OutsideFault.TheVariants.{Outside as site_failed, NoMemory as no_memory}
use Rattle.chk_site.specs.History.{History, is_stopped}
use Rattle.chk_site.specs.Site.{Rose, EndsIn}
use Rattle.chk_ctl_cat.specs.declared.fault.LookFault.{LookFault}
use Rattle.chk_ctl_cat.specs.declared.fault.LookFault.TheVariants.{Outside, Damaged, Gone, NoMemory}

abbrev pub look_fault : OutsideFault → LookFault
look_fault (site_failed call) = Outside call
look_fault no_memory = NoMemory

-- the file of this name is damaged there, or there was no memory for the name
abbrev pub IsDamage : List ℕ → ℕ → LookFault → Type 0
IsDamage name at (Damaged which place) = (which ≡ name) × (place ≡ at)
IsDamage name at NoMemory = Unit {0}
IsDamage name at fault = ⊥

-- the file of this name isn't there, or there was no memory for the name
abbrev pub IsLoss : List ℕ → LookFault → Type 0
IsLoss name (Gone which) = which ≡ name
IsLoss name NoMemory = Unit {0}
IsLoss name fault = ⊥

-- only a call of the outside that failed raises the count
abbrev pub LookCause : {T : Type 0} → ℕ → ℕ → Result T LookFault → Type 0
LookCause before now (Ok value) = now ≡ before
LookCause before now (Err (Outside call)) = Rose before now × (before ≤ now)
LookCause before now (Err fault) = now ≡ before

-- the call that failed is the last one, where the site wasn't stopped
abbrev pub FailsLast : {T : Type 0} → Result T LookFault → History → History → Type 0
FailsLast (Ok value) added history = Unit {0}
FailsLast (Err (Outside call)) added history = is_stopped (added ++ history) ≡ false → EndsIn call added
FailsLast (Err fault) added history = Unit {0}
