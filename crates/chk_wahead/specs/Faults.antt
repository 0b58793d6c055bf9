-- Why a call of the buffers is refused.
use Rattle.std.specs.Prelude.{◌≡◌, ℕ, ◌≤◌, false, List, ◌++◌, Result, Ok, Err}
use Rattle.chk_site.specs.declared.acts.OutsideFault.{OutsideFault}
use Rattle.chk_site.specs.declared.acts.OutsideFault.TheVariants.{Outside as site_failed, NoMemory as no_memory}
use Rattle.chk_site.specs.History.{History, is_stopped}
use Rattle.chk_site.specs.Site.{Rose, EndsIn}
use Rattle.chk_wahead.specs.declared.fault.WaheadFault.{WaheadFault}
use Rattle.chk_wahead.specs.declared.fault.WaheadFault.TheVariants.{Outside, Damaged, NoMemory}

-- the same fault, of the buffers
abbrev pub wahead_fault : OutsideFault → WaheadFault
wahead_fault (site_failed call) = Outside call
wahead_fault no_memory = NoMemory

-- the same result, of the buffers
abbrev pub wahead_result : {T : Type 0} → Result T OutsideFault → Result T WaheadFault
wahead_result (Ok value) = Ok value
wahead_result (Err fault) = Err (wahead_fault fault)

-- only a call of the outside that failed raises the count
abbrev pub WaheadCause : {T : Type 0} → ℕ → ℕ → Result T WaheadFault → Type 0
WaheadCause before now (Ok value) = now ≡ before
WaheadCause before now (Err (Outside call)) = Rose before now × (before ≤ now)
WaheadCause before now (Err fault) = now ≡ before

-- the call that failed is the last one, where the site wasn't stopped
abbrev pub FailsLast : {T : Type 0} → Result T WaheadFault → History → History → Type 0
FailsLast (Ok value) added history = Unit {0}
FailsLast (Err (Outside call)) added history = is_stopped (added ++ history) ≡ false → EndsIn call added
FailsLast (Err fault) added history = Unit {0}

-- the file of this name is damaged, or there was no memory to tell so
abbrev pub IsDamageOf : List ℕ → WaheadFault → Type 0
IsDamageOf name (Damaged w at) = (w ≡ name) × (at ≡ 0)
IsDamageOf name NoMemory = Unit {0}
IsDamageOf name fault = ⊥
