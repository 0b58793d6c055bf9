-- Why a call of the sinks is refused.
use Rattle.std.specs.Prelude.{◌≡◌, ℕ, ◌≤◌, false, ◌++◌, Option, Some, None, Result, Ok, Err}
use Rattle.chk_site.specs.declared.acts.OutsideFault.{OutsideFault}
use Rattle.chk_site.specs.declared.acts.OutsideFault.TheVariants.{Outside as site_failed, NoMemory as no_memory}
use Rattle.chk_site.specs.History.{History, is_stopped}
use Rattle.chk_site.specs.Site.{Rose, EndsIn}
use Rattle.chk_sink.specs.declared.fault.SinkFault.{SinkFault}
use Rattle.chk_sink.specs.declared.fault.SinkFault.TheVariants.{Outside, NoMemory}

-- the same fault, of the sinks
abbrev pub sink_fault : OutsideFault → SinkFault
sink_fault (site_failed call) = Outside call
sink_fault no_memory = NoMemory

-- the same result, of the sinks
abbrev pub sink_result : {T : Type 0} → Result T OutsideFault → Result T SinkFault
sink_result (Ok value) = Ok value
sink_result (Err fault) = Err (sink_fault fault)

-- what ended the work: a call that failed, or want of memory
abbrev pub ended_by : {T : Type 0} → Result T SinkFault → Option OutsideFault
ended_by (Err (Outside call)) = Some (site_failed call)
ended_by (Err NoMemory) = Some no_memory
ended_by result = None

-- a call failed, or there was no memory
abbrev pub IsOutside : SinkFault → Type 0
IsOutside (Outside call) = Unit {0}
IsOutside NoMemory = Unit {0}
IsOutside fault = ⊥

-- only a call of the outside that failed raises the count
abbrev pub SinkCause : {T : Type 0} → ℕ → ℕ → Result T SinkFault → Type 0
SinkCause before now (Ok value) = now ≡ before
SinkCause before now (Err (Outside call)) = Rose before now × (before ≤ now)
SinkCause before now (Err fault) = now ≡ before

-- the call that failed is the last one, where the site wasn't stopped
abbrev pub FailsLast : {T : Type 0} → Result T SinkFault → History → History → Type 0
FailsLast (Ok value) added history = Unit {0}
FailsLast (Err (Outside call)) added history = is_stopped (added ++ history) ≡ false → EndsIn call added
FailsLast (Err fault) added history = Unit {0}
