-- Which ending a fault of a command is.
use Rattle.std.specs.Prelude.{◌≡◌, ◌⊎◌, ℕ, List, Option, Result, Ok, Err}
use Rattle.chk_bytes.specs.declared.NoMemory.{NoMemory as Wanting}
use Rattle.chk_site.specs.Site.{Rose}
use Rattle.chk_world.specs.Names.{CheckFile, spell}
use Rattle.chk_cmd_line.specs.Commands.{AgentAsked, DrainAsked}
use Rattle.chk_agent_run.specs.declared.faults.RunFault.{RunFault}
use Rattle.chk_agent_run.specs.declared.faults.RunFault.TheVariants as runs
use Rattle.chk_cmd_drain.specs.declared.faults.DrainFault.{DrainFault}
use Rattle.chk_cmd_drain.specs.declared.faults.DrainFault.TheVariants as drains
use Rattle.chukwa_run.specs.Showing.{IsInitial}
use Rattle.chk_cmd_salvage.specs.declared.fault.SalvageFault.{SalvageFault}
use Rattle.chk_cmd_salvage.specs.declared.fault.SalvageFault.TheVariants as Salvage
use Rattle.chk_sink.specs.declared.fault.SinkFault.{SinkFault}
use Rattle.chk_sink.specs.declared.fault.SinkFault.TheVariants as Sinks
use Rattle.chk_cmd_line.specs.declared.endings.Ending.{Ending}
use Rattle.chk_cmd_line.specs.declared.endings.Ending.TheVariants.{Outside, NoMemory, Damaged, Length, Growing, Shrank, Spent, Refused}

-- only a call that failed ends a run as one of the outside
abbrev pub EndingCause : ℕ → ℕ → Result Unit Ending → Type 0
EndingCause before now (Err (Outside call)) = Rose before now
EndingCause before now result = Unit {0}

-- the same fault; where there is no memory to name the file, it is want of memory
abbrev pub IsEndingOf : List ℕ → SalvageFault → Ending → Type 0
IsEndingOf file (Salvage.Outside call) e = e ≡ Outside call
IsEndingOf file Salvage.NoMemory e = e ≡ NoMemory
IsEndingOf file Salvage.Damaged e = (e ≡ Damaged file 0) ⊎ (e ≡ NoMemory)

-- the same fault of a collector
abbrev pub sink_ending : SinkFault → Ending
sink_ending (Sinks.Outside call) = Outside call
sink_ending (Sinks.Damaged name at) = Damaged name at
sink_ending (Sinks.Spent born) = Spent born
sink_ending Sinks.NoMemory = NoMemory

-- The same fault of an agent of this initial file and this source. Where there is no memory to name
-- the file, it is want of memory.
abbrev pub IsRunEnding : Option (List ℕ) → List ℕ → RunFault → Ending → Type 0
IsRunEnding initial source (runs.Outside call) e = e ≡ Outside call
IsRunEnding initial source runs.NoMemory e = e ≡ NoMemory
IsRunEnding initial source (runs.Initial at) e =
    ((name : List ℕ) × IsInitial initial name × (e ≡ Damaged name at)) ⊎ (e ≡ NoMemory)
IsRunEnding initial source (runs.Checkpoint at) e =
    (e ≡ Damaged (spell (CheckFile source)) at) ⊎ (e ≡ NoMemory)

abbrev pub IsAgentEnding : AgentAsked → RunFault → Ending → Type 0
IsAgentEnding w fault e = IsRunEnding w.initial w.source fault e

-- the same fault of a drain
abbrev pub IsDrainEnding : DrainAsked → DrainFault → Ending → Type 0
IsDrainEnding w (drains.Run fault) e = IsRunEnding w.initial w.source fault e
IsDrainEnding w (drains.Pending stem got want) e = e ≡ Length stem got want
IsDrainEnding w (drains.Growing path reads) e = e ≡ Growing path reads
IsDrainEnding w (drains.Shrank path had is) e = e ≡ Shrank path had is
IsDrainEnding w (drains.Refused code) e = e ≡ Refused code

-- the file of this name is damaged at this byte; where there was no memory for the name, it is want of memory
abbrev pub IsDamagedAt : Result (List ℕ) Wanting → ℕ → Ending → Type 0
IsDamagedAt (Ok name) at e = e ≡ Damaged name at
IsDamagedAt (Err fault) at e = e ≡ NoMemory
