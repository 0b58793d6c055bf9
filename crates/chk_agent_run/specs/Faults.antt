-- Why a run of an agent ended early.
use Rattle.std.specs.Prelude.{◌≡◌, ℕ, ◌≤◌, false, ◌++◌, Result, Ok, Err}
use Rattle.chk_site.specs.declared.acts.OutsideFault.{OutsideFault}
use Rattle.chk_site.specs.declared.acts.OutsideFault.TheVariants.{Outside as site_failed, NoMemory as no_memory}
use Rattle.chk_site.specs.History.{History, is_stopped}
use Rattle.chk_site.specs.Site.{Rose, EndsIn}
use Rattle.chk_agent.specs.declared.answers.AgentFault.{AgentFault}
use Rattle.chk_agent.specs.declared.answers.AgentFault.TheVariants.{Damaged, Outside as agent_failed, NoMemory as agent_wanting}
use Rattle.chk_agent_run.specs.declared.faults.RunFault.{RunFault}
use Rattle.chk_agent_run.specs.declared.faults.RunFault.TheVariants.{Initial, Checkpoint, Outside, NoMemory}

-- a fault of the agent
abbrev pub fault_of : AgentFault → RunFault
fault_of (Damaged at) = Checkpoint at
fault_of (agent_failed call) = Outside call
fault_of agent_wanting = NoMemory

-- a fault of a call on the outside
abbrev pub outside_fault : OutsideFault → RunFault
outside_fault (site_failed call) = Outside call
outside_fault no_memory = NoMemory

-- the statuses with which a command says it
abbrev pub status_of : RunFault → ℕ
status_of (Initial at) = 5
status_of (Checkpoint at) = 5
status_of (Outside call) = 3
status_of NoMemory = 4

-- without a failed call the count stays; a call whose failure is no error may raise it
abbrev pub RunCause : {T : Type 0} → ℕ → ℕ → Result T RunFault → Type 0
RunCause before now (Err (Outside call)) = Rose before now × (before ≤ now)
RunCause before now result = before ≤ now

-- the call that failed is the last one, where the site wasn't stopped
abbrev pub LastOfRun : {T : Type 0} → Result T RunFault → History → History → Type 0
LastOfRun (Err (Outside call)) added history = is_stopped (added ++ history) ≡ false → EndsIn call added
LastOfRun result added history = Unit {0}

-- only a start answers that the checkpoint is damaged
abbrev pub IsNoCheckpoint : {T : Type 0} → Result T RunFault → Type 0
IsNoCheckpoint (Err (Checkpoint at)) = ⊥
IsNoCheckpoint result = Unit {0}
