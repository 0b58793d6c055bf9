use Rattle.std.proofs.Common.{◌≡◌, drop, take}
use Rattle.chk_ctl_machine.specs.Agents.{AgesAgent}
use Rattle.chk_ctl_machine.specs.Turns.{InTurn}
use Rattle.chk_ctl_machine.proofs.agents.age_agents.Given as goal

abbrev pub invariant-loop-agent : goal.invariant-loop-agent
invariant-loop-agent g l =
    InTurn AgesAgent (take l.agent-index l.initial.agents) (take l.agent-index l.agents)
    (g.M.Machine.told l.fn.machine) (g.M.Machine.told l.machine)
    × (drop l.agent-index l.agents ≡ drop l.agent-index l.initial.agents)
