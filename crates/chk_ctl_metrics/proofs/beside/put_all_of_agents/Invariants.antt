use Rattle.std.proofs.Common.{◌≡◌, ◌++◌, drop}
use Rattle.std.specs.Prelude.{flat_map}
use Rattle.chk_ctl_metrics.specs.Agents.{agent_locks}
use Rattle.chk_ctl_metrics.proofs.beside.put_all_of_agents.Given as goal

abbrev pub invariant-loop-folder : goal.invariant-loop-folder
invariant-loop-folder l =
    l.out ++ flat_map agent_locks (drop l.folder-index l.agents)
    ≡ l.initial.out ++ flat_map agent_locks l.agents
