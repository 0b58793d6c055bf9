use Rattle.std.proofs.Common.{◌≡◌, ◌++◌, drop}
use Rattle.std.specs.Prelude.{flat_map, string_bytes}
use Rattle.chk_ctl_metrics.specs.Agents.{agent_rows}
use Rattle.chk_ctl_metrics.proofs.agents.put_folder.Given as goal

abbrev pub invariant-loop-agent : goal.invariant-loop-agent
invariant-loop-agent l =
    l.out ++ flat_map (agent_rows l.family l.books (string_bytes l.folder.folder))
    (drop l.agent-index l.folder.agents.items)
    ≡ l.initial.out ++ flat_map (agent_rows l.family l.books (string_bytes l.folder.folder))
    l.folder.agents.items
