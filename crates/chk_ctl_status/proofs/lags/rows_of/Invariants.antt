use Rattle.std.proofs.Common.{◌≡◌, ◌++◌, drop}
use Rattle.std.specs.Prelude.{flat_map, string_bytes}
use Rattle.chk_ctl_status.specs.Lags.{agent_rows}
use Rattle.chk_ctl_status.proofs.lags.rows_of.Given as goal

abbrev pub invariant-loop-agent : goal.invariant-loop-agent
invariant-loop-agent l =
    string_bytes l.text ++ flat_map (agent_rows l.books) (drop l.agent-index l.agents)
    ≡ flat_map (agent_rows l.books) l.agents
