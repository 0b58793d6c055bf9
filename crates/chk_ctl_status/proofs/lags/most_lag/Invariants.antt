use Rattle.std.proofs.Common.{◌≡◌, drop}
use Rattle.chk_ctl_status.specs.Lags.{most_lag}
use Rattle.chk_ctl_status.proofs.lags.most_lag.Given as goal

abbrev pub invariant-loop-agent : goal.invariant-loop-agent
invariant-loop-agent l =
    most_lag l.books l.most (drop l.agent-index l.agents) ≡ most_lag l.books 0 l.agents
