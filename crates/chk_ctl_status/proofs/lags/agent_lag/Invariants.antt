use Rattle.std.proofs.Common.{◌≡◌, drop}
use Rattle.chk_ctl_status.specs.Lags.{agent_lag}
use Rattle.chk_ctl_status.proofs.lags.agent_lag.Given as goal

abbrev pub invariant-loop-index : goal.invariant-loop-index
invariant-loop-index l =
    agent_lag l.books l.agent l.most l.index (drop l.index l.lines)
    ≡ agent_lag l.books l.agent l.least 0 l.lines
