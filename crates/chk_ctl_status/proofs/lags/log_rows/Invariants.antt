use Rattle.std.proofs.Common.{◌≡◌, ◌++◌, drop}
use Rattle.std.specs.Prelude.{string_bytes}
use Rattle.chk_ctl_status.specs.Lags.{log_rows}
use Rattle.chk_ctl_status.proofs.lags.log_rows.Given as goal

abbrev pub invariant-loop-index : goal.invariant-loop-index
invariant-loop-index l =
    string_bytes l.text ++ log_rows l.books l.agent l.index (drop l.index l.lines)
    ≡ log_rows l.books l.agent 0 l.lines
