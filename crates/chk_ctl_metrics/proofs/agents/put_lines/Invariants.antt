use Rattle.std.proofs.Common.{◌≡◌, ◌++◌, drop}
use Rattle.chk_ctl_metrics.specs.Agents.{line_rows}
use Rattle.chk_ctl_metrics.proofs.agents.put_lines.Given as goal

abbrev pub invariant-loop-index : goal.invariant-loop-index
invariant-loop-index l =
    l.out ++ line_rows l.family l.books l.folder l.agent l.index (drop l.index l.lines)
    ≡ l.initial.out ++ line_rows l.family l.books l.folder l.agent 0 l.lines
