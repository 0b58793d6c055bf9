use Rattle.std.proofs.Common.{◌++◌, ◌≡◌, map, take}
use Rattle.chk_ctl_check.specs.Looking.{finding}
use Rattle.chk_ctl_check.proofs.finding.add_all.Given as goal

abbrev pub invariant-loop-trouble : goal.invariant-loop-trouble
invariant-loop-trouble l =
    l.findings.items
    ≡ l.fn.findings.items ++ map (finding l.line) (take l.trouble-index l.troubles)
