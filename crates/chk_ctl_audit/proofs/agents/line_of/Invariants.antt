use Rattle.std.proofs.Common.{◌≡◌, drop, map}
use Rattle.chk_checkpoint.specs.Lines.{shown}
use Rattle.chk_ctl_audit.specs.Finding.{line_for}
use Rattle.chk_ctl_audit.proofs.agents.line_of.Given as goal

abbrev pub invariant-loop-line : goal.invariant-loop-line
invariant-loop-line l =
    line_for (map shown l.lines) l.end ≡ line_for (map shown (drop l.line-index l.lines)) l.end
