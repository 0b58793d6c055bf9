use Rattle.std.proofs.Common.{◌≡◌, map, take}
use Rattle.chk_checkpoint.specs.Lines.{shown}
use Rattle.chk_agent.specs.States.{lines_at}
use Rattle.chk_agent.proofs.lines.lines_now.Given as goal

abbrev pub invariant-loop-i : goal.invariant-loop-i
invariant-loop-i l = map shown l.lines.items ≡ take l.i (lines_at l.adaptors l.delivery.table.committed)
