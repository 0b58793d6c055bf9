use Rattle.std.proofs.Common.{◌≡◌, map}
use Rattle.chk_checkpoint.specs.Lines.{shown}
use Rattle.chk_agent.specs.States.{lines_at}
use Rattle.chk_agent.proofs.SettlingLines.{settled_up}
use Rattle.chk_agent.proofs.settling.note_ended.Given as goal

abbrev pub invariant-loop-place : goal.invariant-loop-place
invariant-loop-place l =
    map shown l.lines ≡ lines_at (settled_up l.place l.adaptors l.delivery.table.committed) l.delivery.table.committed
