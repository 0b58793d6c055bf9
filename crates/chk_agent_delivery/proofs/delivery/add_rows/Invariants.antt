use Rattle.chk_agent_delivery.proofs.Rows.{RowsOn}
use Rattle.chk_agent_delivery.proofs.delivery.add_rows.Given as goal

abbrev pub invariant-loop-place : goal.invariant-loop-place
invariant-loop-place l = RowsOn l.now l.owners.items l.front l.fn.lines l.fn.acks l.place l.lines l.acks
