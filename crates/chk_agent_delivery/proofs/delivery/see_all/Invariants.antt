use Rattle.std.proofs.Common.{length}
use Rattle.chk_agent_delivery.specs.Turns.{SeesAll}
use Rattle.chk_acks.specs.Table.{Table}
use Rattle.chk_agent_delivery.proofs.delivery.see_all.Given as goal

abbrev pub invariant-loop-stem : goal.invariant-loop-stem
invariant-loop-stem l = (t : Table) → SeesAll l.lines l.acks t → SeesAll l.fn.lines l.fn.acks t

abbrev pub decreases-loop-stem : goal.decreases-loop-stem
decreases-loop-stem l = length l.lines
