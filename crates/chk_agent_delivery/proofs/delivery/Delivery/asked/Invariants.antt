use Rattle.chk_agent_delivery.proofs.Asking.{AskedOn}
use Rattle.chk_agent_delivery.proofs.delivery.Delivery.asked.Given as goal

abbrev pub invariant-loop-skip : goal.invariant-loop-skip
invariant-loop-skip l = AskedOn l.self-inside.acks.rows l.skip l.stems.items
