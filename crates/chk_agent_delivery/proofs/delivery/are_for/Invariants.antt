use Rattle.chk_agent_delivery.proofs.Lengths.{ForOn}
use Rattle.chk_agent_delivery.proofs.delivery.are_for.Given as goal

abbrev pub invariant-loop-stem : goal.invariant-loop-stem
invariant-loop-stem l = ForOn l.stems l.fn.lines l.stem-index l.lines
