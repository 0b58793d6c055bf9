use Rattle.std.proofs.Common.{◌≡◌, length}
use Rattle.chk_agent_delivery.specs.Turns.{length_of}
use Rattle.chk_agent_delivery.proofs.delivery.length_in.Given as goal

abbrev pub invariant-loop-named : goal.invariant-loop-named
invariant-loop-named l = length_of l.stem l.fn.lines ≡ length_of l.stem l.lines

abbrev pub decreases-loop-named : goal.decreases-loop-named
decreases-loop-named l = length l.lines
