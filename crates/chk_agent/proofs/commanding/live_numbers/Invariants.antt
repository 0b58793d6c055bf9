use Rattle.std.proofs.Common.{◌≡◌, ◌++◌, drop}
use Rattle.chk_agent.specs.Commands.{live_from}
use Rattle.chk_agent.proofs.commanding.live_numbers.Given as goal

abbrev pub invariant-loop-i : goal.invariant-loop-i
invariant-loop-i l = live_from 0 l.adaptors ≡ l.gone.items ++ live_from l.i (drop l.i l.adaptors)
