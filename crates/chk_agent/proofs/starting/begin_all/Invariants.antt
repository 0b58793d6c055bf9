use Rattle.std.proofs.Common.{map, take}
use Rattle.chk_checkpoint.specs.Lines.{shown}
use Rattle.chk_agent.specs.Loading.{IsBegun}
use Rattle.chk_agent.proofs.starting.begin_all.Given as goal

abbrev pub invariant-loop-i : goal.invariant-loop-i
invariant-loop-i l = IsBegun (take l.i (map shown l.lines)) l.initial.delivery l.delivery
