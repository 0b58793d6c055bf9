use Rattle.std.proofs.Common.{◌≡◌, take}
use Rattle.chk_agent_delivery.specs.Marks.{marked_from}
use Rattle.chk_agent_delivery.proofs.delivery.marked_numbers.Given as goal

abbrev pub invariant-loop-number : goal.invariant-loop-number
invariant-loop-number l = l.numbers.items ≡ marked_from 0 (take l.number l.marks)
