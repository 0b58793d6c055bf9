use Rattle.std.proofs.Common.{◌≡◌, fold, take}
use Rattle.chk_agent_delivery.specs.Marks.{with_mark}
use Rattle.chk_agent_delivery.proofs.delivery.mark_numbers.Given as goal

abbrev pub invariant-loop-number : goal.invariant-loop-number
invariant-loop-number l = l.marks ≡ fold with_mark l.initial.marks (take l.number-index l.numbers)
