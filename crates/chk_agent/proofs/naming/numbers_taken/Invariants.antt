use Rattle.std.proofs.Common.{◌≡◌, length, drop}
use Rattle.chk_agent.specs.DefaultNames.{marked, unmarked}
use Rattle.chk_agent.proofs.naming.numbers_taken.Given as goal

abbrev pub invariant-loop-adaptor : goal.invariant-loop-adaptor
invariant-loop-adaptor l = marked l.taken.items (drop l.adaptor-index l.adaptors) ≡ marked (unmarked (length l.adaptors)) l.adaptors
