use Rattle.std.proofs.Common.{◌≡◌}
use Rattle.chk_acks.specs.Resets.{back_to}
use Rattle.chk_acks.proofs.table.set_back.Given as goal

abbrev pub invariant-loop-adaptor : goal.invariant-loop-adaptor
invariant-loop-adaptor l = l.last ≡ back_to l.adaptor l.gone l.committed l.initial.last
