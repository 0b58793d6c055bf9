use Rattle.std.proofs.Common.{◌-◌, take}
use Rattle.chk_seqfile.specs.HeaderSteps.{HasCome}
use Rattle.chk_test_formats.proofs.seqfile.reads_on_byte_by_byte.Given as goal

abbrev pub invariant-loop-end : goal.invariant-loop-end
invariant-loop-end w l = HasCome l.from (take l.size l.bytes.items)

abbrev pub invariant-loop-size : goal.invariant-loop-size
invariant-loop-size w l = HasCome l.from (take l.size l.bytes.items)

abbrev pub decreases-loop-size : goal.decreases-loop-size
decreases-loop-size w l = l.end - l.size
