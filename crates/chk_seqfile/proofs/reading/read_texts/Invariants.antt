use Rattle.chk_seqfile.specs.HeaderSteps.{HasComeTo}
use Rattle.chk_seqfile.proofs.reading.read_texts.Given as goal

abbrev pub invariant-loop-left : goal.invariant-loop-left
invariant-loop-left l = HasComeTo l.left l.bytes

abbrev pub decreases-loop-left : goal.decreases-loop-left
decreases-loop-left l = l.left.texts
