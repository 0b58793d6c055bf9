use Rattle.std.proofs.Common.{◌-◌, length, map}
use Rattle.chk_checkpoint.specs.Lines.{shown, text_version}
use Rattle.chk_checkpoint.proofs.SoFar.{SoFar}
use Rattle.chk_checkpoint.proofs.reading.read_text.Given as goal

abbrev pub invariant-loop-at : goal.invariant-loop-at
invariant-loop-at l = SoFar (text_version l.version) (map shown l.lines.items) l.seen l.text l.at

abbrev pub decreases-loop-at : goal.decreases-loop-at
decreases-loop-at l = length l.text - l.at
