use Rattle.std.proofs.Common.{◌≡◌, map, take}
use Rattle.chk_world.specs.Checkpoints.{checkpoint_text}
use Rattle.chk_checkpoint.specs.Lines.{shown, text_version}
use Rattle.chk_checkpoint.proofs.writing.text_of.Given as goal

abbrev pub invariant-loop-line : goal.invariant-loop-line
invariant-loop-line l = l.out ≡ checkpoint_text (text_version l.version) (map shown (take l.line-index l.lines))
