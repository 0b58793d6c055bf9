use Rattle.chk_world.proofs.AcknowledgedSaved.{checkpoints_are_saved}
use Rattle.chk_world.proofs.checkpoints_are_saved.Goals as goal

pub returns : goal.returns
returns c = checkpoints_are_saved
