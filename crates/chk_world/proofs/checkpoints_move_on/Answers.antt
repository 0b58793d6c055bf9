use Rattle.chk_world.proofs.CheckpointsMove.{moves_forward}
use Rattle.chk_world.proofs.checkpoints_move_on.Goals as goal

pub returns : goal.returns
returns c = moves_forward
