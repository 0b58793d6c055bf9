use Rattle.chk_world.proofs.AcknowledgedSaved.{acknowledged_is_saved}
use Rattle.chk_world.proofs.acknowledged_is_saved.Goals as goal

pub returns : goal.returns
returns c = acknowledged_is_saved
