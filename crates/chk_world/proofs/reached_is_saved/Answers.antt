use Rattle.chk_world.proofs.CommittedSaved.{reached_is_saved}
use Rattle.chk_world.proofs.reached_is_saved.Goals as goal

pub returns : goal.returns
returns c = reached_is_saved
