use Rattle.chk_world.proofs.DoneNames.{done_named}
use Rattle.chk_world.proofs.closed_are_done.Goals as goal

pub returns : goal.returns
returns c = done_named
