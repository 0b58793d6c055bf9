use Rattle.chk_world.proofs.LogEnds.{reads_find_end}
use Rattle.chk_world.proofs.reads_find_end.Goals as goal

pub returns : goal.returns
returns c = reads_find_end
