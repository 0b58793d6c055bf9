use Rattle.chk_world.proofs.SmallFiles.{readable}
use Rattle.chk_world.proofs.own_files_are_read.Goals as goal

pub returns : goal.returns
returns c = readable
