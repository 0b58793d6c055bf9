use Rattle.chk_world.proofs.LinesRead.{chunk_on}
use Rattle.chk_world.proofs.chunks_stand.Goals as goal

pub returns : goal.returns
returns c = chunk_on
