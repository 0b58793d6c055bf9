use Rattle.chk_world.proofs.LinesRead.{generations_rise}
use Rattle.chk_world.proofs.generations_rise.Goals as goal

pub returns : goal.returns
returns c = generations_rise
