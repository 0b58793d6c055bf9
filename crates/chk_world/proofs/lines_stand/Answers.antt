use Rattle.chk_world.proofs.LinesTrue.{lines_stand}
use Rattle.chk_world.proofs.lines_stand.Goals as goal

pub returns : goal.returns
returns c = lines_stand
