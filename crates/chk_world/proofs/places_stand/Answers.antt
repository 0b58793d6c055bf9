use Rattle.chk_world.proofs.LinesStand.{stands_on}
use Rattle.chk_world.proofs.places_stand.Goals as goal

pub returns : goal.returns
returns c = stands_on
