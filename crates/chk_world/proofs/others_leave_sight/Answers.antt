use Rattle.chk_world.proofs.SightStays.{sight_stays}
use Rattle.chk_world.proofs.others_leave_sight.Goals as goal

pub returns : goal.returns
returns c = sight_stays
