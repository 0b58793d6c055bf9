use Rattle.chk_world.proofs.SightStays.{done_sinks_stay}
use Rattle.chk_world.proofs.done_sinks_stay.Goals as goal

pub returns : goal.returns
returns c = done_sinks_stay
