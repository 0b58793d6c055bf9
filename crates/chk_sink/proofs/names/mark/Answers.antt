use Rattle.chk_world.specs.Names.{spell}
use Rattle.chk_sink.proofs.names.mark.Goals as goal

pub returns : goal.returns
unfolding spell
returns c = c.with_ending.ensures
