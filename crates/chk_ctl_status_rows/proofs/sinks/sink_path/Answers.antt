use Rattle.chk_world.specs.Names.{spell}
use Rattle.chk_ctl_status_rows.proofs.sinks.sink_path.Goals as goal

pub returns : goal.returns
unfolding spell
returns c = c.with_ending.ensures
