use Rattle.chk_world.proofs.LogsGrow.{logs_grow}
use Rattle.chk_world.proofs.logs_only_grow.Goals as goal

pub returns : goal.returns
returns c = logs_grow
