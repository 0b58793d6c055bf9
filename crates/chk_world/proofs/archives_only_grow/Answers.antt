use Rattle.chk_world.proofs.Segments.{archives_grow}
use Rattle.chk_world.proofs.archives_only_grow.Goals as goal

pub returns : goal.returns
returns c = archives_grow
