use Rattle.chk_world.proofs.Law.{shape}
use Rattle.chk_world.proofs.law_shape.Goals as goal

pub returns : goal.returns
returns c = shape
