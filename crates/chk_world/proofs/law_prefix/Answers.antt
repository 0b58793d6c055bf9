use Rattle.chk_world.proofs.Fronts.{law_prefix}
use Rattle.chk_world.proofs.law_prefix.Goals as goal

pub returns : goal.returns
returns c = law_prefix
