use Rattle.chk_world.proofs.KeptTrue.{kept_are_true}
use Rattle.chk_world.proofs.kept_are_true.Goals as goal

pub returns : goal.returns
returns c = kept_are_true
