use Rattle.chk_world.proofs.KeptLaw.{kept_stays}
use Rattle.chk_world.proofs.law_kept.Goals as goal

pub returns : goal.returns
returns c = kept_stays
