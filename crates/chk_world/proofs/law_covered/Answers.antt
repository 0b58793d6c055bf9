use Rattle.chk_world.proofs.AcknowledgedSaved.{law_covered}
use Rattle.chk_world.proofs.law_covered.Goals as goal

pub returns : goal.returns
returns c = law_covered
