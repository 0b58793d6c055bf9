use Rattle.chk_world.proofs.Passed.{passed}
use Rattle.chk_world.proofs.passed_is_acknowledged.Goals as goal

pub returns : goal.returns
returns c = passed
