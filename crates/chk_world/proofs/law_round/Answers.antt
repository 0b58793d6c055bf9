use Rattle.chk_world.proofs.AcknowledgedSaved.{law_covered}
use Rattle.chk_world.proofs.Rounds.{rounds_whole}
use Rattle.chk_world.proofs.law_round.Goals as goal

pub returns : goal.returns
returns c = rounds_whole law_covered
