use Rattle.chk_tee.proofs.MessageGrammar.{tee_alone}
use Rattle.chk_tee.proofs.laws.tees_stand_alone.Goals as goal

pub returns : goal.returns
returns c = tee_alone
