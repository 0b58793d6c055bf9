use Rattle.chk_tee.proofs.MessageGrammar.{not_tee}
use Rattle.chk_tee.proofs.laws.first_five.Goals as goal

pub returns : goal.returns
returns c = not_tee
