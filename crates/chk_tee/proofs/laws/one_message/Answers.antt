use Rattle.chk_tee.proofs.MessageGrammar.{one_tee}
use Rattle.chk_tee.proofs.laws.one_message.Goals as goal

pub returns : goal.returns
returns c = one_tee
