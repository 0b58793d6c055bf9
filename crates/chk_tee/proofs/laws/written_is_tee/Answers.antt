use Rattle.chk_tee.proofs.MessageWriting.{written_tee_is_tee}
use Rattle.chk_tee.proofs.laws.written_is_tee.Goals as goal

pub returns : goal.returns
returns c = written_tee_is_tee
