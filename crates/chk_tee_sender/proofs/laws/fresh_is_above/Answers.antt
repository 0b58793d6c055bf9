use Rattle.chk_tee_sender.proofs.SieveLaws.{fresh_is_above}
use Rattle.chk_tee_sender.proofs.laws.fresh_is_above.Goals as goal

pub returns : goal.returns
returns c = λ asked p. fresh_is_above asked p
