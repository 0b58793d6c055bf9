use Rattle.chk_tee_sender.proofs.SieveLaws.{each_once}
use Rattle.chk_tee_sender.proofs.laws.each_once.Goals as goal

pub returns : goal.returns
returns c = λ asked. each_once asked
