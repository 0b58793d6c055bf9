use Rattle.chk_tee_laws.proofs.Unique.{is_message}
use Rattle.chk_tee_laws.proofs.laws.law_passed_on_is_message.Goals as goal

pub returns : goal.returns
returns c = record {
  message = is_message;
}
