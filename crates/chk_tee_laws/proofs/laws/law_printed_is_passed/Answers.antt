use Rattle.chk_tee_laws.proofs.Printed.{printed_passed}
use Rattle.chk_tee_laws.proofs.laws.law_printed_is_passed.Goals as goal

pub returns : goal.returns
returns c = record {
  part = printed_passed;
}
