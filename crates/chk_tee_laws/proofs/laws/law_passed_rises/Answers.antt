use Rattle.chk_tee_laws.proofs.Passing.{passed_rises}
use Rattle.chk_tee_laws.proofs.laws.law_passed_rises.Goals as goal

pub returns : goal.returns
returns c = record {
  rises = passed_rises;
}
