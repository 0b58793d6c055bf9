use Rattle.chk_tee_laws.proofs.Unique.{is_there}
use Rattle.chk_tee_laws.proofs.laws.law_passed_is_there.Goals as goal

pub returns : goal.returns
returns c = record {
  there = is_there;
}
