use Rattle.chk_tee_laws.proofs.Unique.{one_list}
use Rattle.chk_tee_laws.proofs.laws.law_passed_is_one.Goals as goal

pub returns : goal.returns
returns c = record {
  one = one_list;
}
