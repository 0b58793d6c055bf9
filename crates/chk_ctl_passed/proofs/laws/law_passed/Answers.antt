use Rattle.chk_ctl_passed.proofs.Behind.{passed_is_behind}
use Rattle.chk_ctl_passed.proofs.laws.law_passed.Goals as goal

pub returns : goal.returns
returns c = record { passed = passed_is_behind }
