use Rattle.chk_archive_plan.proofs.Gives.{plans_give}
use Rattle.chk_archive_plan.proofs.laws.plans_give.Goals as goal

pub returns : goal.returns
returns c = plans_give
