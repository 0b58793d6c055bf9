use Rattle.chk_archive_plan.proofs.SetAside.{run_may}
use Rattle.chk_archive_plan.proofs.laws.plans_may_be_published.Goals as goal

pub returns : goal.returns
returns c = run_may
