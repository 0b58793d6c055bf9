use Rattle.chk_archive_plan.proofs.Runs.{run_is}
use Rattle.chk_archive_plan.proofs.laws.plans_are_runs.Goals as goal

pub returns : goal.returns
returns c = run_is
