use Rattle.chk_archive_plan.proofs.Runs.{has_reached}
use Rattle.chk_archive_plan.proofs.laws.passes_reach.Goals as goal

pub returns : goal.returns
returns c = has_reached
