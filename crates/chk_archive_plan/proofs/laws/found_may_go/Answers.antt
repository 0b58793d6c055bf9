use Rattle.chk_archive_plan.proofs.SetAside.{may_be_removed}
use Rattle.chk_archive_plan.proofs.laws.found_may_go.Goals as goal

pub returns : goal.returns
returns c = may_be_removed
