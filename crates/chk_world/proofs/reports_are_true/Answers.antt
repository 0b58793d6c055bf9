use Rattle.chk_world.proofs.Reports.{reports_are_true}
use Rattle.chk_world.proofs.reports_are_true.Goals as goal

pub returns : goal.returns
returns c = reports_are_true
