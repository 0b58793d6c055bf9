use Rattle.std.proofs.Common.{refl}
use Rattle.chk_ctl_run.proofs.showing.course_of.Goals as goal

pub returns : goal.returns
returns c = record { stream = refl; begin = refl }
