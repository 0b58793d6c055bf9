use Rattle.chk_ctl_status.specs.Telling.{untold}
use Rattle.chk_ctl_status.proofs.telling.tell_line.Goals as goal

pub returns-in-Err-clause-told : goal.returns-in-Err-clause-told
returns-in-Err-clause-told g c = untold
