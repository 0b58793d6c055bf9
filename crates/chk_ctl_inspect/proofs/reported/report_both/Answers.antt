use Rattle.chk_ctl_inspect.proofs.Told.{tells_join, tells_stop}
use Rattle.chk_ctl_inspect.proofs.reported.report_both.Goals as goal

pub returns-in-Ok-clause-told : goal.returns-in-Ok-clause-told
returns-in-Ok-clause-told g c = tells_join c.in-Ok.ensures.told c.report_each-in-Ok.ensures.told

pub returns-in-Err-clause-told : goal.returns-in-Err-clause-told
returns-in-Err-clause-told g c = tells_stop _ c.in-Err.ensures.told
