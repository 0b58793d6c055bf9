use Rattle.chk_ctl_status_rows.specs.Sinks.{mark_unnamed}
use Rattle.chk_ctl_status_rows.proofs.sinks.see_mark.Goals as goal

pub returns-in-Err-clause-told : goal.returns-in-Err-clause-told
returns-in-Err-clause-told g c = mark_unnamed
