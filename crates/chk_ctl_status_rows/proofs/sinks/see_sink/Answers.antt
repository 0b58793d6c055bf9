use Rattle.chk_ctl_status_rows.specs.Sinks.{unnamed}
use Rattle.chk_ctl_status_rows.proofs.sinks.see_sink.Goals as goal

pub returns-in-Err-clause-told : goal.returns-in-Err-clause-told
returns-in-Err-clause-told g c = unnamed
