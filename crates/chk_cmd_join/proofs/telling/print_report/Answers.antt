use Rattle.std.proofs.Common.{Ok, Err, refl}
use Rattle.chk_cmd_join.proofs.Told.{same_refusal, tell_cause}
use Rattle.chk_cmd_join.proofs.telling.print_report.Goals as goal

pub returns-in-Ok-clause-told : goal.returns-in-Ok-clause-told
returns-in-Ok-clause-told g c = (Ok tt, (refl, c.in-Ok.ensures.told))

pub returns-in-Err-clause-told : goal.returns-in-Err-clause-told
returns-in-Err-clause-told g c = (
  Err c.in-Err.fault,
  (same_refusal c.in-Err.fault c.tell_fault.result c.tell_fault.ensures, c.in-Err.ensures.told),
)

pub returns-in-Err-clause-cause : goal.returns-in-Err-clause-cause
returns-in-Err-clause-cause g c =
    rw c.tell_fault.ensures
    (tell_cause c.in-Err.fault (g.S.Site.fault_count c.args.site.now)
    (g.S.Site.fault_count c.tell.new.site) c.in-Err.ensures.cause)
