use Rattle.chk_ctl_inspect.proofs.Told.{tells_join, tells_stop}
use Rattle.chk_ctl_inspect.proofs.reports.report_lines.Goals as goal

pub returns-in-Ok-clause-told : goal.returns-in-Ok-clause-told
returns-in-Ok-clause-told g c =
    tells_join (rw (c.as_slice-absent.ensures.value, c.as_slice-doors.ensures.value) at c.in-Ok.ensures.told)
    (rw (c.as_slice-stores.ensures.value, c.as_slice-agents.ensures.value) at c.report_both-in-Ok.ensures.told)

pub returns-in-Err-clause-told : goal.returns-in-Err-clause-told
returns-in-Err-clause-told g c =
    tells_stop _ (rw (c.as_slice-absent.ensures.value, c.as_slice-doors.ensures.value) at c.in-Err.ensures.told)
