use Rattle.chk_ctl_inspect.proofs.Told.{tells_one}
use Rattle.chk_ctl_inspect.proofs.reported.RefStrReported.report.Goals as goal

pub returns-then-in_tables-clause-told : goal.returns-then-in_tables-clause-told
returns-then-in_tables-clause-told g c =
    rw c.if-in_tables.true (tells_one c.tell_absent.result c.requires.job c.tell_absent.ensures.told)

pub returns-else-in_tables-clause-told : goal.returns-else-in_tables-clause-told
returns-else-in_tables-clause-told g c =
    rw c.if-in_tables.false
    (tells_one c.tell_absent_line.result c.requires.job c.tell_absent_line.ensures.told)
