use Rattle.chk_ctl_inspect.specs.Reporting.{one_told, refused}
use Rattle.chk_ctl_inspect.proofs.Told.{tells_as, tells_one}
use Rattle.chk_ctl_inspect.proofs.reported.NamedStoreReported.report.Goals as goal

pub returns-in-Ok-clause-told : goal.returns-in-Ok-clause-told
returns-in-Ok-clause-told g c =
    rw c.if-in_tables.true
    (one_told (tells_as c.requires.job (rw c.as_str.ensures.value at c.in-Ok.ensures.told))
    (tells_one c.tell_locks.result c.requires.job
    (rw c.as_slice.ensures.value at c.tell_locks.ensures.told)))

pub returns-in-Err-clause-told : goal.returns-in-Err-clause-told
returns-in-Err-clause-told g c =
    rw c.if-in_tables.true
    (refused (tells_as c.requires.job (rw c.as_str.ensures.value at c.in-Err.ensures.told)))

pub returns-else-in_tables-clause-told : goal.returns-else-in_tables-clause-told
returns-else-in_tables-clause-told g c =
    rw c.if-in_tables.false
    (tells_one c.tell_line.result c.requires.job
    (rw c.as_str-else-in_tables.ensures.value at c.tell_line.ensures.told))
