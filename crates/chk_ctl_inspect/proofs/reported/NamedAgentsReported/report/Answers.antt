use Rattle.chk_ctl_inspect.specs.Reporting.{one_told, refused}
use Rattle.chk_ctl_inspect.proofs.Told.{tells_as, tells_one}
use Rattle.chk_ctl_inspect.proofs.reported.NamedAgentsReported.report.Goals as goal

pub returns-in-Ok-clause-told : goal.returns-in-Ok-clause-told
returns-in-Ok-clause-told g c =
    rw c.if-in_tables.true
    (one_told (tells_as c.requires.job
    (rw (c.as_str-folder.ensures.value, c.as_slice.ensures.value) at c.in-Ok.ensures.told))
    (tells_one c.tell_locks.result c.requires.job
    (rw c.as_slice-in-Ok.ensures.value at c.tell_locks.ensures.told)))

pub returns-in-Err-clause-told : goal.returns-in-Err-clause-told
returns-in-Err-clause-told g c =
    rw c.if-in_tables.true
    (refused (tells_as c.requires.job
    (rw (c.as_str-folder.ensures.value, c.as_slice.ensures.value) at c.in-Err.ensures.told)))

pub returns-in-Ok-tell_agents_line-clause-told : goal.returns-in-Ok-tell_agents_line-clause-told
returns-in-Ok-tell_agents_line-clause-told g c =
    rw c.if-in_tables.false
    (one_told (tells_as c.requires.job
    (rw (c.as_str-folder-else-in_tables.ensures.value, c.as_slice-else-in_tables.ensures.value) at
    c.in-Ok-tell_agents_line.ensures.told))
    (tells_one c.tell_locks_line.result c.requires.job
    (rw (
      c.as_str-folder-else-in_tables.ensures.value,
      c.as_slice-in-Ok-tell_agents_line.ensures.value,
    ) at c.tell_locks_line.ensures.told)))

pub returns-in-Err-tell_agents_line-clause-told : goal.returns-in-Err-tell_agents_line-clause-told
returns-in-Err-tell_agents_line-clause-told g c =
    rw c.if-in_tables.false
    (refused (tells_as c.requires.job
    (rw (c.as_str-folder-else-in_tables.ensures.value, c.as_slice-else-in_tables.ensures.value) at
    c.in-Err-tell_agents_line.ensures.told)))
