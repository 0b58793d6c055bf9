use Rattle.chk_ctl_inspect.proofs.Told.{tells_one}
use Rattle.chk_ctl_inspect.proofs.reported.NamedDoorReported.report.Goals as goal

pub returns-then-in_tables-clause-told : goal.returns-then-in_tables-clause-told
returns-then-in_tables-clause-told g c =
    rw c.if-in_tables.true
    (tells_one c.tell_door.result c.requires.job
    (rw (c.as_str-name.ensures.value, c.as_str-address.ensures.value) at c.tell_door.ensures.told))

pub returns-else-in_tables-clause-told : goal.returns-else-in_tables-clause-told
returns-else-in_tables-clause-told g c =
    rw c.if-in_tables.false
    (tells_one c.tell_door_line.result c.requires.job
    (rw (
      c.as_str-name-else-in_tables.ensures.value,
      c.as_str-address-else-in_tables.ensures.value,
    ) at c.tell_door_line.ensures.told))
