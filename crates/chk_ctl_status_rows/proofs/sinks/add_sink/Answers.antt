use Rattle.std.proofs.Common.{sym}
use Rattle.chk_ctl_status_rows.specs.Sinks.{added, failed, other, passed}
use Rattle.chk_ctl_status_rows.proofs.sinks.add_sink.Goals as goal

pub returns-in-Ok-Some-clause-told : goal.returns-in-Ok-Some-clause-told
returns-in-Ok-Some-clause-told g c =
    rw c.push_sink.ensures
    (added c.push_sink.result c.in-Some.stem (sym c.in-Some.ensures)
    (rw c.in-Ok-Some.field-0-is at c.in-Ok-Some.ensures.told))

pub returns-in-Ok-None-clause-told : goal.returns-in-Ok-None-clause-told
returns-in-Ok-None-clause-told g c =
    passed c.in-Some.stem (sym c.in-Some.ensures)
    (rw c.in-Ok-None.field-0-is at c.in-Ok-None.ensures.told)

pub returns-in-Err-clause-told : goal.returns-in-Err-clause-told
returns-in-Err-clause-told g c =
    failed c.in-Some.stem (sym c.in-Some.ensures) c.in-Err.ensures.told

pub returns-in-None-clause-told : goal.returns-in-None-clause-told
returns-in-None-clause-told g c = other (sym c.in-None.ensures)
