use Rattle.chk_ctl_inspect.specs.Statuses.{given_up, inspected}
use Rattle.chk_ctl_inspect.proofs.status.inspect_once.Goals as goal

pub returns-in-Ok : goal.returns-in-Ok
returns-in-Ok g c =
    rw c.max.ensures
    (inspected c.in-Ok.ensures (rw c.form.ensures at c.report-status.ensures))

pub returns-in-Err : goal.returns-in-Err
returns-in-Err g c = given_up
