use Rattle.chk_ctl_inspect.specs.Statuses.{asked, unasked, unread}
use Rattle.chk_ctl_inspect.proofs.status.inspect_status.Goals as goal

pub returns-in-Ok : goal.returns-in-Ok
returns-in-Ok g c = asked c.in-Ok.ensures c.inspect_asked.ensures

pub returns-in-Err-Usage : goal.returns-in-Err-Usage
returns-in-Err-Usage g c =
    rw c.end_with.ensures.status
    (unasked (rw c.in-Err-Usage.field-0-is at c.in-Err-Usage.ensures) c.end_with.ensures.told)

pub returns-in-Err-NoMemory : goal.returns-in-Err-NoMemory
returns-in-Err-NoMemory g c = unread
