use Rattle.std.proofs.Common.{sym}
use Rattle.chk_ctl_inspect.specs.Inspections.{runs, states, unasked, unread}
use Rattle.chk_ctl_inspect.proofs.running.inspect.Goals as goal

pub returns-then-is_status : goal.returns-then-is_status
returns-then-is_status g c = states (sym c.if-is_status.ensures) c.inspect_status.ensures

pub returns-in-Ok : goal.returns-in-Ok
returns-in-Ok g c =
    runs (sym c.if-is_status.ensures) c.in-Ok.ensures.asked c.inspect_command.ensures

pub returns-in-Err-Usage : goal.returns-in-Err-Usage
returns-in-Err-Usage g c =
    unasked (sym c.if-is_status.ensures)
    (rw c.in-Err-Usage.field-0-is at c.in-Err-Usage.ensures.asked) c.run_here.ensures

pub returns-in-Err-NoMemory : goal.returns-in-Err-NoMemory
returns-in-Err-NoMemory g c = unread
