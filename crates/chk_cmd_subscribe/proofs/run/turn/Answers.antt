use Rattle.chk_cmd_subscribe.specs.Runs.{nothing, untaken, unread, message}
use Rattle.chk_cmd_subscribe.proofs.run.turn.Goals as goal

pub returns-in-Ok-clause-script : goal.returns-in-Ok-clause-script
returns-in-Ok-clause-script g c =
    message c.in-Ok-Some.taking c.in-Ok.bytes (rw c.in-Ok-Some.field-0-is at c.in-Ok-Some.ensures.call) c.in-Ok.ensures.script
    (rw c.as_slice.ensures at c.print_message.ensures.script)

pub returns-in-Err-read_on-clause-script : goal.returns-in-Err-read_on-clause-script
returns-in-Err-read_on-clause-script g c =
    unread c.in-Ok-Some.taking (rw c.in-Ok-Some.field-0-is at c.in-Ok-Some.ensures.call) c.in-Err-read_on.ensures.script

pub returns-in-Ok-None-clause-script : goal.returns-in-Ok-None-clause-script
returns-in-Ok-None-clause-script g c = nothing (rw c.in-Ok-None.field-0-is at c.in-Ok-None.ensures.call)

pub returns-in-Err-clause-script : goal.returns-in-Err-clause-script
returns-in-Err-clause-script g c = untaken c.in-Err.ensures.call.0 c.in-Err.ensures.call.1 c.in-Err.ensures.call.2
