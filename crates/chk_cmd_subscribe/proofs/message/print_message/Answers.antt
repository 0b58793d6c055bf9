use Rattle.chk_cmd_subscribe.specs.Watching.{printed}
use Rattle.chk_cmd_subscribe.proofs.Reading.{refuse_told}
use Rattle.chk_cmd_subscribe.proofs.message.print_message.Goals as goal

pub returns-in-Ok-clause-script : goal.returns-in-Ok-clause-script
returns-in-Ok-clause-script g c = printed c.in-Ok.tee c.in-Ok.ensures.tee c.print_chunks.ensures.script

pub returns-in-Err-clause-script : goal.returns-in-Err-clause-script
returns-in-Err-clause-script g c =
    refuse_told c.args.who.now c.args.bytes.now c.args.watch.now c.refuse.new.watch _ c.in-Err.field-0 c.refuse.result c.in-Err.ensures.fault
    c.refuse.ensures.ok c.refuse.ensures.err
