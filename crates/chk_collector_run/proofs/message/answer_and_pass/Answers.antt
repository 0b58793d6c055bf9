use Rattle.chk_collector_run.specs.Messages.{lost, passed_on, unpassed, undone}
use Rattle.chk_collector_run.proofs.Handling.{pass_told}
use Rattle.chk_collector_run.proofs.Counts.{risen_then}
use Rattle.chk_collector_run.proofs.Passing.{pass_risen}
use Rattle.chk_collector_run.proofs.message.answer_and_pass.Goals as goal

pub returns-in-Ok-clause-told : goal.returns-in-Ok-clause-told
returns-in-Ok-clause-told g c stamped =
    pass_told stamped c.args.collector.now c.args.who.now c.requires.started c.requires.named
    c.args.number c.args.request.now c.answer.new.collector c.answer.ensures.same
    c.in-Ok-Some.reply c.pass.result (c.answer.ensures.told stamped)
    (rw c.as_slice.ensures at c.pass.ensures.did)

pub returns-in-Ok-clause-script : goal.returns-in-Ok-clause-script
returns-in-Ok-clause-script g c =
    passed_on c.in-Ok-Some.reply c.in-Ok.field-0
    (rw c.in-Ok-Some.field-0-is at c.in-Ok-Some.ensures.script)
    (rw c.as_slice.ensures at c.in-Ok.ensures.did)

pub returns-in-Ok-clause-count : goal.returns-in-Ok-clause-count
returns-in-Ok-clause-count g c =
    risen_then _ _ _ c.answer.ensures.count (pass_risen _ _ c.pass.result c.pass.ensures.cause)

pub returns-in-Ok-Some-clause-told : goal.returns-in-Ok-Some-clause-told
returns-in-Ok-Some-clause-told g c stamped =
    pass_told stamped c.args.collector.now c.args.who.now c.requires.started c.requires.named
    c.args.number c.args.request.now c.answer.new.collector c.answer.ensures.same
    c.in-Ok-Some.reply c.pass.result (c.answer.ensures.told stamped)
    (rw c.as_slice.ensures at c.pass.ensures.did)

pub returns-in-Ok-Some-clause-script : goal.returns-in-Ok-Some-clause-script
returns-in-Ok-Some-clause-script g c =
    unpassed c.in-Ok-Some.reply (rw c.in-Ok-Some.field-0-is at c.in-Ok-Some.ensures.script)
    (rw c.as_slice.ensures at c.in-Err-pass.ensures.did)

pub returns-in-Ok-Some-clause-count : goal.returns-in-Ok-Some-clause-count
returns-in-Ok-Some-clause-count g c =
    risen_then _ _ _ c.answer.ensures.count (pass_risen _ _ c.pass.result c.pass.ensures.cause)

pub returns-in-Ok-None-clause-script : goal.returns-in-Ok-None-clause-script
returns-in-Ok-None-clause-script g c =
    lost (rw c.in-Ok-None.field-0-is at c.in-Ok-None.ensures.script)

pub returns-clause-script : goal.returns-clause-script
returns-clause-script g c = undone c.in-Err.ensures.script
