use Rattle.std.proofs.lemmas.Result.{err_from_is_err_and}
use Rattle.chk_collector_run.specs.Messages.{IsAnswered, replied}
use Rattle.chk_collector_run.proofs.Counts.{risen_then, same_start}
use Rattle.chk_collector_run.proofs.Handling.{broken_told, unread_told, read_then}
use Rattle.chk_collector_run.proofs.message.handle.Goals as goal

pub returns-in_err-read-clause-told : goal.returns-in_err-read-clause-told
returns-in_err-read-clause-told g c stamped =
    unread_told stamped c.args.collector.now c.args.who.now c.requires.started c.requires.named
    c.args.taking.number c.args.taking.bytes c.in_err-read.field-0.0 c.in_err-read.ensures.script

pub returns-in_err-read-clause-script : goal.returns-in_err-read-clause-script
returns-in_err-read-clause-script g c =
    let p = err_from_is_err_and c.from_residual.result c.from_residual.ensures.1 in
    rw (p.1, p.2) (IsAnswered.unread c.in_err-read.ensures.script)

pub returns-in_err-read-clause-same : goal.returns-in_err-read-clause-same
returns-in_err-read-clause-same g c = same_start c.args.collector.now

pub returns-in-None-clause-told : goal.returns-in-None-clause-told
returns-in-None-clause-told g c stamped =
    broken_told stamped c.args.collector.now c.args.who.now c.requires.started c.requires.named
    c.args.taking.number c.args.taking.bytes (rw c.in-None.is at c.in_ok-read.ensures.script)

pub returns-in-None-clause-script : goal.returns-in-None-clause-script
returns-in-None-clause-script g c = IsAnswered.broken (rw c.in-None.is at c.in_ok-read.ensures.script)

pub returns-in-None-clause-same : goal.returns-in-None-clause-same
returns-in-None-clause-same g c = same_start c.args.collector.now

pub returns-in-Some-clause-told : goal.returns-in-Some-clause-told
returns-in-Some-clause-told g c stamped =
    read_then stamped c.args.collector.now c.args.who.now c.requires.started c.requires.named
    c.args.taking.number c.args.taking.bytes c.answer_and_pass.new.collector c.in-Some.request
    (rw c.in-Some.is at c.in_ok-read.ensures.script)
    (rw c.as_slice.ensures at (c.answer_and_pass.ensures.told stamped))

pub returns-in-Some-clause-script : goal.returns-in-Some-clause-script
returns-in-Some-clause-script g c =
    replied c.in-Some.request (rw c.in-Some.is at c.in_ok-read.ensures.script)
    (rw c.as_slice.ensures at c.answer_and_pass.ensures.script)

pub returns-in-Some-clause-count : goal.returns-in-Some-clause-count
returns-in-Some-clause-count g c = risen_then _ _ _ c.read_on.ensures.count c.answer_and_pass.ensures.count
