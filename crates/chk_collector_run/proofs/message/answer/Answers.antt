use Rattle.std.proofs.Common.{[], Ok, Err, refl}
use Rattle.std.proofs.lemmas.Result.{err_from_is_err_and}
use Rattle.chk_collector_run.specs.Calls.{sending_of}
use Rattle.chk_collector_run.specs.Messages.{sent, unreplied, unsent}
use Rattle.chk_collector_run.proofs.Counts.{outcome_risen, risen_then}
use Rattle.chk_collector_run.proofs.Handling.{sent_or_failed, handled_so, unreplied_so, answer_told}
use Rattle.chk_collector_run.proofs.Talking.{unreplied_told}
use Rattle.chk_collector_run.proofs.message.answer.Goals as goal

pub returns-in_err-reply-clause-told : goal.returns-in_err-reply-clause-told
returns-in_err-reply-clause-told g c stamped =
    unreplied_told stamped c.args.collector.now c.respond.new.self c.args.number c.args.request.now
    c.in_err-reply.field-0.0 (c.in_err-reply.ensures.told stamped c.args.number [])

pub returns-in_err-reply-clause-script : goal.returns-in_err-reply-clause-script
returns-in_err-reply-clause-script g c =
    let p = err_from_is_err_and c.from_residual.result c.from_residual.ensures.1 in
    rw p.1
    (unreplied (unreplied_so c.args.collector.now c.respond.new.self c.args.request.now
    (Err c.in_err-reply.field-0.0) c.in_err-reply.ensures.told c.args.who.now c.requires.started
    c.in_err-reply.field-0.0 refl c.in_err-reply.ensures.unanswered c.in_err-reply.ensures.same
    c.in_err-reply.ensures.seen))

pub returns-in_err-sent-clause-told : goal.returns-in_err-sent-clause-told
returns-in_err-sent-clause-told g c stamped =
    answer_told stamped c.args.collector.now c.args.who.now c.requires.started c.requires.named
    c.args.number c.args.request.now c.respond.new.self c.in_ok-reply.ensures.same
    c.in_ok-reply.reply (sending_of c.send.result) c.in_ok-reply.ensures.told
    (rw c.as_slice.ensures at c.send.ensures.call)

pub returns-in_err-sent-clause-script : goal.returns-in_err-sent-clause-script
returns-in_err-sent-clause-script g c =
    let p = err_from_is_err_and c.from_residual-in_err-sent.result
    c.from_residual-in_err-sent.ensures.1 in
    rw p.1
    (unsent c.in_ok-reply.reply (handled_so c.args.collector.now c.respond.new.self
    c.args.request.now (Ok c.in_ok-reply.reply) c.in_ok-reply.ensures.told c.args.who.now
    c.requires.started c.in_ok-reply.reply refl c.in_ok-reply.ensures.replied c.in_ok-reply.ensures.same
    c.in_ok-reply.ensures.seen) (rw c.as_slice.ensures at c.in_err-sent.ensures.call))

pub returns-in_err-sent-clause-count : goal.returns-in_err-sent-clause-count
returns-in_err-sent-clause-count g c =
    let replied = c.in_ok-reply.ensures.replied in
    risen_then _ _ _ (outcome_risen _ _ replied.outcome replied.cause) c.send.ensures.count

pub returns-then-sent-clause-told : goal.returns-then-sent-clause-told
returns-then-sent-clause-told g c stamped =
    answer_told stamped c.args.collector.now c.args.who.now c.requires.started c.requires.named
    c.args.number c.args.request.now c.respond.new.self c.in_ok-reply.ensures.same
    c.in_ok-reply.reply (sending_of c.send.result) c.in_ok-reply.ensures.told
    (rw c.as_slice.ensures at c.send.ensures.call)

pub returns-then-sent-clause-script : goal.returns-then-sent-clause-script
returns-then-sent-clause-script g c =
    rw c.if-sent.true at
    (sent c.in_ok-reply.reply (sending_of (Ok c.in_ok-sent.sent))
    (handled_so c.args.collector.now c.respond.new.self c.args.request.now
    (Ok c.in_ok-reply.reply) c.in_ok-reply.ensures.told c.args.who.now c.requires.started
    c.in_ok-reply.reply refl c.in_ok-reply.ensures.replied c.in_ok-reply.ensures.same
    c.in_ok-reply.ensures.seen) (sent_or_failed c.in_ok-sent.sent)
    (rw c.as_slice.ensures at c.in_ok-sent.ensures.call))

pub returns-then-sent-clause-count : goal.returns-then-sent-clause-count
returns-then-sent-clause-count g c =
    let replied = c.in_ok-reply.ensures.replied in
    risen_then _ _ _ (outcome_risen _ _ replied.outcome replied.cause) c.send.ensures.count

pub returns-clause-told : goal.returns-clause-told
returns-clause-told g c stamped =
    answer_told stamped c.args.collector.now c.args.who.now c.requires.started c.requires.named
    c.args.number c.args.request.now c.respond.new.self c.in_ok-reply.ensures.same
    c.in_ok-reply.reply (sending_of c.send.result) c.in_ok-reply.ensures.told
    (rw c.as_slice.ensures at c.send.ensures.call)

pub returns-clause-script : goal.returns-clause-script
returns-clause-script g c =
    rw c.if-sent.false at
    (sent c.in_ok-reply.reply (sending_of (Ok c.in_ok-sent.sent))
    (handled_so c.args.collector.now c.respond.new.self c.args.request.now
    (Ok c.in_ok-reply.reply) c.in_ok-reply.ensures.told c.args.who.now c.requires.started
    c.in_ok-reply.reply refl c.in_ok-reply.ensures.replied c.in_ok-reply.ensures.same
    c.in_ok-reply.ensures.seen) (sent_or_failed c.in_ok-sent.sent)
    (rw c.as_slice.ensures at c.in_ok-sent.ensures.call))

pub returns-clause-count : goal.returns-clause-count
returns-clause-count g c =
    let replied = c.in_ok-reply.ensures.replied in
    risen_then _ _ _ (outcome_risen _ _ replied.outcome replied.cause) c.send.ensures.count
