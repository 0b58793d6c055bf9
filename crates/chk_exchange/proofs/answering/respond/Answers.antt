use Rattle.std.proofs.Common.{Ok, Option}
use Rattle.std.proofs.lemmas.Result.{err_from_is_err_and}
use Rattle.chk_exchange.specs.declared.fault.ExchangeFault.{ExchangeFault}
use Rattle.chk_exchange.specs.Exchanges.{unreplied, unsent, unread, sent}
use Rattle.chk_exchange.proofs.Causes.{after_reply}
use Rattle.chk_exchange.proofs.Ending.{ends_outside}
use Rattle.chk_exchange.proofs.Responding.{unreplied_so, failed_so, sent_so}
use Rattle.chk_exchange.proofs.LeastTold.{replied_in}
use Rattle.chk_exchange.proofs.Serving.{named_at}
use Rattle.chk_exchange.proofs.answering.respond.Goals as goal

pub returns-in_err-reply-clause-script : goal.returns-in_err-reply-clause-script
returns-in_err-reply-clause-script g c =
    let p = err_from_is_err_and c.from_residual.result c.from_residual.ensures.1 in
    rw (p.1, p.2) (unreplied (rw c.as_slice.ensures at c.in_err-reply.ensures.unanswered))

pub returns-in_err-reply-clause-told : goal.returns-in_err-reply-clause-told
returns-in_err-reply-clause-told g c stamped started acting a m sound in_c in_a acts_c =
    let p = err_from_is_err_and c.from_residual.result c.from_residual.ensures.1 in
    rw (p.1, p.2)
    (unreplied_so stamped started acting c.args.collector.now a m c.args.taking.number
    c.args.taking.bytes in_c in_a acts_c sound
    (named_at c.args.collector.now c.args.who.now c.requires.started c.requires.named)
    c.respond.new.self
    c.in_err-reply.field-0.0 (rw c.as_slice.ensures at c.in_err-reply.ensures.told))

pub returns-in_err-send_answer-clause-script : goal.returns-in_err-send_answer-clause-script
returns-in_err-send_answer-clause-script g c =
    let p = err_from_is_err_and c.from_residual-in_err-send_answer.result
    c.from_residual-in_err-send_answer.ensures.1 in
    let call = rw c.as_slice-2.ensures at c.in_err-send_answer.ensures.call in
    rw (p.1, p.2)
    (unsent c.in_ok-reply.reply c.in_err-send_answer.field-0.0 call.0
    (rw c.as_slice.ensures at c.in_ok-reply.ensures.replied)
    call.1 call.2)

pub returns-in_err-send_answer-clause-told : goal.returns-in_err-send_answer-clause-told
returns-in_err-send_answer-clause-told g c stamped started acting a m sound in_c in_a acts_c =
    let p = err_from_is_err_and c.from_residual-in_err-send_answer.result
    c.from_residual-in_err-send_answer.ensures.1 in
    let call = rw c.as_slice-2.ensures at c.in_err-send_answer.ensures.call in
    rw (p.1, p.2)
    (failed_so stamped started acting c.args.collector.now a m c.args.taking.number
    c.args.taking.bytes in_c in_a acts_c sound
    (named_at c.args.collector.now c.args.who.now c.requires.started c.requires.named)
    c.args.who.now c.requires.started
    c.in_ok-reply.reply c.respond.new.self c.in_ok-reply.ensures.same.collector call.0
    (rw c.as_slice.ensures at c.in_ok-reply.ensures.told) call.2)

pub returns-in_err-send_answer-clause-cause : goal.returns-in_err-send_answer-clause-cause
returns-in_err-send_answer-clause-cause g c =
    let p = err_from_is_err_and c.from_residual-in_err-send_answer.result
    c.from_residual-in_err-send_answer.ensures.1 in
    let call = c.in_err-send_answer.ensures.call in
    rw (p.1, p.2)
    (after_reply (Option ExchangeFault) _ _ _ c.in_ok-reply.ensures.replied.outcome
    c.in_err-send_answer.field-0.0
    (ends_outside _ call.0 c.in_err-send_answer.field-0.0 call.1)
    c.in_ok-reply.ensures.replied.cause
    c.in_err-send_answer.ensures.cause)

pub returns-in_err-made-clause-script : goal.returns-in_err-made-clause-script
returns-in_err-made-clause-script g c =
    let p = err_from_is_err_and c.from_residual-in_err-made.result
    c.from_residual-in_err-made.ensures.1 in
    let replied = rw c.as_slice.ensures at c.in_ok-reply.ensures.replied in
    rw (p.1, p.2)
    (unread c.in_ok-reply.reply replied
    ((rw c.as_slice-3.ensures at c.in_err-made.ensures.untold) replied.outcome replied.is)
    (rw c.as_slice-2.ensures at c.in_ok-send_answer.ensures.call))

pub returns-in_err-made-clause-told : goal.returns-in_err-made-clause-told
returns-in_err-made-clause-told g c stamped started acting a m sound in_c in_a acts_c =
    let p = err_from_is_err_and c.from_residual-in_err-made.result
    c.from_residual-in_err-made.ensures.1 in
    rw (p.1, p.2)
    (failed_so stamped started acting c.args.collector.now a m c.args.taking.number
    c.args.taking.bytes in_c in_a acts_c sound
    (named_at c.args.collector.now c.args.who.now c.requires.started c.requires.named)
    c.args.who.now c.requires.started
    c.in_ok-reply.reply c.respond.new.self c.in_ok-reply.ensures.same.collector (Ok tt)
    (rw c.as_slice.ensures at c.in_ok-reply.ensures.told)
    (rw c.as_slice-2.ensures at c.in_ok-send_answer.ensures.call))

pub returns-clause-script : goal.returns-clause-script
returns-clause-script g c =
    let replied = rw c.as_slice.ensures at c.in_ok-reply.ensures.replied in
    sent c.in_ok-reply.reply c.in_ok-made.made replied
    ((rw c.as_slice-3.ensures at c.in_ok-made.ensures.told) replied.outcome replied.is)
    (rw c.as_slice-2.ensures at c.in_ok-send_answer.ensures.call)

pub returns-clause-told : goal.returns-clause-told
returns-clause-told g c stamped started acting a m sound in_c in_a acts_c =
    let replied = rw c.as_slice.ensures at c.in_ok-reply.ensures.replied in
    sent_so stamped started acting c.args.collector.now a m c.args.taking.number c.args.taking.bytes
    in_c in_a acts_c sound
    (named_at c.args.collector.now c.args.who.now c.requires.started c.requires.named)
    c.args.who.now c.requires.started
    c.in_ok-reply.reply c.respond.new.self c.in_ok-reply.ensures.same.collector c.in_ok-made.made
    replied.outcome _
    (replied_in replied
    ((rw c.as_slice-3.ensures at c.in_ok-made.ensures.read) replied.outcome replied.is)
    (rw c.as_slice-2.ensures at c.in_ok-send_answer.ensures.call))
    (record {
      by_bytes = replied.by_bytes;
      is_made = (rw c.as_slice-3.ensures at c.in_ok-made.ensures.told) replied.outcome replied.is;
      read = (rw c.as_slice-3.ensures at c.in_ok-made.ensures.read) replied.outcome replied.is;
    })
    replied.sound (rw c.as_slice.ensures at c.in_ok-reply.ensures.told)
    (rw c.as_slice-2.ensures at c.in_ok-send_answer.ensures.call)
