use Rattle.std.proofs.Common.{Err, ap, sym, ◌∙◌}
use Rattle.std.proofs.lemmas.Result.{err_from_is_err_and}
use Rattle.chk_agent.specs.Turns.{not_due}
use Rattle.chk_agent.proofs.TurningTold.{polls_same, waits_for_some}
use Rattle.chk_agent.proofs.TurningPolls.{sent_told, unsent_at, asked_at, unanswered_at, refused_at}
use Rattle.chk_agent.proofs.agent.Agent.poll_if_due.Goals as goal

pub returns-then-not-is_poll_due-clause-state : goal.returns-then-not-is_poll_due-clause-state
returns-then-not-is_poll_due-clause-state g c = not_due (sym c.is_poll_due.ensures
    ∙ c.if-not-is_poll_due.true)

pub returns-in_err-poll-clause-state : goal.returns-in_err-poll-clause-state
returns-in_err-poll-clause-state g c =
    let p = err_from_is_err_and c.from_residual.result c.from_residual.ensures.1 in
    refused_at c.args.now c.args.self.now c.poll.new.self c.in_err-poll.field-0.0
    c.from_residual.result (p.1 ∙ ap Err p.2)
    (sym c.is_poll_due.ensures ∙ c.if-not-is_poll_due.false) c.in_err-poll.ensures.state

pub returns-in_err-_lengths-in-Sent-clause-state : goal.returns-in_err-_lengths-in-Sent-clause-state
returns-in_err-_lengths-in-Sent-clause-state g c =
    let r = c.from_residual-in_err-_lengths-in-Sent in
    let p = err_from_is_err_and r.result r.ensures.1 in
    unanswered_at c.args.now c.args.self.now c.poll.new.self c.in_ok-poll.field-0
    (sym c.is_poll_due.ensures ∙ c.if-not-is_poll_due.false)
    c.in_ok-poll.ensures.state c.in-Sent.count c.in_err-_lengths-in-Sent.field-0.0 r.result
    c.note_poll.new.self c.poll_reply.new.self
    (p.1 ∙ ap Err p.2) c.in-Sent.is c.note_poll.ensures c.in_err-_lengths-in-Sent.ensures.state

pub returns-in_err-_lengths-in-Sent-clause-told : goal.returns-in_err-_lengths-in-Sent-clause-told
returns-in_err-_lengths-in-Sent-clause-told g c =
    sent_told c.args.now c.args.self.now c.poll.new.self c.note_poll.new.self c.poll_reply.new.self
    (polls_same c.in_ok-poll.ensures.state)
    c.poll.ensures.told c.note_poll.ensures c.poll_reply.ensures.told

pub unreachable-requires : goal.unreachable-requires
unreachable-requires g c =
    waits_for_some c.args.now c.args.self.now c.poll.new.self c.in_ok-poll.field-0
    (sym c.is_poll_due.ensures ∙ c.if-not-is_poll_due.false)
    c.in-NoneWaiting.is c.in_ok-poll.ensures.state

pub returns-in_ok-_lengths-in-Sent-clause-state : goal.returns-in_ok-_lengths-in-Sent-clause-state
returns-in_ok-_lengths-in-Sent-clause-state g c =
    asked_at c.args.now c.args.self.now c.poll.new.self c.in_ok-poll.field-0
    (sym c.is_poll_due.ensures ∙ c.if-not-is_poll_due.false)
    c.in_ok-poll.ensures.state c.in-Sent.count c.in_ok-_lengths-in-Sent._lengths
    c.note_poll.new.self c.poll_reply.new.self
    c.in-Sent.is c.note_poll.ensures c.in_ok-_lengths-in-Sent.ensures.state

pub returns-in_ok-_lengths-in-Sent-clause-told : goal.returns-in_ok-_lengths-in-Sent-clause-told
returns-in_ok-_lengths-in-Sent-clause-told g c =
    sent_told c.args.now c.args.self.now c.poll.new.self c.note_poll.new.self c.poll_reply.new.self
    (polls_same c.in_ok-poll.ensures.state)
    c.poll.ensures.told c.note_poll.ensures c.poll_reply.ensures.told

pub returns-in-Failed-clause-state : goal.returns-in-Failed-clause-state
returns-in-Failed-clause-state g c =
    unsent_at c.args.now c.args.self.now c.poll.new.self c.in_ok-poll.field-0
    (sym c.is_poll_due.ensures ∙ c.if-not-is_poll_due.false)
    c.in_ok-poll.ensures.state c.in-Failed.is
