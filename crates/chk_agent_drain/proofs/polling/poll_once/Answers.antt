use Rattle.std.proofs.Common.{Err, ap, ◌∙◌, arith}
use Rattle.std.proofs.lemmas.Result.{err_from_is_err_and}
use Rattle.chk_agent.proofs.TurningTold.{polls_same}
use Rattle.chk_agent_drain.proofs.Trying.{replied_told, poll_answered, unasked_at, poll_unsent_at, untold_at, lengths_at, poll_refused_at, poll_silent_at}
use Rattle.chk_agent_drain.proofs.Misses.{untold_cause, unasked_cause, wants_cause}
use Rattle.chk_agent_drain.proofs.polling.poll_once.Goals as goal

pub returns-in_err-poll-clause-state : goal.returns-in_err-poll-clause-state
returns-in_err-poll-clause-state g c now =
    let p = err_from_is_err_and c.from_residual.result c.from_residual.ensures.1 in
    unasked_at now c.args.agent.now c.poll.new.self c.in_err-poll.field-0.0
    c.from_residual.result (p.1 ∙ ap Err p.2) c.in_err-poll.ensures.state

pub returns-in_err-below-in-Sent-clause-state : goal.returns-in_err-below-in-Sent-clause-state
returns-in_err-below-in-Sent-clause-state g c now =
    let r = c.from_residual-in_err-below-in-Sent in
    let p = err_from_is_err_and r.result r.ensures.1 in
    untold_at now c.args.agent.now c.poll.new.self c.in_ok-poll.field-0
    c.in_ok-poll.ensures.state c.in-Sent.count c.in-Sent.is c.poll_reply.new.self
    c.in_err-below-in-Sent.field-0.0 r.result (p.1 ∙ ap Err p.2)
    c.in_err-below-in-Sent.ensures.state

pub returns-in_err-below-in-Sent-clause-talks : goal.returns-in_err-below-in-Sent-clause-talks
returns-in_err-below-in-Sent-clause-talks g c =
    replied_told c.args.agent.now c.poll.new.self c.poll_reply.new.self
    (polls_same c.in_ok-poll.ensures.state) c.poll.ensures.told c.poll_reply.ensures.told

pub unreachable-requires : goal.unreachable-requires
unreachable-requires g c =
    poll_answered c.args.agent.now c.poll.new.self c.poll_reply.new.self
    c.in_ok-poll.field-0 c.in-Sent.count c.in_ok-below-in-Sent.field-0
    c.in_ok-poll.ensures.state c.in-Sent.is c.in_ok-below-in-Sent.ensures.state c.in-Nothing.is

pub returns-in-Lengths-clause-state : goal.returns-in-Lengths-clause-state
returns-in-Lengths-clause-state g c now =
    lengths_at now c.args.agent.now c.poll.new.self c.in_ok-poll.field-0
    c.in_ok-poll.ensures.state c.in-Sent.count c.in-Sent.is c.poll_reply.new.self
    c.in_ok-below-in-Sent.field-0 c.in_ok-below-in-Sent.ensures.state c.in-Lengths.count
    c.in-Lengths.below c.in-Lengths.is

pub returns-in-Lengths-clause-talks : goal.returns-in-Lengths-clause-talks
returns-in-Lengths-clause-talks g c =
    replied_told c.args.agent.now c.poll.new.self c.poll_reply.new.self
    (polls_same c.in_ok-poll.ensures.state) c.poll.ensures.told c.poll_reply.ensures.told

pub returns-in-Refused-clause-state : goal.returns-in-Refused-clause-state
returns-in-Refused-clause-state g c now =
    poll_refused_at now c.args.agent.now c.poll.new.self c.in_ok-poll.field-0
    c.in_ok-poll.ensures.state c.in-Sent.count c.in-Sent.is c.poll_reply.new.self
    c.in_ok-below-in-Sent.field-0 c.in_ok-below-in-Sent.ensures.state c.in-Refused.code
    c.in-Refused.is

pub returns-in-Refused-clause-talks : goal.returns-in-Refused-clause-talks
returns-in-Refused-clause-talks g c =
    replied_told c.args.agent.now c.poll.new.self c.poll_reply.new.self
    (polls_same c.in_ok-poll.ensures.state) c.poll.ensures.told c.poll_reply.ensures.told

pub returns-in-Silent-clause-state : goal.returns-in-Silent-clause-state
returns-in-Silent-clause-state g c now =
    poll_silent_at now c.args.agent.now c.poll.new.self c.in_ok-poll.field-0
    c.in_ok-poll.ensures.state c.in-Sent.count c.in-Sent.is c.poll_reply.new.self
    c.in_ok-below-in-Sent.field-0 c.in_ok-below-in-Sent.ensures.state c.in-Silent.is

pub returns-in-Silent-clause-talks : goal.returns-in-Silent-clause-talks
returns-in-Silent-clause-talks g c =
    replied_told c.args.agent.now c.poll.new.self c.poll_reply.new.self
    (polls_same c.in_ok-poll.ensures.state) c.poll.ensures.told c.poll_reply.ensures.told

pub returns-in-Failed-clause-state : goal.returns-in-Failed-clause-state
returns-in-Failed-clause-state g c now =
    poll_unsent_at now c.args.agent.now c.poll.new.self c.in_ok-poll.field-0
    c.in_ok-poll.ensures.state c.in-Failed.is

pub returns-in_err-poll-clause-cause : goal.returns-in_err-poll-clause-cause
returns-in_err-poll-clause-cause g c =
    let p = err_from_is_err_and c.from_residual.result c.from_residual.ensures.1 in
    let same = c.in_err-poll.ensures.failed in
    wants_cause _ _ c.from_residual.result c.in_err-poll.field-0.0 (p.1 ∙ ap Err p.2)
    (omega (arith, same))

pub returns-in_err-below-in-Sent-clause-cause : goal.returns-in_err-below-in-Sent-clause-cause
returns-in_err-below-in-Sent-clause-cause g c =
    let r = c.from_residual-in_err-below-in-Sent in
    let p = err_from_is_err_and r.result r.ensures.1 in
    let first = c.in_ok-poll.ensures.cause in
    let same = c.in_err-below-in-Sent.ensures.failed in
    wants_cause _ _ r.result c.in_err-below-in-Sent.field-0.0 (p.1 ∙ ap Err p.2)
    (omega (arith, first, same))

pub returns-in-Lengths-clause-cause : goal.returns-in-Lengths-clause-cause
returns-in-Lengths-clause-cause g c =
    let first = c.in_ok-poll.ensures.cause in
    let more = c.in_ok-below-in-Sent.ensures.cause in
    omega (arith, first, more)

pub returns-in-Refused-clause-cause : goal.returns-in-Refused-clause-cause
returns-in-Refused-clause-cause g c =
    let first = c.in_ok-poll.ensures.cause in
    let more = c.in_ok-below-in-Sent.ensures.cause in
    omega (arith, first, more)

pub returns-in-Silent-clause-cause : goal.returns-in-Silent-clause-cause
returns-in-Silent-clause-cause g c =
    untold_cause _ _ _ c.in_ok-below-in-Sent.field-0 c.in-Silent.is c.in_ok-poll.ensures.cause
    c.in_ok-below-in-Sent.ensures.failed

pub returns-in-Failed-clause-cause : goal.returns-in-Failed-clause-cause
returns-in-Failed-clause-cause g c =
    unasked_cause _ _ c.in_ok-poll.field-0 c.in-Failed.is c.in_ok-poll.ensures.failed
