use Rattle.std.proofs.Common.{Err, ap, ◌∙◌, arith}
use Rattle.std.proofs.lemmas.Result.{err_from_is_err_and}
use Rattle.chk_agent.proofs.TurningTold.{posts_same}
use Rattle.chk_agent_drain.proofs.Trying.{replied_told, post_answered, unposted_at, unsent_at, unreplied_at, taken_at, refused_at, silent_at}
use Rattle.chk_agent_drain.proofs.Misses.{silent_cause, unsent_cause, wants_cause}
use Rattle.chk_agent_drain.proofs.posting.post_once.Goals as goal

pub returns-in_err-post-clause-state : goal.returns-in_err-post-clause-state
returns-in_err-post-clause-state g c =
    let p = err_from_is_err_and c.from_residual.result c.from_residual.ensures.1 in
    unposted_at c.args.now c.args.agent.now c.post.new.self c.in_err-post.field-0.0
    c.from_residual.result (p.1 ∙ ap Err p.2) c.in_err-post.ensures.state

pub returns-in_err-post_reply-in-Sent-clause-state :
    goal.returns-in_err-post_reply-in-Sent-clause-state
returns-in_err-post_reply-in-Sent-clause-state g c =
    let r = c.from_residual-in_err-post_reply-in-Sent in
    let p = err_from_is_err_and r.result r.ensures.1 in
    unreplied_at c.args.now c.args.agent.now c.post.new.self c.in_ok-post.field-0
    c.in_ok-post.ensures.state c.in-Sent.count c.in-Sent.is c.post_reply.new.self
    c.in_err-post_reply-in-Sent.field-0.0 r.result (p.1 ∙ ap Err p.2)
    c.in_err-post_reply-in-Sent.ensures.state

pub returns-in_err-post_reply-in-Sent-clause-talks :
    goal.returns-in_err-post_reply-in-Sent-clause-talks
returns-in_err-post_reply-in-Sent-clause-talks g c =
    replied_told c.args.agent.now c.post.new.self c.post_reply.new.self
    (posts_same c.in_ok-post.ensures.state) c.post.ensures.told c.post_reply.ensures.told

pub unreachable-requires : goal.unreachable-requires
unreachable-requires g c =
    post_answered c.args.now c.args.agent.now c.post.new.self c.post_reply.new.self
    c.in_ok-post.field-0 c.in-Sent.count c.in_ok-post_reply-in-Sent.field-0
    c.in_ok-post.ensures.state c.in-Sent.is c.in_ok-post_reply-in-Sent.ensures.state c.in-Nothing.is

pub returns-in-Taken-clause-state : goal.returns-in-Taken-clause-state
returns-in-Taken-clause-state g c =
    taken_at c.args.now c.args.agent.now c.post.new.self c.in_ok-post.field-0
    c.in_ok-post.ensures.state c.in-Sent.count c.in-Sent.is c.post_reply.new.self
    c.in_ok-post_reply-in-Sent.field-0 c.in_ok-post_reply-in-Sent.ensures.state c.in-Taken.count
    c.in-Taken.is

pub returns-in-Taken-clause-talks : goal.returns-in-Taken-clause-talks
returns-in-Taken-clause-talks g c =
    replied_told c.args.agent.now c.post.new.self c.post_reply.new.self
    (posts_same c.in_ok-post.ensures.state) c.post.ensures.told c.post_reply.ensures.told

pub returns-in-Refused-clause-state : goal.returns-in-Refused-clause-state
returns-in-Refused-clause-state g c =
    refused_at c.args.now c.args.agent.now c.post.new.self c.in_ok-post.field-0
    c.in_ok-post.ensures.state c.in-Sent.count c.in-Sent.is c.post_reply.new.self
    c.in_ok-post_reply-in-Sent.field-0 c.in_ok-post_reply-in-Sent.ensures.state c.in-Refused.code
    c.in-Refused.is

pub returns-in-Refused-clause-talks : goal.returns-in-Refused-clause-talks
returns-in-Refused-clause-talks g c =
    replied_told c.args.agent.now c.post.new.self c.post_reply.new.self
    (posts_same c.in_ok-post.ensures.state) c.post.ensures.told c.post_reply.ensures.told

pub returns-in-Silent-clause-state : goal.returns-in-Silent-clause-state
returns-in-Silent-clause-state g c =
    silent_at c.args.now c.args.agent.now c.post.new.self c.in_ok-post.field-0
    c.in_ok-post.ensures.state c.in-Sent.count c.in-Sent.is c.post_reply.new.self
    c.in_ok-post_reply-in-Sent.field-0 c.in_ok-post_reply-in-Sent.ensures.state c.in-Silent.is

pub returns-in-Silent-clause-talks : goal.returns-in-Silent-clause-talks
returns-in-Silent-clause-talks g c =
    replied_told c.args.agent.now c.post.new.self c.post_reply.new.self
    (posts_same c.in_ok-post.ensures.state) c.post.ensures.told c.post_reply.ensures.told

pub returns-in-Failed-clause-state : goal.returns-in-Failed-clause-state
returns-in-Failed-clause-state g c =
    unsent_at c.args.now c.args.agent.now c.post.new.self c.in_ok-post.field-0
    c.in_ok-post.ensures.state c.in-Failed.is

pub returns-in_err-post-clause-cause : goal.returns-in_err-post-clause-cause
returns-in_err-post-clause-cause g c =
    let p = err_from_is_err_and c.from_residual.result c.from_residual.ensures.1 in
    let same = c.in_err-post.ensures.failed in
    wants_cause _ _ c.from_residual.result c.in_err-post.field-0.0 (p.1 ∙ ap Err p.2)
    (omega (arith, same))

pub returns-in_err-post_reply-in-Sent-clause-cause :
    goal.returns-in_err-post_reply-in-Sent-clause-cause
returns-in_err-post_reply-in-Sent-clause-cause g c =
    let r = c.from_residual-in_err-post_reply-in-Sent in
    let p = err_from_is_err_and r.result r.ensures.1 in
    let first = c.in_ok-post.ensures.cause in
    let same = c.in_err-post_reply-in-Sent.ensures.failed in
    wants_cause _ _ r.result c.in_err-post_reply-in-Sent.field-0.0 (p.1 ∙ ap Err p.2)
    (omega (arith, first, same))

pub returns-in-Taken-clause-cause : goal.returns-in-Taken-clause-cause
returns-in-Taken-clause-cause g c =
    let first = c.in_ok-post.ensures.cause in
    let more = c.in_ok-post_reply-in-Sent.ensures.cause in
    omega (arith, first, more)

pub returns-in-Refused-clause-cause : goal.returns-in-Refused-clause-cause
returns-in-Refused-clause-cause g c =
    let first = c.in_ok-post.ensures.cause in
    let more = c.in_ok-post_reply-in-Sent.ensures.cause in
    omega (arith, first, more)

pub returns-in-Silent-clause-cause : goal.returns-in-Silent-clause-cause
returns-in-Silent-clause-cause g c =
    silent_cause _ _ _ c.in_ok-post_reply-in-Sent.field-0 c.in-Silent.is c.in_ok-post.ensures.cause
    c.in_ok-post_reply-in-Sent.ensures.failed

pub returns-in-Failed-clause-cause : goal.returns-in-Failed-clause-cause
returns-in-Failed-clause-cause g c =
    unsent_cause _ _ c.in_ok-post.field-0 c.in-Failed.is c.in_ok-post.ensures.failed
