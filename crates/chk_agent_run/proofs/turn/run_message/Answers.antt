use Rattle.std.proofs.Common.{[], Err, ap, sym, ◌∙◌, refl, arith}
use Rattle.std.proofs.lemmas.Result.{err_from_is_err_and}
use Rattle.chk_agent.specs.declared.answers.Reply.{Reply}
use Rattle.chk_agent.proofs.TurningFaults.{last_wanting, last_same, last_then, last_ok}
use Rattle.chk_agent_run.specs.Turns.{unread}
use Rattle.chk_agent_run.proofs.Carried.{carried_by, carried_then, ends_with}
use Rattle.chk_agent_run.proofs.Controls.{broken_by, refused_by, answered_as, unanswered_as}
use Rattle.chk_agent_run.proofs.Turned.{process_on}
use Rattle.chk_agent_run.proofs.turn.run_message.Goals as goal

pub returns-in_err-message-clause-script : goal.returns-in_err-message-clause-script
returns-in_err-message-clause-script g c =
    let p = err_from_is_err_and c.from_residual.result c.from_residual.ensures.1 in
    rw (p.1, p.2) (unread c.in_err-message.field-0.0 c.in_err-message.ensures.read)

pub returns-in_err-message-clause-last : goal.returns-in_err-message-clause-last
returns-in_err-message-clause-last g c =
    let p = err_from_is_err_and c.from_residual.result c.from_residual.ensures.1 in
    last_wanting c.from_residual.result (p.1 ∙ ap Err (p.2 ∙ c.in_err-message.ensures.unmade)) (c.read_message.ensures.told [])

pub returns-in_default-clause-script : goal.returns-in_default-clause-script
returns-in_default-clause-script g c = broken_by c.args.who.now c.args.taking c.args.agent.now _ c.in_ok-message.ensures.read c.in_default.is

pub returns-in_default-clause-last : goal.returns-in_default-clause-last
returns-in_default-clause-last g c = last_ok (tt {0}) (c.read_message.ensures.told [])

pub returns-in_err-reply-clause-script : goal.returns-in_err-reply-clause-script
returns-in_err-reply-clause-script g c =
    let p = err_from_is_err_and c.from_residual-in_err-reply.result c.from_residual-in_err-reply.ensures.1 in
    rw (p.1, p.2)
    (refused_by c.args.who.now c.args.taking c.args.agent.now _ c.in_ok-message.ensures.read c.in-Some.message _ c.in-Some.is
    c.as_slice.ensures _ c.in_err-reply.field-0.0 c.in_err-reply.ensures.lines)

pub returns-in_err-reply-clause-told : goal.returns-in_err-reply-clause-told
returns-in_err-reply-clause-told g c =
    ends_with c.args.agent.now c.args.agent.now c.run_lines.new.agent
    (carried_by _ _ refl c.requires.ready c.requires.ready c.read_message.ensures.told) c.run_lines.ensures.told

pub returns-in_err-reply-clause-last : goal.returns-in_err-reply-clause-last
returns-in_err-reply-clause-last g c =
    let p = err_from_is_err_and c.from_residual-in_err-reply.result c.from_residual-in_err-reply.ensures.1 in
    last_then c.from_residual-in_err-reply.result (c.read_message.ensures.told [])
    (last_same Reply c.from_residual-in_err-reply.result c.in_err-reply.field-0.0 (p.1 ∙ ap Err p.2) c.in_err-reply.ensures.last)

pub answer-requires : goal.answer-requires
answer-requires g c = record {
  ready = c.in_ok-reply.ensures.ready;
  who = process_on c.args.who.now c.args.agent.now c.run_lines.new.agent c.requires.who c.run_lines.ensures.source;
}

pub returns-in_err-answer-clause-script : goal.returns-in_err-answer-clause-script
returns-in_err-answer-clause-script g c =
    let p = err_from_is_err_and c.from_residual-in_err-answer.result c.from_residual-in_err-answer.ensures.1 in
    rw (p.1, p.2)
    (unanswered_as c.args.who.now c.args.taking c.args.agent.now _ c.in_ok-message.ensures.read c.in-Some.message _ c.in-Some.is
    c.as_slice.ensures _ c.in_ok-reply.reply c.in_ok-reply.ensures.lines _ c.as_slice-2.ensures c.in_err-answer.field-0.0
    c.in_err-answer.ensures.made)

pub returns-in_err-answer-clause-told : goal.returns-in_err-answer-clause-told
returns-in_err-answer-clause-told g c =
    ends_with c.args.agent.now c.run_lines.new.agent c.run_lines.new.agent
    (carried_then _ _ _ (carried_by _ _ refl c.requires.ready c.requires.ready c.read_message.ensures.told)
    (carried_by _ _ c.run_lines.ensures.source c.requires.ready c.in_ok-reply.ensures.ready c.run_lines.ensures.told))
    c.answer.ensures.told

pub returns-in_err-answer-clause-last : goal.returns-in_err-answer-clause-last
returns-in_err-answer-clause-last g c =
    let p = err_from_is_err_and c.from_residual-in_err-answer.result c.from_residual-in_err-answer.ensures.1 in
    last_wanting c.from_residual-in_err-answer.result (p.1 ∙ ap Err (p.2 ∙ c.in_err-answer.ensures.unmade))
    (returns-in_err-answer-clause-told g c [])

pub returns-clause-script : goal.returns-clause-script
returns-clause-script g c =
    rw c.behind.ensures
    (answered_as c.args.who.now c.args.taking c.args.agent.now _ c.in_ok-message.ensures.read c.in-Some.message _ c.in-Some.is
    c.as_slice.ensures _ c.in_ok-reply.reply c.in_ok-reply.ensures.lines _ c.as_slice-2.ensures c.in_ok-answer.ensures.made)

pub returns-clause-told : goal.returns-clause-told
returns-clause-told g c =
    ends_with c.args.agent.now c.run_lines.new.agent c.run_lines.new.agent
    (carried_then _ _ _ (carried_by _ _ refl c.requires.ready c.requires.ready c.read_message.ensures.told)
    (carried_by _ _ c.run_lines.ensures.source c.requires.ready c.in_ok-reply.ensures.ready c.run_lines.ensures.told))
    c.answer.ensures.told

pub returns-clause-last : goal.returns-clause-last
returns-clause-last g c = last_ok (tt {0}) (returns-clause-told g c [])
