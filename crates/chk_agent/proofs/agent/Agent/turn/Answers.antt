use Rattle.std.proofs.Common.{Bool, Ok, Err, [], ap, sym, subst, ◌∙◌}
use Rattle.std.proofs.lemmas.Result.{err_from_is_err_and}
use Rattle.chk_agent.specs.declared.answers.Settled.{Settled}
use Rattle.chk_agent.specs.Turns.{IsTurned, unfilled, unposted, unanswered, unpolled, unsettled}
use Rattle.chk_agent.specs.Turns.{turned}
use Rattle.chk_agent.proofs.TurningFaults.{is_wanting, last_wanting, last_same, last_then, last_ok}
use Rattle.chk_agent.proofs.TurningTold.{filled_same, posts_same, replies_same, due_same, told_1}
use Rattle.chk_agent.proofs.TurningTold.{told_2, told_3, told_4, told_5}
use Rattle.chk_agent.proofs.agent.Agent.turn.Goals as goal

pub returns-in_err-_filled-clause-state : goal.returns-in_err-_filled-clause-state
returns-in_err-_filled-clause-state g c =
    let p = err_from_is_err_and c.from_residual.result c.from_residual.ensures.1 in
    rw (p.1, p.2)
    (unfilled c.in_err-_filled.field-0.0 c.in_err-_filled.ensures.state)

pub returns-in_err-_filled-clause-told : goal.returns-in_err-_filled-clause-told
returns-in_err-_filled-clause-told g c =
    told_1 c.args.self.now c.fill_noting.new.self
    (filled_same c.in_err-_filled.ensures.state) c.fill_noting.ensures.told

pub post-requires : goal.post-requires
post-requires g c = record {
  ready = (filled_same c.in_ok-_filled.ensures.state).ready
      ∙ c.requires.ready;
}

pub returns-in_err-_posted-clause-state : goal.returns-in_err-_posted-clause-state
returns-in_err-_posted-clause-state g c =
    let p = err_from_is_err_and c.from_residual-in_err-_posted.result
    c.from_residual-in_err-_posted.ensures.1 in
    rw (p.1, p.2)
    (unposted c.in_ok-_filled._filled c.in_err-_posted.field-0.0 c.in_ok-_filled.ensures.state
    c.in_err-_posted.ensures.state)

pub returns-in_err-_posted-clause-told : goal.returns-in_err-_posted-clause-told
returns-in_err-_posted-clause-told g c =
    told_2 c.args.self.now c.fill_noting.new.self
    (filled_same c.in_ok-_filled.ensures.state) c.fill_noting.ensures.told
    c.post.new.self (posts_same c.in_err-_posted.ensures.state) c.post.ensures.told

pub returns-in_err-_posted-clause-last : goal.returns-in_err-_posted-clause-last
returns-in_err-_posted-clause-last g c =
    let p = err_from_is_err_and c.from_residual-in_err-_posted.result
    c.from_residual-in_err-_posted.ensures.1 in
    let made = c.in_err-_posted.ensures.state in
    last_wanting c.from_residual-in_err-_posted.result (p.1 ∙ ap Err (p.2
    ∙ is_wanting made.given c.in_err-_posted.field-0.0 made.result_is))
    (returns-in_err-_posted-clause-told g c [])

pub post_reply-requires : goal.post_reply-requires
post_reply-requires g c = record {
  ready = (posts_same c.in_ok-_posted.ensures.state).ready
      ∙ ((filled_same c.in_ok-_filled.ensures.state).ready ∙ c.requires.ready);
}

pub returns-in_err-_answered-clause-state : goal.returns-in_err-_answered-clause-state
returns-in_err-_answered-clause-state g c =
    let p = err_from_is_err_and c.from_residual-in_err-_answered.result
    c.from_residual-in_err-_answered.ensures.1 in
    rw (p.1, p.2)
    (unanswered c.in_ok-_filled._filled c.in_ok-_posted._posted c.in_err-_answered.field-0.0
    c.in_ok-_filled.ensures.state c.in_ok-_posted.ensures.state
    c.in_err-_answered.ensures.state)

pub returns-in_err-_answered-clause-told : goal.returns-in_err-_answered-clause-told
returns-in_err-_answered-clause-told g c =
    told_3 c.args.self.now c.fill_noting.new.self
    (filled_same c.in_ok-_filled.ensures.state) c.fill_noting.ensures.told
    c.post.new.self (posts_same c.in_ok-_posted.ensures.state) c.post.ensures.told
    c.post_reply.new.self (replies_same c.in_err-_answered.ensures.state) c.post_reply.ensures.told

pub returns-in_err-_answered-clause-last : goal.returns-in_err-_answered-clause-last
returns-in_err-_answered-clause-last g c =
    let p = err_from_is_err_and c.from_residual-in_err-_answered.result
    c.from_residual-in_err-_answered.ensures.1 in
    let made = c.in_err-_answered.ensures.state in
    last_wanting c.from_residual-in_err-_answered.result (p.1 ∙ ap Err (p.2
    ∙ is_wanting made.given c.in_err-_answered.field-0.0 made.result_is))
    (returns-in_err-_answered-clause-told g c [])

pub poll_if_due-requires : goal.poll_if_due-requires
poll_if_due-requires g c = record {
  ready = (replies_same c.in_ok-_answered.ensures.state).ready
      ∙ ((posts_same c.in_ok-_posted.ensures.state).ready
      ∙ ((filled_same c.in_ok-_filled.ensures.state).ready ∙ c.requires.ready));
}

pub returns-in_err-poll_if_due-clause-state : goal.returns-in_err-poll_if_due-clause-state
returns-in_err-poll_if_due-clause-state g c =
    let p = err_from_is_err_and c.from_residual-in_err-poll_if_due.result
    c.from_residual-in_err-poll_if_due.ensures.1 in
    rw (p.1, p.2)
    (unpolled c.in_ok-_filled._filled c.in_ok-_posted._posted c.in_ok-_answered._answered
    c.in_err-poll_if_due.field-0.0 c.in_ok-_filled.ensures.state c.in_ok-_posted.ensures.state
    c.in_ok-_answered.ensures.state c.in_err-poll_if_due.ensures.state)

pub returns-in_err-poll_if_due-clause-told : goal.returns-in_err-poll_if_due-clause-told
returns-in_err-poll_if_due-clause-told g c =
    told_4 c.args.self.now c.fill_noting.new.self
    (filled_same c.in_ok-_filled.ensures.state) c.fill_noting.ensures.told
    c.post.new.self (posts_same c.in_ok-_posted.ensures.state) c.post.ensures.told
    c.post_reply.new.self (replies_same c.in_ok-_answered.ensures.state) c.post_reply.ensures.told
    c.poll_if_due.new.self (due_same c.in_err-poll_if_due.ensures.state) c.poll_if_due.ensures.told

pub returns-in_err-poll_if_due-clause-last : goal.returns-in_err-poll_if_due-clause-last
returns-in_err-poll_if_due-clause-last g c =
    let p = err_from_is_err_and c.from_residual-in_err-poll_if_due.result
    c.from_residual-in_err-poll_if_due.ensures.1 in
    last_wanting c.from_residual-in_err-poll_if_due.result (p.1 ∙ ap Err (p.2
    ∙ c.in_err-poll_if_due.ensures.unmade)) (returns-in_err-poll_if_due-clause-told g c [])

pub settle-requires : goal.settle-requires
settle-requires g c = record {
  ready = (due_same c.in_ok-poll_if_due.ensures.state).ready
      ∙ ((replies_same c.in_ok-_answered.ensures.state).ready
      ∙ ((posts_same c.in_ok-_posted.ensures.state).ready
      ∙ ((filled_same c.in_ok-_filled.ensures.state).ready ∙ c.requires.ready)));
}

pub returns-in_err-_settled-clause-state : goal.returns-in_err-_settled-clause-state
returns-in_err-_settled-clause-state g c =
    let p = err_from_is_err_and c.from_residual-in_err-_settled.result
    c.from_residual-in_err-_settled.ensures.1 in
    rw (p.1, p.2)
    (unsettled c.in_ok-_filled._filled c.in_ok-_posted._posted c.in_ok-_answered._answered
    c.in_err-_settled.field-0.0 c.in_ok-_filled.ensures.state c.in_ok-_posted.ensures.state
    c.in_ok-_answered.ensures.state c.in_ok-poll_if_due.ensures.state
    c.in_err-_settled.ensures.state)

pub returns-in_err-_settled-clause-told : goal.returns-in_err-_settled-clause-told
returns-in_err-_settled-clause-told g c =
    told_5 c.args.self.now c.fill_noting.new.self
    (filled_same c.in_ok-_filled.ensures.state) c.fill_noting.ensures.told
    c.post.new.self (posts_same c.in_ok-_posted.ensures.state) c.post.ensures.told
    c.post_reply.new.self (replies_same c.in_ok-_answered.ensures.state) c.post_reply.ensures.told
    c.poll_if_due.new.self (due_same c.in_ok-poll_if_due.ensures.state) c.poll_if_due.ensures.told
    c.settle.new.self c.settle.ensures.told

pub returns-in_err-_settled-clause-last : goal.returns-in_err-_settled-clause-last
returns-in_err-_settled-clause-last g c =
    let p = err_from_is_err_and c.from_residual-in_err-_settled.result
    c.from_residual-in_err-_settled.ensures.1 in
    last_then c.from_residual-in_err-_settled.result (told_4 c.args.self.now c.fill_noting.new.self
    (filled_same c.in_ok-_filled.ensures.state) c.fill_noting.ensures.told
    c.post.new.self (posts_same c.in_ok-_posted.ensures.state) c.post.ensures.told
    c.post_reply.new.self (replies_same c.in_ok-_answered.ensures.state) c.post_reply.ensures.told
    c.poll_if_due.new.self (due_same c.in_ok-poll_if_due.ensures.state) c.poll_if_due.ensures.told
    [])
    (last_same Settled c.from_residual-in_err-_settled.result c.in_err-_settled.field-0.0 (p.1
    ∙ ap Err p.2) c.in_err-_settled.ensures.last)

pub returns-clause-state : goal.returns-clause-state
returns-clause-state g c =
    subst (λ b. IsTurned c.args.now c.args.self.now (Ok b) c.settle.new.self (g.S.Site.told c.args.site.now) (g.S.Site.told c.settle.new.site))
    (sym c.in_ok-_filled.ensures.full)
    (turned c.in_ok-_filled._filled c.in_ok-_posted._posted
    c.in_ok-_answered._answered c.in_ok-_settled._settled c.in_ok-_filled.ensures.state
    c.in_ok-_posted.ensures.state c.in_ok-_answered.ensures.state c.in_ok-poll_if_due.ensures.state
    c.in_ok-_settled.ensures.state)

pub returns-clause-told : goal.returns-clause-told
returns-clause-told g c =
    told_5 c.args.self.now c.fill_noting.new.self
    (filled_same c.in_ok-_filled.ensures.state) c.fill_noting.ensures.told
    c.post.new.self (posts_same c.in_ok-_posted.ensures.state) c.post.ensures.told
    c.post_reply.new.self (replies_same c.in_ok-_answered.ensures.state) c.post_reply.ensures.told
    c.poll_if_due.new.self (due_same c.in_ok-poll_if_due.ensures.state) c.poll_if_due.ensures.told
    c.settle.new.self c.settle.ensures.told

pub returns-clause-last : goal.returns-clause-last
returns-clause-last g c = last_ok {T = Bool} c.fill_noting.new.full (returns-clause-told g c [])
