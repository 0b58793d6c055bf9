use Rattle.std.proofs.Common.{Result, Ok, Err, ap, sym, ◌∙◌, subst, arith}
use Rattle.std.proofs.lemmas.Result.{err_from_is_err_and}
use Rattle.chk_round.specs.declared.faults.RoundFault.{RoundFault}
use Rattle.chk_agent.specs.declared.answers.Settled.{Settled}
use Rattle.chk_agent.specs.States.{process}
use Rattle.chk_round.specs.Faults.{RoundCause, of_agent}
use Rattle.chk_round.specs.Polling.{HasFree}
use Rattle.chk_round.proofs.Delivers.{agent_call, delivered, delivered_logs, settle_ends}
use Rattle.chk_round.proofs.Ends.{agent_cause, agent_last, late_cause}
use Rattle.chk_round.proofs.Joining.{joint_then, still_c}
use Rattle.chk_round.proofs.NonePast.{quiet_none_past, sends_then}
use Rattle.chk_round.proofs.OwnRows.{own_plain, own_then}
use Rattle.chk_round.proofs.Polls.{starts_then}
use Rattle.chk_round.proofs.Lasting.{inside_late, last_inside, went_then}
use Rattle.chk_round.proofs.NoRead.{agent_no_read, agent_plain, agent_shown, work_late}
use Rattle.chk_round.proofs.Acts.{rest_then, settle_acts}
use Rattle.chk_round.proofs.delivering.deliver.Goals as goal

pub post_rest-requires : goal.post_rest-requires
post_rest-requires g c = record {
  started = c.requires.started;
  named = c.requires.named;
  ready = c.requires.ready;
  address = c.requires.address;
}

pub returns-in_err-post_rest-clause-joint : goal.returns-in_err-post_rest-clause-joint
returns-in_err-post_rest-clause-joint g c stamped started acting run =
    let p = err_from_is_err_and c.from_residual.result c.from_residual.ensures.1 in
    rw (p.1, p.2) (c.in_err-post_rest.ensures.joint stamped started acting run)

pub returns-in_err-post_rest-clause-cause : goal.returns-in_err-post_rest-clause-cause
returns-in_err-post_rest-clause-cause g c =
    let p = err_from_is_err_and c.from_residual.result c.from_residual.ensures.1 in
    subst (λ (r : Result (Unit {0}) RoundFault). RoundCause (g.S.Site.fault_count c.args.site.now)
    (g.S.Site.fault_count c.post_rest.new.site) r) (sym (p.1 ∙ ap Err p.2)) c.in_err-post_rest.ensures.cause

pub commit_rows-requires : goal.commit_rows-requires
commit_rows-requires g c =
    let all = c.in_ok-post_rest.ensures.all in
    record {
      started = still_c c.args.collecting.now c.args.collector.now c.post_rest.new.collector c.requires.started
          c.post_rest.ensures.same.collector;
      named = c.requires.named;
      ready = all.same.ready ∙ c.requires.ready;
      address = all.same.rest.addresses ∙ c.requires.address;
      few = (let most = c.most_rows-rows.ensures.most in omega (arith, most));
    }

pub returns-in_err-commit_rows-clause-joint : goal.returns-in_err-commit_rows-clause-joint
returns-in_err-commit_rows-clause-joint g c stamped started acting run =
    let p = err_from_is_err_and c.from_residual-in_err-commit_rows.result c.from_residual-in_err-commit_rows.ensures.1 in
    let all = c.in_ok-post_rest.ensures.all in
    rw (p.1, p.2)
    (joint_then c.args.collector.now c.post_rest.new.collector c.commit_rows.new.collector c.args.agent.now c.post_rest.new.agent
    c.commit_rows.new.agent (Err c.in_err-commit_rows.field-0.0) c.post_rest.ensures.same.collector all.same.source
    c.in_ok-post_rest.ensures.joint c.in_err-commit_rows.ensures.joint stamped started acting run)

pub returns-in_err-commit_rows-clause-same : goal.returns-in_err-commit_rows-clause-same
returns-in_err-commit_rows-clause-same g c =
    starts_then c.args.collector.now c.post_rest.new.collector c.commit_rows.new.collector c.post_rest.ensures.same c.commit_rows.ensures.same

pub returns-in_err-commit_rows-clause-cause : goal.returns-in_err-commit_rows-clause-cause
returns-in_err-commit_rows-clause-cause g c =
    let p = err_from_is_err_and c.from_residual-in_err-commit_rows.result c.from_residual-in_err-commit_rows.ensures.1 in
    subst (λ (r : Result (Unit {0}) RoundFault). RoundCause (g.S.Site.fault_count c.args.site.now)
    (g.S.Site.fault_count c.commit_rows.new.site) r) (sym (p.1 ∙ ap Err p.2))
    (late_cause (Unit {0}) (Unit {0}) _ _ _ c.in_err-commit_rows.field-0.0 c.in_ok-post_rest.ensures.cause
    c.in_err-commit_rows.ensures.cause)

pub settle-requires : goal.settle-requires
settle-requires g c = record {
  ready = c.in_ok-commit_rows.ensures.free.same.ready ∙ (c.in_ok-post_rest.ensures.all.same.ready ∙ c.requires.ready);
}

pub returns-in_err-_settled-clause-joint : goal.returns-in_err-_settled-clause-joint
returns-in_err-_settled-clause-joint g c stamped started acting run =
    let p = err_from_is_err_and c.from_residual-in_err-_settled.result c.from_residual-in_err-_settled.ensures.1 in
    let all = c.in_ok-post_rest.ensures.all in
    let free = c.in_ok-commit_rows.ensures.free in
    rw (p.1, p.2)
    (joint_then c.args.collector.now c.post_rest.new.collector c.commit_rows.new.collector c.args.agent.now c.post_rest.new.agent
    c.settle.new.self (Err (of_agent c.in_err-_settled.field-0.0)) c.post_rest.ensures.same.collector all.same.source
    c.in_ok-post_rest.ensures.joint
    (joint_then c.post_rest.new.collector c.commit_rows.new.collector c.commit_rows.new.collector c.post_rest.new.agent
    c.commit_rows.new.agent c.settle.new.self (Err (of_agent c.in_err-_settled.field-0.0)) c.commit_rows.ensures.same.collector
    free.same.source c.in_ok-commit_rows.ensures.joint
    (settle_ends c.commit_rows.new.collector c.commit_rows.new.agent c.settle.new.self c.settle.ensures.told
    c.in_err-_settled.field-0.0 c.in_err-_settled.ensures.undamaged)) stamped started acting run)

pub returns-in_err-_settled-clause-same : goal.returns-in_err-_settled-clause-same
returns-in_err-_settled-clause-same g c =
    starts_then c.args.collector.now c.post_rest.new.collector c.commit_rows.new.collector c.post_rest.ensures.same c.commit_rows.ensures.same

pub returns-in_err-_settled-clause-cause : goal.returns-in_err-_settled-clause-cause
returns-in_err-_settled-clause-cause g c =
    let p = err_from_is_err_and c.from_residual-in_err-_settled.result c.from_residual-in_err-_settled.ensures.1 in
    let one = c.in_ok-post_rest.ensures.cause in
    let two = c.in_ok-commit_rows.ensures.cause in
    subst (λ (r : Result (Unit {0}) RoundFault). RoundCause (g.S.Site.fault_count c.args.site.now)
    (g.S.Site.fault_count c.settle.new.site) r) (sym (p.1 ∙ ap Err p.2))
    (agent_cause (Unit {0}) Settled _ _ _ c.in_err-_settled.field-0.0 (omega (arith, one, two)) c.in_err-_settled.ensures.cause)

pub returns-clause-joint : goal.returns-clause-joint
returns-clause-joint g c =
    let all = c.in_ok-post_rest.ensures.all in
    let free = c.in_ok-commit_rows.ensures.free in
    joint_then c.args.collector.now c.post_rest.new.collector c.commit_rows.new.collector c.args.agent.now c.post_rest.new.agent
    c.settle.new.self (Ok tt) c.post_rest.ensures.same.collector all.same.source
    c.in_ok-post_rest.ensures.joint
    (joint_then c.post_rest.new.collector c.commit_rows.new.collector c.commit_rows.new.collector c.post_rest.new.agent
    c.commit_rows.new.agent c.settle.new.self (Ok tt) c.commit_rows.ensures.same.collector
    free.same.source c.in_ok-commit_rows.ensures.joint
    (agent_call c.commit_rows.new.collector c.commit_rows.new.agent c.settle.new.self c.settle.ensures.told))

pub returns-clause-all : goal.returns-clause-all
returns-clause-all g c =
    delivered c.args.now c.args.agent.now c.post_rest.new.agent c.commit_rows.new.agent c.settle.new.self
    c.in_ok-post_rest.ensures.all
    (subst (λ n. HasFree n c.post_rest.new.agent c.commit_rows.new.agent) c.most_rows-rows.ensures.most c.in_ok-commit_rows.ensures.free)
    (let most = c.most_rows-rows.ensures.most in let some = c.most_rows-rows.ensures.some in omega (arith, most, some))
    c.free_rows-sound.ensures.sound c.free_rows-sound.ensures.table c.requires.ready c.in_ok-_settled.ensures.state

pub returns-clause-same : goal.returns-clause-same
returns-clause-same g c =
    starts_then c.args.collector.now c.post_rest.new.collector c.commit_rows.new.collector c.post_rest.ensures.same c.commit_rows.ensures.same

pub returns-clause-cause : goal.returns-clause-cause
returns-clause-cause g c =
    let one = c.in_ok-post_rest.ensures.cause in
    let two = c.in_ok-commit_rows.ensures.cause in
    let three = c.in_ok-_settled.ensures.cause in
    omega (arith, one, two, three)

pub returns-clause-sends : goal.returns-clause-sends
returns-clause-sends g c stamped started s end one low =
    let x = c.in_ok-post_rest.ensures.sends stamped started s end one low in
    let y = c.in_ok-commit_rows.ensures.sends stamped started s end one x.1 in
    sends_then s end stamped started (sends_then s end stamped started x.0 y.0)
    (quiet_none_past s end stamped started one (process c.commit_rows.new.agent) (c.settle.ensures.told stamped))

pub returns-clause-live : goal.returns-clause-live
returns-clause-live g c =
    delivered_logs c.args.now c.args.agent.now c.post_rest.new.agent c.commit_rows.new.agent c.settle.new.self
    c.in_ok-post_rest.ensures.all
    (subst (λ n. HasFree n c.post_rest.new.agent c.commit_rows.new.agent) c.most_rows-rows.ensures.most c.in_ok-commit_rows.ensures.free)
    (let most = c.most_rows-rows.ensures.most in let some = c.most_rows-rows.ensures.some in omega (arith, most, some))
    c.free_rows-sound.ensures.sound c.in_ok-_settled.ensures.state

pub returns-in_err-post_rest-clause-last : goal.returns-in_err-post_rest-clause-last
returns-in_err-post_rest-clause-last g c =
    let p = err_from_is_err_and c.from_residual.result c.from_residual.ensures.1 in
    rw (p.1, p.2) (c.in_err-post_rest.ensures.last)

pub returns-in_err-commit_rows-clause-last : goal.returns-in_err-commit_rows-clause-last
returns-in_err-commit_rows-clause-last g c =
    let p = err_from_is_err_and c.from_residual-in_err-commit_rows.result c.from_residual-in_err-commit_rows.ensures.1 in
    rw (p.1, p.2) (inside_late (Unit {0}) (Unit {0}) c.in_err-commit_rows.field-0.0 c.in_ok-post_rest.ensures.last c.in_err-commit_rows.ensures.last)

pub returns-in_err-_settled-clause-last : goal.returns-in_err-_settled-clause-last
returns-in_err-_settled-clause-last g c =
    let p = err_from_is_err_and c.from_residual-in_err-_settled.result c.from_residual-in_err-_settled.ensures.1 in
    rw (p.1, p.2) (inside_late (Unit {0}) (Unit {0}) (of_agent c.in_err-_settled.field-0.0)
    (went_then c.in_ok-post_rest.ensures.last c.in_ok-commit_rows.ensures.last)
    (last_inside (Unit {0}) (Unit {0}) (of_agent c.in_err-_settled.field-0.0)
    (agent_last (Unit {0}) Settled c.in_err-_settled.field-0.0 c.in_err-_settled.ensures.last)))

pub returns-clause-last : goal.returns-clause-last
returns-clause-last g c =
    went_then (went_then c.in_ok-post_rest.ensures.last c.in_ok-commit_rows.ensures.last) c.in_ok-_settled.ensures.last

pub returns-in_err-post_rest-clause-only : goal.returns-in_err-post_rest-clause-only
returns-in_err-post_rest-clause-only g c =
    let p = err_from_is_err_and c.from_residual.result c.from_residual.ensures.1 in
    rw (p.1, p.2) (c.in_err-post_rest.ensures.only)

pub returns-in_err-commit_rows-clause-only : goal.returns-in_err-commit_rows-clause-only
returns-in_err-commit_rows-clause-only g c =
    let p = err_from_is_err_and c.from_residual-in_err-commit_rows.result c.from_residual-in_err-commit_rows.ensures.1 in
    rw (p.1, p.2) (c.in_err-commit_rows.ensures.only)

pub returns-in_err-_settled-clause-only : goal.returns-in_err-_settled-clause-only
returns-in_err-_settled-clause-only g c =
    let p = err_from_is_err_and c.from_residual-in_err-_settled.result c.from_residual-in_err-_settled.ensures.1 in
    rw (p.1, p.2) (agent_no_read c.in_err-_settled.field-0.0)

pub returns-in_err-post_rest-clause-shown : goal.returns-in_err-post_rest-clause-shown
returns-in_err-post_rest-clause-shown g c =
    let p = err_from_is_err_and c.from_residual.result c.from_residual.ensures.1 in
    rw (p.1, p.2) (c.in_err-post_rest.ensures.shown)

pub returns-in_err-commit_rows-clause-shown : goal.returns-in_err-commit_rows-clause-shown
returns-in_err-commit_rows-clause-shown g c =
    let p = err_from_is_err_and c.from_residual-in_err-commit_rows.result c.from_residual-in_err-commit_rows.ensures.1 in
    rw (p.1, p.2) (work_late (Unit {0}) (Unit {0}) c.in_err-commit_rows.field-0.0 (g.S.Site.told c.commit_rows.new.site) c.in_ok-post_rest.ensures.last c.in_err-commit_rows.ensures.shown)

pub returns-in_err-_settled-clause-shown : goal.returns-in_err-_settled-clause-shown
returns-in_err-_settled-clause-shown g c =
    let p = err_from_is_err_and c.from_residual-in_err-_settled.result c.from_residual-in_err-_settled.ensures.1 in
    rw (p.1, p.2) (agent_shown (Unit {0}) Settled c.in_err-_settled.field-0.0 c.in_err-_settled.ensures.undamaged
    (g.S.Site.told c.args.site.now) (g.S.Site.told c.settle.new.site))

pub returns-in_err-post_rest-clause-acts : goal.returns-in_err-post_rest-clause-acts
returns-in_err-post_rest-clause-acts g c = c.post_rest.ensures.acts

pub returns-in_err-commit_rows-clause-acts : goal.returns-in_err-commit_rows-clause-acts
returns-in_err-commit_rows-clause-acts g c = rest_then c.post_rest.ensures.acts c.commit_rows.ensures.acts

pub returns-in_err-_settled-clause-acts : goal.returns-in_err-_settled-clause-acts
returns-in_err-_settled-clause-acts g c =
    rest_then (rest_then c.post_rest.ensures.acts c.commit_rows.ensures.acts) (settle_acts c.in_err-_settled.ensures.state)

pub returns-clause-acts : goal.returns-clause-acts
returns-clause-acts g c =
    rest_then (rest_then c.post_rest.ensures.acts c.commit_rows.ensures.acts) (settle_acts c.in_ok-_settled.ensures.state)

pub returns-in_err-post_rest-clause-rows : goal.returns-in_err-post_rest-clause-rows
returns-in_err-post_rest-clause-rows g c =
    let p = err_from_is_err_and c.from_residual.result c.from_residual.ensures.1 in
    rw (p.1, p.2) (c.in_err-post_rest.ensures.rows)

pub returns-in_err-commit_rows-clause-rows : goal.returns-in_err-commit_rows-clause-rows
returns-in_err-commit_rows-clause-rows g c =
    let p = err_from_is_err_and c.from_residual-in_err-commit_rows.result c.from_residual-in_err-commit_rows.ensures.1 in
    rw (p.1, p.2)
    (own_then c.args.collector.now c.post_rest.new.collector c.commit_rows.new.collector c.args.agent.now c.post_rest.new.agent
    c.commit_rows.new.agent (Err c.in_err-commit_rows.field-0.0) c.post_rest.ensures.same.collector
    c.in_ok-post_rest.ensures.all.same.source c.in_ok-post_rest.ensures.rows c.in_ok-post_rest.ensures.joint
    c.in_err-commit_rows.ensures.rows)

pub returns-in_err-_settled-clause-rows : goal.returns-in_err-_settled-clause-rows
returns-in_err-_settled-clause-rows g c =
    let p = err_from_is_err_and c.from_residual-in_err-_settled.result c.from_residual-in_err-_settled.ensures.1 in
    rw (p.1, p.2)
    (own_plain c.args.collector.now c.commit_rows.new.collector c.args.agent.now c.settle.new.self
    (of_agent c.in_err-_settled.field-0.0)
    (rest_then (rest_then c.post_rest.ensures.acts c.commit_rows.ensures.acts) (settle_acts c.in_err-_settled.ensures.state))
    (agent_plain c.in_err-_settled.field-0.0))
