use Rattle.std.proofs.Common.{[], ap, sym, subst, ◌∙◌, refl, arith}
use Rattle.std.proofs.lemmas.Result.{err_from_is_err_and}
use Rattle.chk_sink.specs.States.{process}
use Rattle.chk_round.specs.Faults.{of_sinks}
use Rattle.chk_round.specs.Lengths.{HasCommitted}
use Rattle.chk_round.proofs.Lengths.{ticked_all}
use Rattle.chk_round.proofs.Ends.{later_cause, sinks_last}
use Rattle.chk_round.proofs.Joining.{joint_then, tick_ends, tick_goes}
use Rattle.chk_round.proofs.OwnRows.{own_plain, own_then, own_tick}
use Rattle.chk_round.proofs.Polls.{starts_then}
use Rattle.chk_round.proofs.NonePast.{quiet_none_past}
use Rattle.chk_round.proofs.Sent.{on_ok, sends_on_then}
use Rattle.chk_round.proofs.Lasting.{inside_then, last_inside}
use Rattle.chk_round.proofs.NoRead.{sinks_no_read, sinks_plain, sinks_shown, work_then}
use Rattle.chk_round.proofs.Acts.{rest_then, tick_acts}
use Rattle.chk_round.proofs.polling.commit_rows.Goals as goal

pub returns-in_err-tick-clause-joint : goal.returns-in_err-tick-clause-joint
returns-in_err-tick-clause-joint g c stamped started acting run =
    let p = err_from_is_err_and c.from_residual.result c.from_residual.ensures.1 in
    rw (p.1, p.2)
    (tick_ends c.args.collector.now c.tick.new.self c.args.agent.now c.ready-sound.ensures.sound c.tick.ensures.same.collector
    c.in_err-tick.field-0.0 c.in_err-tick.ensures.only c.in_err-tick.ensures.told stamped started acting run)

pub poll_until_free-requires : goal.poll_until_free-requires
poll_until_free-requires g c = record {
  started = c.requires.started ∙ ap (λ n. record (process c.args.collector.now) { name = n }) (sym c.tick.ensures.same.collector);
  named = c.requires.named;
  ready = c.requires.ready;
  address = c.requires.address;
  few = c.requires.few;
  committed = subst HasCommitted (sym c.in_ok-tick.ensures.ok) (ticked_all c.args.now c.args.collector.now);
}

pub returns-clause-joint : goal.returns-clause-joint
returns-clause-joint g c =
    joint_then c.args.collector.now c.tick.new.self c.poll_until_free.new.collector c.args.agent.now c.args.agent.now
    c.poll_until_free.new.agent c.poll_until_free.result c.tick.ensures.same.collector refl
    (tick_goes c.args.collector.now c.tick.new.self c.args.agent.now c.ready-sound.ensures.sound c.tick.ensures.same.collector
    c.args.now c.in_ok-tick.ensures.ok c.in_ok-tick.ensures.closes c.in_ok-tick.ensures.told) c.poll_until_free.ensures.joint

pub returns-clause-same : goal.returns-clause-same
returns-clause-same g c =
    starts_then c.args.collector.now c.tick.new.self c.poll_until_free.new.collector c.tick.ensures.same c.poll_until_free.ensures.same

pub returns-clause-cause : goal.returns-clause-cause
returns-clause-cause g c =
    let same = c.in_ok-tick.ensures.cause in
    later_cause c.poll_until_free.result _ _ _ (omega (arith, same)) c.poll_until_free.ensures.cause

pub returns-clause-sends : goal.returns-clause-sends
returns-clause-sends g c =
    on_ok c.poll_until_free.result
    (sends_on_then c.args.agent.now c.args.agent.now c.poll_until_free.new.agent
    (λ stamped started s end one low.
    (quiet_none_past s end stamped started one (process c.args.collector.now) (c.in_ok-tick.ensures.told stamped), low)))
    c.poll_until_free.ensures.sends

pub returns-in_err-tick-clause-last : goal.returns-in_err-tick-clause-last
returns-in_err-tick-clause-last g c =
    let p = err_from_is_err_and c.from_residual.result c.from_residual.ensures.1 in
    rw (p.1, p.2) (last_inside (Unit {0}) (Unit {0}) (of_sinks c.in_err-tick.field-0.0) (sinks_last (Unit {0}) (Unit {0}) c.in_err-tick.field-0.0 c.in_err-tick.ensures.last))

pub returns-clause-last : goal.returns-clause-last
returns-clause-last g c = inside_then c.poll_until_free.result (c.in_ok-tick.ensures.told []) c.poll_until_free.ensures.last

pub returns-in_err-tick-clause-only : goal.returns-in_err-tick-clause-only
returns-in_err-tick-clause-only g c =
    let p = err_from_is_err_and c.from_residual.result c.from_residual.ensures.1 in
    rw (p.1, p.2) (sinks_no_read c.in_err-tick.field-0.0)

pub returns-in_err-tick-clause-shown : goal.returns-in_err-tick-clause-shown
returns-in_err-tick-clause-shown g c =
    let p = err_from_is_err_and c.from_residual.result c.from_residual.ensures.1 in
    rw (p.1, p.2) (sinks_shown (Unit {0}) c.args.collector.now c.in_err-tick.field-0.0 c.in_err-tick.ensures.only
    c.in_err-tick.ensures.own c.in_err-tick.ensures.damaged)

pub returns-clause-shown : goal.returns-clause-shown
returns-clause-shown g c = work_then c.poll_until_free.result (g.S.Site.told c.poll_until_free.new.site) (c.in_ok-tick.ensures.told []) c.poll_until_free.ensures.shown

pub returns-in_err-tick-clause-acts : goal.returns-in_err-tick-clause-acts
returns-in_err-tick-clause-acts g c = tick_acts c.args.collector.now c.tick.ensures.own

pub returns-clause-acts : goal.returns-clause-acts
returns-clause-acts g c = rest_then (tick_acts c.args.collector.now c.tick.ensures.own) c.poll_until_free.ensures.acts

pub returns-in_err-tick-clause-rows : goal.returns-in_err-tick-clause-rows
returns-in_err-tick-clause-rows g c stamped started acting run =
    let p = err_from_is_err_and c.from_residual.result c.from_residual.ensures.1 in
    rw (p.1, p.2)
    (own_plain c.args.collector.now c.tick.new.self c.args.agent.now c.args.agent.now (of_sinks c.in_err-tick.field-0.0)
    (c.in_err-tick.ensures.told [])
    (sinks_plain c.in_err-tick.field-0.0) stamped started acting run)

pub returns-clause-rows : goal.returns-clause-rows
returns-clause-rows g c =
    own_then c.args.collector.now c.tick.new.self c.poll_until_free.new.collector c.args.agent.now c.args.agent.now
    c.poll_until_free.new.agent c.poll_until_free.result c.tick.ensures.same.collector refl
    (own_tick c.args.collector.now c.tick.new.self c.args.agent.now c.tick.ensures.same (c.in_ok-tick.ensures.told []))
    (tick_goes c.args.collector.now c.tick.new.self c.args.agent.now c.ready-sound.ensures.sound c.tick.ensures.same.collector
    c.args.now c.in_ok-tick.ensures.ok c.in_ok-tick.ensures.closes c.in_ok-tick.ensures.told) c.poll_until_free.ensures.rows
