use Rattle.std.proofs.Common.{Result, Err, ap, sym, ◌∙◌, subst, arith}
use Rattle.std.proofs.lemmas.Result.{err_from_is_err_and}
use Rattle.chk_sink.specs.States.{process}
use Rattle.chk_round.specs.declared.faults.RoundFault.{RoundFault}
use Rattle.chk_round.specs.Faults.{RoundCause}
use Rattle.chk_round.proofs.Ends.{late_cause}
use Rattle.chk_round.proofs.LastPolls.{until_ends}
use Rattle.chk_round.proofs.OwnRows.{own_once, own_polls}
use Rattle.chk_round.proofs.Polls.{may_ask, polling_none, starts_then, talked_more, talked_own}
use Rattle.chk_round.proofs.Lasting.{inside_late, went}
use Rattle.chk_round.specs.Lengths.{PollsOn}
use Rattle.chk_round.proofs.NoRead.{once_shown}
use Rattle.chk_round.proofs.Acts.{rest_then}
use Rattle.chk_round.proofs.polling.poll_until_free.Goals as goal

pub polls-init : goal.polls-init
polls-init g c =
    polling_none c.args.collecting.now c.args.collector.now c.args.agent.now (g.S.Site.told c.args.site.now) (g.S.Site.fault_count c.args.site.now)

pub poll_whole-requires : goal.poll_whole-requires
poll_whole-requires g c =
    let so = c.polls.invariant.talked in
    let free = c.free_rows.ensures.free in
    let test = c.polls-test.true in
    record {
      started = c.requires.started ∙ ap (λ n. record (process c.args.collector.now) { name = n }) (sym so.starts.collector);
      named = c.requires.named;
      ready = so.same.ready ∙ c.requires.ready;
      address = so.same.rest.addresses ∙ c.requires.address;
      some = may_ask c.args.agent.now c.polls.agent c.args.wanted so.same c.requires.few (omega (arith, free, test))
          c.free_rows.ensures.table;
    }

pub returns-in_err-poll_whole-clause-joint : goal.returns-in_err-poll_whole-clause-joint
returns-in_err-poll_whole-clause-joint g c =
    let p = err_from_is_err_and c.from_residual.result c.from_residual.ensures.1 in
    let so = c.polls.invariant.talked in
    rw (p.1, p.2)
    (until_ends c.args.collecting.now c.args.collector.now c.polls.collector c.poll_whole.new.collector
    c.args.agent.now c.polls.agent c.poll_whole.new.agent c.requires.started so.starts.collector so.same.source
    c.requires.named c.poll_whole.ensures.same c.requires.ready c.requires.committed c.polls.invariant.on so.joint
    c.in_err-poll_whole.field-0.0 c.in_err-poll_whole.ensures.polls c.in_err-poll_whole.ensures.least
    c.in_err-poll_whole.ensures.joint)

pub returns-in_err-poll_whole-clause-same : goal.returns-in_err-poll_whole-clause-same
returns-in_err-poll_whole-clause-same g c =
    starts_then c.args.collector.now c.polls.collector c.poll_whole.new.collector c.polls.invariant.talked.starts
    c.poll_whole.ensures.same

pub returns-in_err-poll_whole-clause-cause : goal.returns-in_err-poll_whole-clause-cause
returns-in_err-poll_whole-clause-cause g c =
    let p = err_from_is_err_and c.from_residual.result c.from_residual.ensures.1 in
    subst (λ (r : Result (Unit {0}) RoundFault). RoundCause (g.S.Site.fault_count c.args.site.now)
    (g.S.Site.fault_count c.poll_whole.new.site) r) (sym (p.1 ∙ ap Err p.2))
    (late_cause (Unit {0}) (Unit {0}) _ _ _ c.in_err-poll_whole.field-0.0 c.polls.invariant.talked.count
    c.in_err-poll_whole.ensures.cause)

pub polls-preserved : goal.polls-preserved
polls-preserved g c =
    let all = c.in_ok-poll_whole.ensures.all in
    record {
      talked = talked_more c.polls.invariant.talked c.poll_whole.new.collector c.poll_whole.new.agent
          (g.S.Site.fault_count c.poll_whole.new.site) c.in_ok-poll_whole.ensures.joint c.poll_whole.ensures.same all.same
          c.in_ok-poll_whole.ensures.sends c.in_ok-poll_whole.ensures.acts
          (own_polls c.args.collecting.now c.polls.collector c.poll_whole.new.collector c.polls.agent c.poll_whole.new.agent
          (PollsOn.goes_on PollsOn.begins c.in_ok-poll_whole.ensures.polls) c.poll_whole.ensures.same c.in_ok-poll_whole.ensures.acts)
          c.in_ok-poll_whole.ensures.cause;
      queue = all.queue ∙ c.polls.invariant.queue;
      on = PollsOn.goes_on c.polls.invariant.on c.in_ok-poll_whole.ensures.polls;
    }

pub polls-smaller : goal.polls-smaller
polls-smaller g c = c.in_ok-poll_whole.ensures.all.fewer

pub returns-clause-joint : goal.returns-clause-joint
returns-clause-joint g c = c.polls.invariant.talked.joint

pub returns-clause-free : goal.returns-clause-free
returns-clause-free g c =
    let free = c.free_rows.ensures.free in
    let test = c.polls-test.false in
    record {
      same = c.polls.invariant.talked.same;
      queue = c.polls.invariant.queue;
      free = omega (arith, free, test);
    }

pub returns-clause-same : goal.returns-clause-same
returns-clause-same g c = c.polls.invariant.talked.starts

pub returns-clause-cause : goal.returns-clause-cause
returns-clause-cause g c = c.polls.invariant.talked.count

pub returns-clause-sends : goal.returns-clause-sends
returns-clause-sends g c = c.polls.invariant.talked.sends

pub returns-in_err-poll_whole-clause-last : goal.returns-in_err-poll_whole-clause-last
returns-in_err-poll_whole-clause-last g c =
    let p = err_from_is_err_and c.from_residual.result c.from_residual.ensures.1 in
    rw (p.1, p.2) (inside_late (Unit {0}) (Unit {0}) c.in_err-poll_whole.field-0.0 c.polls.invariant.talked.acts c.in_err-poll_whole.ensures.last)

pub returns-clause-last : goal.returns-clause-last
returns-clause-last g c = went c.polls.invariant.talked.acts

pub returns-in_err-poll_whole-clause-only : goal.returns-in_err-poll_whole-clause-only
returns-in_err-poll_whole-clause-only g c =
    let p = err_from_is_err_and c.from_residual.result c.from_residual.ensures.1 in
    rw (p.1, p.2) (c.in_err-poll_whole.ensures.only)

pub returns-in_err-poll_whole-clause-shown : goal.returns-in_err-poll_whole-clause-shown
returns-in_err-poll_whole-clause-shown g c =
    let p = err_from_is_err_and c.from_residual.result c.from_residual.ensures.1 in
    rw (p.1, p.2)
    (once_shown c.requires.committed c.polls.invariant.on c.polls.invariant.talked.acts c.poll_whole.new.collector c.poll_whole.new.agent
    (g.S.Site.told c.poll_whole.new.site) c.in_err-poll_whole.field-0.0 c.in_err-poll_whole.ensures.polls)

pub returns-in_err-poll_whole-clause-acts : goal.returns-in_err-poll_whole-clause-acts
returns-in_err-poll_whole-clause-acts g c = rest_then c.polls.invariant.talked.acts c.in_err-poll_whole.ensures.acts

pub returns-clause-acts : goal.returns-clause-acts
returns-clause-acts g c = c.polls.invariant.talked.acts

pub returns-in_err-poll_whole-clause-rows : goal.returns-in_err-poll_whole-clause-rows
returns-in_err-poll_whole-clause-rows g c stamped started acting run =
    let p = err_from_is_err_and c.from_residual.result c.from_residual.ensures.1 in
    rw (p.1, p.2)
    (talked_own c.polls.invariant.talked c.poll_whole.new.collector c.poll_whole.new.agent 0
    (Err c.in_err-poll_whole.field-0.0)
    (own_once c.args.collecting.now c.polls.collector c.polls.collector c.polls.agent c.polls.agent PollsOn.begins
    c.poll_whole.new.collector c.poll_whole.new.agent c.poll_whole.ensures.same c.in_err-poll_whole.field-0.0
    c.in_err-poll_whole.ensures.polls c.in_err-poll_whole.ensures.acts) stamped started acting run)

pub returns-clause-rows : goal.returns-clause-rows
returns-clause-rows g c = c.polls.invariant.talked.rows
