use Rattle.std.proofs.Common.{Option, [], Ok, Err, ap, sym, ◌∙◌, refl, arith, subst, Some, None}
use Rattle.std.proofs.lemmas.Result.{err_from_is_err_and}
use Rattle.chk_site.specs.declared.suffixes.Taking.{Taking}
use Rattle.chk_agent.specs.declared.answers.Then.{Then}
use Rattle.chk_agent.proofs.TurningFaults.{last_wanting, last_same, last_then, last_ok}
use Rattle.chk_agent.proofs.TurningTold.{same_agent}
use Rattle.chk_agent_run.specs.Calls.{Took}
use Rattle.chk_agent_run.specs.Turns.{IsControlled}
use Rattle.chk_agent_run.proofs.Carried.{carried_by, carried_then, ends_with}
use Rattle.chk_agent_run.proofs.Controls.{goes_on, controlled_none, controlled_all, controlled_no_more, controlled_untaken, controlled_ended, controlled_refused, controlled_on}
use Rattle.chk_agent_run.proofs.Turned.{process_on}
use Rattle.chk_agent_run.proofs.turn.run_messages.Goals as goal

pub loop-message-init : goal.loop-message-init
loop-message-init g c = record {
  run = controlled_none c.args.who.now c.args.door.now 64 c.args.agent.now (g.S.Site.told c.args.site.now);
  count = omega arith;
}

pub take-requires : goal.take-requires
take-requires g c =
    let k = c.loop-message.invariant.run.carried.same in
    record {
      ready = k.ready ∙ c.requires.ready;
      who = process_on c.args.who.now c.args.agent.now c.loop-message.agent c.requires.who k.source;
    }

pub returns-in_err-taking-clause-script : goal.returns-in_err-taking-clause-script
returns-in_err-taking-clause-script g c =
    let p = err_from_is_err_and c.from_residual.result c.from_residual.ensures.1 in
    rw (p.1, p.2)
    (controlled_untaken _ _ _ _ _ _ _ _ c.loop-message.invariant.run c.loop-message-test.true c.in_err-taking.field-0.0 _
    c.in_err-taking.ensures.taken)

pub returns-in_err-taking-clause-told : goal.returns-in_err-taking-clause-told
returns-in_err-taking-clause-told g c =
    ends_with c.args.agent.now c.loop-message.agent c.loop-message.agent c.loop-message.invariant.run.carried c.take.ensures.told

pub returns-in_err-taking-clause-source : goal.returns-in_err-taking-clause-source
returns-in_err-taking-clause-source g c = c.loop-message.invariant.run.carried.same.source

pub returns-in_err-taking-clause-last : goal.returns-in_err-taking-clause-last
returns-in_err-taking-clause-last g c =
    let p = err_from_is_err_and c.from_residual.result c.from_residual.ensures.1 in
    last_then c.from_residual.result (c.loop-message.invariant.run.carried.talks [])
    (last_same (Option Taking) c.from_residual.result c.in_err-taking.field-0.0 (p.1 ∙ ap Err p.2) c.in_err-taking.ensures.last)

pub returns-in_default-clause-script : goal.returns-in_default-clause-script
returns-in_default-clause-script g c =
    controlled_no_more _ _ _ _ _ _ _ _ c.loop-message.invariant.run c.loop-message-test.true _
    (rw c.in_default.is at c.in_ok-taking.ensures.taken)

pub returns-in_default-clause-told : goal.returns-in_default-clause-told
returns-in_default-clause-told g c =
    ends_with c.args.agent.now c.loop-message.agent c.loop-message.agent c.loop-message.invariant.run.carried c.take.ensures.told

pub returns-in_default-clause-source : goal.returns-in_default-clause-source
returns-in_default-clause-source g c = c.loop-message.invariant.run.carried.same.source

pub returns-in_default-clause-ready : goal.returns-in_default-clause-ready
returns-in_default-clause-ready g c = c.loop-message.invariant.run.carried.same.ready ∙ c.requires.ready

pub returns-in_default-clause-last : goal.returns-in_default-clause-last
returns-in_default-clause-last g c = last_ok (tt {0}) (returns-in_default-clause-told g c [])

pub run_message-requires : goal.run_message-requires
run_message-requires g c =
    let k = c.loop-message.invariant.run.carried.same in
    record {
      ready = k.ready ∙ c.requires.ready;
      who = process_on c.args.who.now c.args.agent.now c.loop-message.agent c.requires.who k.source;
    }

pub returns-in_err-run_message-clause-script : goal.returns-in_err-run_message-clause-script
returns-in_err-run_message-clause-script g c =
    let p = err_from_is_err_and c.from_residual-in_err-run_message.result c.from_residual-in_err-run_message.ensures.1 in
    rw (p.1, p.2)
    (controlled_refused _ _ _ _ _ _ _ _ c.loop-message.invariant.run c.loop-message-test.true c.in-Some.taking _ _ _
    (rw c.in-Some.is at c.in_ok-taking.ensures.taken) c.in_err-run_message.field-0.0 c.in_err-run_message.ensures.script)

pub returns-in_err-run_message-clause-told : goal.returns-in_err-run_message-clause-told
returns-in_err-run_message-clause-told g c =
    ends_with c.args.agent.now c.loop-message.agent c.run_message.new.agent
    (carried_then _ _ _ c.loop-message.invariant.run.carried
    (record { same = same_agent c.loop-message.agent; talks = c.take.ensures.told }))
    c.run_message.ensures.told

pub returns-in_err-run_message-clause-source : goal.returns-in_err-run_message-clause-source
returns-in_err-run_message-clause-source g c = c.run_message.ensures.source ∙ c.loop-message.invariant.run.carried.same.source

pub returns-in_err-run_message-clause-last : goal.returns-in_err-run_message-clause-last
returns-in_err-run_message-clause-last g c =
    let p = err_from_is_err_and c.from_residual-in_err-run_message.result c.from_residual-in_err-run_message.ensures.1 in
    last_then c.from_residual-in_err-run_message.result
    (ends_with c.args.agent.now c.loop-message.agent c.loop-message.agent c.loop-message.invariant.run.carried c.take.ensures.told [])
    (last_same Then c.from_residual-in_err-run_message.result c.in_err-run_message.field-0.0 (p.1 ∙ ap Err p.2) c.in_err-run_message.ensures.last)

pub returns-in-End-clause-script : goal.returns-in-End-clause-script
returns-in-End-clause-script g c =
    controlled_ended _ _ _ _ _ _ _ _ c.loop-message.invariant.run c.loop-message-test.true c.in-Some.taking _ _ _
    (rw c.in-Some.is at c.in_ok-taking.ensures.taken) (rw c.in-End.is at c.in_ok-run_message.ensures.script)

pub returns-in-End-clause-told : goal.returns-in-End-clause-told
returns-in-End-clause-told g c =
    ends_with c.args.agent.now c.loop-message.agent c.run_message.new.agent
    (carried_then _ _ _ c.loop-message.invariant.run.carried
    (record { same = same_agent c.loop-message.agent; talks = c.take.ensures.told }))
    c.run_message.ensures.told

pub returns-in-End-clause-source : goal.returns-in-End-clause-source
returns-in-End-clause-source g c = c.run_message.ensures.source ∙ c.loop-message.invariant.run.carried.same.source

pub returns-in-End-clause-last : goal.returns-in-End-clause-last
returns-in-End-clause-last g c = last_ok (tt {0}) (returns-in-End-clause-told g c [])

pub loop-message-preserved : goal.loop-message-preserved
loop-message-preserved g c = record {
  run = controlled_on _ _ _ _ _ _ _ _ c.loop-message.invariant.run c.loop-message-test.true c.in-Some.taking _ _ _
      (rw c.in-Some.is at c.in_ok-taking.ensures.taken)
      (rw (goes_on c.in_ok-run_message.field-0 c.in_ok-run_message.ensures.on c.in_default-2.not-End) at c.in_ok-run_message.ensures.script)
      (carried_then _ _ _
      (carried_then _ _ _ c.loop-message.invariant.run.carried
      (record { same = same_agent c.loop-message.agent; talks = c.take.ensures.told }))
      (carried_by _ _ c.run_message.ensures.source
      (c.loop-message.invariant.run.carried.same.ready ∙ c.requires.ready) c.in_ok-run_message.ensures.ready c.run_message.ensures.told));
  count = (let so_far = c.loop-message.invariant.count in let took = c.in_ok-taking.ensures.cause in
      let more = c.in_ok-run_message.ensures.cause in omega (arith, so_far, took, more));
}

pub returns-clause-script : goal.returns-clause-script
returns-clause-script g c =
    controlled_all _ _ _ _ _ _ _ _ c.loop-message.invariant.run (let past = c.loop-message-test.false in omega (arith, past))

pub returns-clause-told : goal.returns-clause-told
returns-clause-told g c = c.loop-message.invariant.run.carried.talks

pub returns-clause-source : goal.returns-clause-source
returns-clause-source g c = c.loop-message.invariant.run.carried.same.source

pub returns-clause-ready : goal.returns-clause-ready
returns-clause-ready g c = c.loop-message.invariant.run.carried.same.ready ∙ c.requires.ready

pub returns-clause-last : goal.returns-clause-last
returns-clause-last g c = last_ok (tt {0}) (c.loop-message.invariant.run.carried.talks [])
