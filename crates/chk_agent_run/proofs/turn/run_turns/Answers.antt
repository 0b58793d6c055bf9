use Rattle.std.proofs.Common.{[], Ok, Err, ap, sym, ◌∙◌, refl, arith}
use Rattle.std.proofs.lemmas.Result.{err_from_is_err_and}
use Rattle.chk_agent.specs.declared.answers.Then.{Then}
use Rattle.chk_agent.proofs.TurningFaults.{last_same, last_then, last_ok}
use Rattle.chk_agent_run.specs.Lent.{word_of}
use Rattle.chk_agent_run.proofs.Carried.{carried_by, carried_then, ends_with}
use Rattle.chk_agent_run.proofs.Controls.{goes_on}
use Rattle.chk_agent_run.proofs.TurnChains.{turned_none, turned_all, turned_ended, turned_refused, turned_on}
use Rattle.chk_agent_run.proofs.Turned.{process_on}
use Rattle.chk_agent_run.proofs.turn.run_turns.Goals as goal

pub loop-turn-init : goal.loop-turn-init
loop-turn-init g c = record {
  run = turned_none c.args.who.now (word_of c.args.door) c.args.pause c.args.turns c.args.agent.now (g.S.Site.told c.args.site.now);
  count = omega arith;
}

pub agent_turn-requires : goal.agent_turn-requires
agent_turn-requires g c =
    let k = c.loop-turn.invariant.run.carried.same in
    record {
      ready = k.ready ∙ c.requires.ready;
      who = process_on c.args.who.now c.args.agent.now c.loop-turn.agent c.requires.who k.source;
    }

pub returns-in_err-agent_turn-clause-script : goal.returns-in_err-agent_turn-clause-script
returns-in_err-agent_turn-clause-script g c =
    let p = err_from_is_err_and c.from_residual.result c.from_residual.ensures.1 in
    rw (p.1, p.2)
    (turned_refused _ _ _ _ _ _ _ _ _ c.loop-turn.invariant.run c.loop-turn-test.true _ _ c.in_err-agent_turn.field-0.0
    c.in_err-agent_turn.ensures.turn)

pub returns-in_err-agent_turn-clause-told : goal.returns-in_err-agent_turn-clause-told
returns-in_err-agent_turn-clause-told g c =
    ends_with c.args.agent.now c.loop-turn.agent c.agent_turn.new.agent c.loop-turn.invariant.run.carried c.agent_turn.ensures.told

pub returns-in_err-agent_turn-clause-last : goal.returns-in_err-agent_turn-clause-last
returns-in_err-agent_turn-clause-last g c =
    let p = err_from_is_err_and c.from_residual.result c.from_residual.ensures.1 in
    last_then c.from_residual.result (c.loop-turn.invariant.run.carried.talks [])
    (last_same Then c.from_residual.result c.in_err-agent_turn.field-0.0 (p.1 ∙ ap Err p.2) c.in_err-agent_turn.ensures.last)

pub returns-in-End-clause-script : goal.returns-in-End-clause-script
returns-in-End-clause-script g c =
    turned_ended _ _ _ _ _ _ _ _ _ c.loop-turn.invariant.run c.loop-turn-test.true _ _
    (rw c.in-End.is at c.in_ok-agent_turn.ensures.turn)

pub returns-in-End-clause-told : goal.returns-in-End-clause-told
returns-in-End-clause-told g c =
    ends_with c.args.agent.now c.loop-turn.agent c.agent_turn.new.agent c.loop-turn.invariant.run.carried c.agent_turn.ensures.told

pub returns-in-End-clause-last : goal.returns-in-End-clause-last
returns-in-End-clause-last g c = last_ok (tt {0}) (returns-in-End-clause-told g c [])

pub loop-turn-preserved : goal.loop-turn-preserved
loop-turn-preserved g c = record {
  run = turned_on _ _ _ _ _ _ _ _ _ c.loop-turn.invariant.run c.loop-turn-test.true _ _
      (rw (goes_on c.in_ok-agent_turn.field-0 c.in_ok-agent_turn.ensures.on c.in_default.not-End) at c.in_ok-agent_turn.ensures.turn)
      (carried_then _ _ _ c.loop-turn.invariant.run.carried
      (carried_by _ _ c.agent_turn.ensures.source
      (c.loop-turn.invariant.run.carried.same.ready ∙ c.requires.ready) c.in_ok-agent_turn.ensures.ready c.agent_turn.ensures.told));
  count = (let so_far = c.loop-turn.invariant.count in let more = c.in_ok-agent_turn.ensures.cause in omega (arith, so_far, more));
}

pub returns-clause-script : goal.returns-clause-script
returns-clause-script g c =
    turned_all _ _ _ _ _ _ _ _ _ c.loop-turn.invariant.run (let past = c.loop-turn-test.false in omega (arith, past))

pub returns-clause-told : goal.returns-clause-told
returns-clause-told g c = c.loop-turn.invariant.run.carried.talks

pub returns-clause-last : goal.returns-clause-last
returns-clause-last g c = last_ok (tt {0}) (c.loop-turn.invariant.run.carried.talks [])
