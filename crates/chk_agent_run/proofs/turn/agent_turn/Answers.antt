use Rattle.std.proofs.Common.{ℕ, Bool, [], Ok, Err, ap, sym, subst, ◌∙◌, refl, arith}
use Rattle.std.proofs.lemmas.Result.{err_from_is_err_and}
use Rattle.chk_agent.specs.declared.answers.Then.{Then}
use Rattle.chk_agent.proofs.TurningFaults.{last_wanting, last_same, last_then, last_ok}
use Rattle.chk_agent.proofs.TurningTold.{same_agent}
use Rattle.chk_agent_run.specs.Calls.{Paused}
use Rattle.chk_agent_run.specs.Turns.{uncontrolled, untimed, unturned, unpaused, turned}
use Rattle.chk_agent_run.proofs.Carried.{Carried, carried_by, carried_then, ends_with}
use Rattle.chk_agent_run.proofs.Turned.{process_on, turned_same, turned_source}
use Rattle.chk_agent_run.proofs.turn.agent_turn.Goals as goal

pub returns-in_err-then-clause-turn : goal.returns-in_err-then-clause-turn
returns-in_err-then-clause-turn g c =
    let p = err_from_is_err_and c.from_residual.result c.from_residual.ensures.1 in
    rw (p.1, p.2) (uncontrolled c.in_err-then.field-0.0 c.in_err-then.ensures.script)

pub returns-in_err-then-clause-last : goal.returns-in_err-then-clause-last
returns-in_err-then-clause-last g c =
    let p = err_from_is_err_and c.from_residual.result c.from_residual.ensures.1 in
    last_same Then c.from_residual.result c.in_err-then.field-0.0 (p.1 ∙ ap Err p.2) c.in_err-then.ensures.last

pub clock-requires : goal.clock-requires
clock-requires g c = record {
  ready = c.in_ok-then.ensures.ready;
  who = process_on c.args.who.now c.args.agent.now c.at_door.new.agent c.requires.who c.at_door.ensures.source;
}

pub returns-in_err-now-clause-turn : goal.returns-in_err-now-clause-turn
returns-in_err-now-clause-turn g c =
    let p = err_from_is_err_and c.from_residual-in_err-now.result c.from_residual-in_err-now.ensures.1 in
    rw (p.1, p.2)
    (untimed c.in_ok-then.then c.in_err-now.field-0.0 c.in_ok-then.ensures.script c.in_err-now.ensures.made)

pub returns-in_err-now-clause-told : goal.returns-in_err-now-clause-told
returns-in_err-now-clause-told g c =
    ends_with c.args.agent.now c.at_door.new.agent c.at_door.new.agent
    (carried_by _ _ c.at_door.ensures.source c.requires.ready c.in_ok-then.ensures.ready c.at_door.ensures.told)
    c.clock.ensures.told

pub returns-in_err-now-clause-last : goal.returns-in_err-now-clause-last
returns-in_err-now-clause-last g c =
    let p = err_from_is_err_and c.from_residual-in_err-now.result c.from_residual-in_err-now.ensures.1 in
    last_then c.from_residual-in_err-now.result (c.at_door.ensures.told [])
    (last_same ℕ c.from_residual-in_err-now.result c.in_err-now.field-0.0 (p.1 ∙ ap Err p.2) c.in_err-now.ensures.last)

pub returns-in_err-full-clause-turn : goal.returns-in_err-full-clause-turn
returns-in_err-full-clause-turn g c =
    let p = err_from_is_err_and c.from_residual-in_err-full.result c.from_residual-in_err-full.ensures.1 in
    rw (p.1, p.2)
    (unturned c.in_ok-then.then c.in_ok-now.now c.in_err-full.field-0.0 c.in_ok-then.ensures.script c.in_ok-now.ensures.made
    c.in_err-full.ensures.state)

pub returns-in_err-full-clause-told : goal.returns-in_err-full-clause-told
returns-in_err-full-clause-told g c =
    let t = c.at_door.new.agent in
    ends_with c.args.agent.now t c.turn.new.self
    (carried_then c.args.agent.now t t
    (carried_by _ _ c.at_door.ensures.source c.requires.ready c.in_ok-then.ensures.ready c.at_door.ensures.told)
    (record { same = same_agent t; talks = c.clock.ensures.told }))
    c.turn.ensures.told

pub returns-in_err-full-clause-source : goal.returns-in_err-full-clause-source
returns-in_err-full-clause-source g c = turned_source c.in_err-full.ensures.state ∙ c.at_door.ensures.source

pub returns-in_err-full-clause-last : goal.returns-in_err-full-clause-last
returns-in_err-full-clause-last g c =
    let p = err_from_is_err_and c.from_residual-in_err-full.result c.from_residual-in_err-full.ensures.1 in
    last_then c.from_residual-in_err-full.result
    (ends_with c.args.agent.now c.at_door.new.agent c.at_door.new.agent
    (carried_by _ _ c.at_door.ensures.source c.requires.ready c.in_ok-then.ensures.ready c.at_door.ensures.told)
    c.clock.ensures.told [])
    (last_same Bool c.from_residual-in_err-full.result c.in_err-full.field-0.0 (p.1 ∙ ap Err p.2) c.in_err-full.ensures.last)

pub wait-requires : goal.wait-requires
wait-requires g c =
    let same = turned_same c.in_ok-full.ensures.state in
    record {
      ready = same.ready ∙ c.in_ok-then.ensures.ready;
      who = process_on c.args.who.now c.args.agent.now c.turn.new.self c.requires.who (same.source ∙ c.at_door.ensures.source);
    }

pub returns-in_err-wait-clause-turn : goal.returns-in_err-wait-clause-turn
returns-in_err-wait-clause-turn g c =
    let p = err_from_is_err_and c.from_residual-in_err-wait.result c.from_residual-in_err-wait.ensures.1 in
    rw (p.1, p.2)
    (unpaused c.in_ok-then.then c.in_ok-now.now c.in_ok-full.full c.in_err-wait.field-0.0 c.in_ok-then.ensures.script c.in_ok-now.ensures.made
    c.in_ok-full.ensures.state
    (subst (λ k. Paused c.args.who.now k (Err c.in_err-wait.field-0.0) (g.S.Site.told c.turn.new.site) (g.S.Site.told c.wait.new.site))
    c.time_behind-time.ensures c.in_err-wait.ensures.made))

pub returns-in_err-wait-clause-told : goal.returns-in_err-wait-clause-told
returns-in_err-wait-clause-told g c =
    let t = c.at_door.new.agent in let u = c.turn.new.self in
    ends_with c.args.agent.now u u
    (carried_then c.args.agent.now t u
    (carried_then c.args.agent.now t t
    (carried_by _ _ c.at_door.ensures.source c.requires.ready c.in_ok-then.ensures.ready c.at_door.ensures.told)
    (record { same = same_agent t; talks = c.clock.ensures.told }))
    (record { same = turned_same c.in_ok-full.ensures.state; talks = c.turn.ensures.told }))
    c.wait.ensures.told

pub returns-in_err-wait-clause-source : goal.returns-in_err-wait-clause-source
returns-in_err-wait-clause-source g c = turned_source c.in_ok-full.ensures.state ∙ c.at_door.ensures.source

pub returns-in_err-wait-clause-last : goal.returns-in_err-wait-clause-last
returns-in_err-wait-clause-last g c =
    let p = err_from_is_err_and c.from_residual-in_err-wait.result c.from_residual-in_err-wait.ensures.1 in
    let t = c.at_door.new.agent in let u = c.turn.new.self in
    last_then c.from_residual-in_err-wait.result
    (ends_with c.args.agent.now t u
    (carried_then c.args.agent.now t t
    (carried_by _ _ c.at_door.ensures.source c.requires.ready c.in_ok-then.ensures.ready c.at_door.ensures.told)
    (record { same = same_agent t; talks = c.clock.ensures.told }))
    c.turn.ensures.told [])
    (last_same (Unit {0}) c.from_residual-in_err-wait.result c.in_err-wait.field-0.0 (p.1 ∙ ap Err p.2) c.in_err-wait.ensures.last)

pub returns-clause-turn : goal.returns-clause-turn
returns-clause-turn g c =
    turned c.in_ok-then.then c.in_ok-now.now c.in_ok-full.full c.in_ok-then.ensures.script c.in_ok-now.ensures.made c.in_ok-full.ensures.state
    (subst (λ k. Paused c.args.who.now k (Ok tt) (g.S.Site.told c.turn.new.site) (g.S.Site.told c.wait.new.site))
    c.time_behind-time.ensures c.in_ok-wait.ensures.made)

pub returns-clause-told : goal.returns-clause-told
returns-clause-told g c =
    let t = c.at_door.new.agent in let u = c.turn.new.self in
    ends_with c.args.agent.now u u
    (carried_then c.args.agent.now t u
    (carried_then c.args.agent.now t t
    (carried_by _ _ c.at_door.ensures.source c.requires.ready c.in_ok-then.ensures.ready c.at_door.ensures.told)
    (record { same = same_agent t; talks = c.clock.ensures.told }))
    (record { same = turned_same c.in_ok-full.ensures.state; talks = c.turn.ensures.told }))
    c.wait.ensures.told

pub returns-clause-source : goal.returns-clause-source
returns-clause-source g c = turned_source c.in_ok-full.ensures.state ∙ c.at_door.ensures.source

pub returns-clause-ready : goal.returns-clause-ready
returns-clause-ready g c = (turned_same c.in_ok-full.ensures.state).ready ∙ c.in_ok-then.ensures.ready

pub returns-clause-last : goal.returns-clause-last
returns-clause-last g c = last_ok (tt {0}) (returns-clause-told g c [])
