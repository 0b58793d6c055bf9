use Rattle.std.proofs.Common.{[], ◌∷◌, Err, arith, refl, sym, ◌∙◌}
use Rattle.std.proofs.lemmas.Result.{err_from_is_err_and}
use Rattle.chk_world.specs.Places.{Foreign}
use Rattle.chk_world.specs.Rules.{Legal}
use Rattle.chk_world.specs.Together.{Outside}
use Rattle.chk_sink.specs.Held.{Matches}
use Rattle.chk_sink.specs.States.{State}
use Rattle.chk_collector_run.specs.Runs.{unstarted, cut}
use Rattle.chk_collector_run.proofs.Counts.{not_risen, risen_then, turn_risen, sink_risen, sink_after, turn_after, last_then}
use Rattle.chk_collector_run.proofs.NamedFound.{finds_named}
use Rattle.chk_collector_run.proofs.RunEnds.{started_by, unstarted_by, ran_by, unfinished_by, finished_by}
use Rattle.chk_collector_run.proofs.Running.{who_is, made_quiet, last_start, started_told, unstarted_told, cut_ran, all_ran, together, finds_together}
use Rattle.chk_collector_run.proofs.SettledSinks.{fresh_settled}
use Rattle.chk_collector_run.proofs.Takings.{finds_none, finds_then, quiet_opens}
use Rattle.chk_collector_run.proofs.TickEnds.{tick_cause}
use Rattle.chk_collector_run.proofs.Turning.{same_process}
use Rattle.chk_collector_run.proofs.run.collect.Goals as goal

-- ---- the start ended it

pub returns-in_err-collector-clause-ran : goal.returns-in_err-collector-clause-ran
returns-in_err-collector-clause-ran g c =
    let p = err_from_is_err_and c.from_residual.result c.from_residual.ensures.1 in rw p.1 tt

pub returns-in_err-collector-clause-refused : goal.returns-in_err-collector-clause-refused
returns-in_err-collector-clause-refused g c =
    let p = err_from_is_err_and c.from_residual.result c.from_residual.ensures.1 in
    rw (p.1, p.2)
    (unstarted (unstarted_by {rotate = c.args.rotate} c.in_err-collector.field-0.0 (record {
      told = c.in_err-collector.ensures.told;
      starts = c.in_err-collector.ensures.starts;
      fresh = c.in_err-collector.ensures.fresh;
      spent = c.in_err-collector.ensures.spent;
      spent_exactly = c.in_err-collector.ensures.spent_exactly;
      damaged = c.in_err-collector.ensures.damaged;
      own = c.in_err-collector.ensures.own;
      last = c.in_err-collector.ensures.last;
    })))

pub returns-in_err-collector-clause-told : goal.returns-in_err-collector-clause-told
returns-in_err-collector-clause-told g c stamped started acting one acts =
    let p = err_from_is_err_and c.from_residual.result c.from_residual.ensures.1 in
    rw (p.1, p.2)
    (together started acting one acts (unstarted_told stamped c.args.who.now
    c.in_err-collector.field-0.0 (c.in_err-collector.ensures.told stamped)))

pub returns-in_err-collector-clause-finds : goal.returns-in_err-collector-clause-finds
returns-in_err-collector-clause-finds g c stamped started one =
    finds_none (Outside stamped started) c.args.who.now.name (Legal stamped)
    (quiet_opens (made_quiet (c.start.ensures.told [])))

pub returns-in_err-collector-clause-named : goal.returns-in_err-collector-clause-named
returns-in_err-collector-clause-named g c stamped started one =
    finds_named stamped c.args.who.now c.requires.role started (c.args.who.now ∷ []) _
    (returns-in_err-collector-clause-told g c stamped started (c.args.who.now ∷ []) one (0, omega arith, refl))
    (returns-in_err-collector-clause-finds g c stamped started one)

pub returns-in_err-collector-clause-spent : goal.returns-in_err-collector-clause-spent
returns-in_err-collector-clause-spent g c =
    let p = err_from_is_err_and c.from_residual.result c.from_residual.ensures.1 in
    rw (p.1, p.2)
    (unstarted_by {rotate = c.args.rotate} c.in_err-collector.field-0.0 (record {
      told = c.in_err-collector.ensures.told;
      starts = c.in_err-collector.ensures.starts;
      fresh = c.in_err-collector.ensures.fresh;
      spent = c.in_err-collector.ensures.spent;
      spent_exactly = c.in_err-collector.ensures.spent_exactly;
      damaged = c.in_err-collector.ensures.damaged;
      own = c.in_err-collector.ensures.own;
      last = c.in_err-collector.ensures.last;
    })).last_start

pub returns-in_err-collector-clause-last : goal.returns-in_err-collector-clause-last
returns-in_err-collector-clause-last g c =
    let p = err_from_is_err_and c.from_residual.result c.from_residual.ensures.1 in
    rw (p.1, p.2)
    (unstarted_by {rotate = c.args.rotate} c.in_err-collector.field-0.0 (record {
      told = c.in_err-collector.ensures.told;
      starts = c.in_err-collector.ensures.starts;
      fresh = c.in_err-collector.ensures.fresh;
      spent = c.in_err-collector.ensures.spent;
      spent_exactly = c.in_err-collector.ensures.spent_exactly;
      damaged = c.in_err-collector.ensures.damaged;
      own = c.in_err-collector.ensures.own;
      last = c.in_err-collector.ensures.last;
    })).last

pub returns-in_err-collector-clause-cause : goal.returns-in_err-collector-clause-cause
returns-in_err-collector-clause-cause g c =
    let p = err_from_is_err_and c.from_residual.result c.from_residual.ensures.1 in
    rw (p.1, p.2)
    (sink_after State _ _ _ c.in_err-collector.field-0.0 (not_risen _) c.in_err-collector.ensures.cause)

-- ---- a turn ended it

pub run_turns-requires : goal.run_turns-requires
run_turns-requires g c = record {
  started = who_is c.args.who.now c.args.rotate c.in_ok-collector.collector c.requires.role
      c.in_ok-collector.ensures.fresh;
  named = c.requires.name;
  settled = fresh_settled c.args.who.now c.args.rotate c.in_ok-collector.collector
      c.in_ok-collector.ensures.fresh;
}

pub returns-in_err-run_turns-clause-ran : goal.returns-in_err-run_turns-clause-ran
returns-in_err-run_turns-clause-ran g c =
    let p = err_from_is_err_and c.from_residual-in_err-run_turns.result
    c.from_residual-in_err-run_turns.ensures.1 in rw p.1 tt

pub returns-in_err-run_turns-clause-refused : goal.returns-in_err-run_turns-clause-refused
returns-in_err-run_turns-clause-refused g c =
    let p = err_from_is_err_and c.from_residual-in_err-run_turns.result
    c.from_residual-in_err-run_turns.ensures.1 in
    rw (p.1, p.2)
    (cut (started_by (record {
      told = c.in_ok-collector.ensures.told;
      starts = c.in_ok-collector.ensures.starts;
      fresh = c.in_ok-collector.ensures.fresh;
      spent = c.in_ok-collector.ensures.spent;
      spent_exactly = c.in_ok-collector.ensures.spent_exactly;
      damaged = c.in_ok-collector.ensures.damaged;
      own = c.in_ok-collector.ensures.own;
      last = c.in_ok-collector.ensures.last;
    })) c.in_err-run_turns.ensures.script)

pub returns-in_err-run_turns-clause-told : goal.returns-in_err-run_turns-clause-told
returns-in_err-run_turns-clause-told g c stamped started acting one acts =
    let is = who_is c.args.who.now c.args.rotate c.in_ok-collector.collector c.requires.role
    c.in_ok-collector.ensures.fresh in
    let p = err_from_is_err_and c.from_residual-in_err-run_turns.result
    c.from_residual-in_err-run_turns.ensures.1 in
    rw (p.1, p.2)
    (together started acting one acts
    (cut_ran stamped c.args.who.now c.in_ok-collector.collector c.run_turns.new.collector
    (is ∙ sym (same_process c.in_ok-collector.collector c.run_turns.new.collector
    c.run_turns.ensures.same)) c.in_err-run_turns.field-0.0 c.in_err-run_turns.ensures.only
    (started_told stamped c.args.who.now c.in_ok-collector.collector is
    (c.in_ok-collector.ensures.told stamped)) (c.in_err-run_turns.ensures.told stamped)))

pub returns-in_err-run_turns-clause-finds : goal.returns-in_err-run_turns-clause-finds
returns-in_err-run_turns-clause-finds g c stamped started one =
    let is = who_is c.args.who.now c.args.rotate c.in_ok-collector.collector c.requires.role
    c.in_ok-collector.ensures.fresh in
    finds_together started one
    (finds_then c.args.who.now.name
    (started_told stamped c.args.who.now c.in_ok-collector.collector is
    (c.in_ok-collector.ensures.told stamped))
    (finds_none (Foreign stamped c.args.who.now) c.args.who.now.name (Legal stamped)
    (quiet_opens (made_quiet (c.in_ok-collector.ensures.told []))))
    (c.run_turns.ensures.finds stamped))

pub returns-in_err-run_turns-clause-named : goal.returns-in_err-run_turns-clause-named
returns-in_err-run_turns-clause-named g c stamped started one =
    finds_named stamped c.args.who.now c.requires.role started (c.args.who.now ∷ []) _
    (returns-in_err-run_turns-clause-told g c stamped started (c.args.who.now ∷ []) one (0, omega arith, refl))
    (returns-in_err-run_turns-clause-finds g c stamped started one)

pub returns-in_err-run_turns-clause-spent : goal.returns-in_err-run_turns-clause-spent
returns-in_err-run_turns-clause-spent g c =
    let p = err_from_is_err_and c.from_residual-in_err-run_turns.result
    c.from_residual-in_err-run_turns.ensures.1 in
    rw (p.1, p.2) (last_start (Err c.in_err-run_turns.field-0.0) c.in_err-run_turns.ensures.only)

pub returns-in_err-run_turns-clause-last : goal.returns-in_err-run_turns-clause-last
returns-in_err-run_turns-clause-last g c =
    let p = err_from_is_err_and c.from_residual-in_err-run_turns.result
    c.from_residual-in_err-run_turns.ensures.1 in
    rw (p.1, p.2)
    (last_then {T = Unit {0}} (Err c.in_err-run_turns.field-0.0) (c.start.ensures.told [])
    c.in_err-run_turns.ensures.last)

pub returns-in_err-run_turns-clause-cause : goal.returns-in_err-run_turns-clause-cause
returns-in_err-run_turns-clause-cause g c =
    let p = err_from_is_err_and c.from_residual-in_err-run_turns.result
    c.from_residual-in_err-run_turns.ensures.1 in
    rw (p.1, p.2)
    (turn_after (g.S.Site.fault_count c.args.site.now) (g.S.Site.fault_count c.start.new.site)
    (g.S.Site.fault_count c.run_turns.new.site) (Err c.in_err-run_turns.field-0.0)
    (sink_risen _ _ c.start.result c.start.ensures.cause) c.in_err-run_turns.ensures.cause)

-- ---- it came to its end

pub returns-clause-ran : goal.returns-clause-ran
returns-clause-ran g c =
    ran_by c.args.who.now c.args.rotate c.args.turns c.args.most c.args.door.now c.in_ok-collector.collector
    c.run_turns.new.collector c.finish.new.self
    (who_is c.args.who.now c.args.rotate c.in_ok-collector.collector c.requires.role
    c.in_ok-collector.ensures.fresh
    ∙ sym (same_process c.in_ok-collector.collector c.run_turns.new.collector
    c.run_turns.ensures.same))
    (started_by (record {
      told = c.in_ok-collector.ensures.told;
      starts = c.in_ok-collector.ensures.starts;
      fresh = c.in_ok-collector.ensures.fresh;
      spent = c.in_ok-collector.ensures.spent;
      spent_exactly = c.in_ok-collector.ensures.spent_exactly;
      damaged = c.in_ok-collector.ensures.damaged;
      own = c.in_ok-collector.ensures.own;
      last = c.in_ok-collector.ensures.last;
    })) c.in_ok-run_turns.ensures.script c.finish.result
    (record {
      told = c.finish.ensures.told;
      same = c.finish.ensures.same;
      ok = c.finish.ensures.ok;
      refused = c.finish.ensures.refused;
      own = c.finish.ensures.own;
      fine = c.finish.ensures.fine;
      only = c.finish.ensures.only;
      damaged = c.finish.ensures.damaged;
      last = c.finish.ensures.last;
    })

pub returns-clause-refused : goal.returns-clause-refused
returns-clause-refused g c =
    unfinished_by c.args.who.now c.args.rotate c.args.turns c.args.most c.args.door.now
    c.in_ok-collector.collector c.run_turns.new.collector c.finish.new.self
    (who_is c.args.who.now c.args.rotate c.in_ok-collector.collector c.requires.role
    c.in_ok-collector.ensures.fresh
    ∙ sym (same_process c.in_ok-collector.collector c.run_turns.new.collector
    c.run_turns.ensures.same))
    (started_by (record {
      told = c.in_ok-collector.ensures.told;
      starts = c.in_ok-collector.ensures.starts;
      fresh = c.in_ok-collector.ensures.fresh;
      spent = c.in_ok-collector.ensures.spent;
      spent_exactly = c.in_ok-collector.ensures.spent_exactly;
      damaged = c.in_ok-collector.ensures.damaged;
      own = c.in_ok-collector.ensures.own;
      last = c.in_ok-collector.ensures.last;
    })) c.in_ok-run_turns.ensures.script c.finish.result
    (record {
      told = c.finish.ensures.told;
      same = c.finish.ensures.same;
      ok = c.finish.ensures.ok;
      refused = c.finish.ensures.refused;
      own = c.finish.ensures.own;
      fine = c.finish.ensures.fine;
      only = c.finish.ensures.only;
      damaged = c.finish.ensures.damaged;
      last = c.finish.ensures.last;
    })

pub returns-clause-told : goal.returns-clause-told
returns-clause-told g c stamped started acting one acts =
    let is = who_is c.args.who.now c.args.rotate c.in_ok-collector.collector c.requires.role
    c.in_ok-collector.ensures.fresh in
    let to_t = is ∙ sym (same_process c.in_ok-collector.collector c.run_turns.new.collector
    c.run_turns.ensures.same) in
    together started acting one acts
    (all_ran stamped c.args.who.now c.in_ok-collector.collector c.run_turns.new.collector
    c.finish.new.self to_t
    (to_t ∙ sym (same_process c.run_turns.new.collector c.finish.new.self c.finish.ensures.same))
    c.finish.result c.finish.ensures.only
    (finished_by c.run_turns.new.collector c.finish.new.self c.finish.result c.finish.ensures.ok)
    (started_told stamped c.args.who.now c.in_ok-collector.collector is
    (c.in_ok-collector.ensures.told stamped)) (c.in_ok-run_turns.ensures.told stamped)
    (c.finish.ensures.told stamped))

pub returns-clause-finds : goal.returns-clause-finds
returns-clause-finds g c stamped started one =
    let is = who_is c.args.who.now c.args.rotate c.in_ok-collector.collector c.requires.role
    c.in_ok-collector.ensures.fresh in
    finds_together started one
    (finds_then c.args.who.now.name
    (started_told stamped c.args.who.now c.in_ok-collector.collector is
    (c.in_ok-collector.ensures.told stamped))
    (finds_none (Foreign stamped c.args.who.now) c.args.who.now.name (Legal stamped)
    (quiet_opens (made_quiet (c.in_ok-collector.ensures.told []))))
    (finds_then c.args.who.now.name (c.in_ok-run_turns.ensures.told stamped)
    (c.run_turns.ensures.finds stamped)
    (finds_none (Foreign stamped c.args.who.now) c.args.who.now.name
    (Matches stamped c.run_turns.new.collector) (quiet_opens (made_quiet (c.finish.ensures.told []))))))

pub returns-clause-named : goal.returns-clause-named
returns-clause-named g c stamped started one =
    finds_named stamped c.args.who.now c.requires.role started (c.args.who.now ∷ []) _
    (returns-clause-told g c stamped started (c.args.who.now ∷ []) one (0, omega arith, refl))
    (returns-clause-finds g c stamped started one)

pub returns-clause-spent : goal.returns-clause-spent
returns-clause-spent g c = last_start c.finish.result c.finish.ensures.only

pub returns-clause-last : goal.returns-clause-last
returns-clause-last g c =
    last_then c.finish.result (c.start.ensures.told [])
    (last_then c.finish.result (c.run_turns.ensures.told []) c.finish.ensures.last)

pub returns-clause-cause : goal.returns-clause-cause
returns-clause-cause g c =
    turn_after (g.S.Site.fault_count c.args.site.now) (g.S.Site.fault_count c.run_turns.new.site)
    (g.S.Site.fault_count c.finish.new.site) c.finish.result
    (risen_then (g.S.Site.fault_count c.args.site.now) (g.S.Site.fault_count c.start.new.site)
    (g.S.Site.fault_count c.run_turns.new.site) (sink_risen _ _ c.start.result c.start.ensures.cause)
    (turn_risen _ _ _ c.run_turns.ensures.cause))
    (tick_cause _ _ c.finish.result c.finish.ensures.cause)
