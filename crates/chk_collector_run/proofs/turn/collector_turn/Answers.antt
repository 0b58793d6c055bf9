use Rattle.std.proofs.Common.{ℕ, [], Ok, sym, ◌∙◌}
use Rattle.std.proofs.lemmas.Result.{err_from_is_err_and}
use Rattle.chk_site.specs.declared.acts.Call.TheVariants.{Clock}
use Rattle.chk_collector_run.specs.Turns.{untaken, untimed}
use Rattle.chk_collector_run.proofs.Counts.{risen_then, sink_risen, sink_after, turn_after, last_then}
use Rattle.chk_collector.proofs.PutLoop.{same_then as start_then}
use Rattle.chk_collector_run.proofs.Serving.{named_at, clock_last}
use Rattle.chk_collector_run.proofs.TickEnds.{outside_of_tick, tick_cause, settled_by, turn_by, cut_by, finds_by}
use Rattle.chk_collector_run.proofs.Turning.{ends_outside, same_process, cut_told, timed_told, ticked_told, cut_finds}
use Rattle.chk_collector_run.proofs.turn.collector_turn.Goals as goal

-- ---- the taking ended it

pub returns-in_err-serve-clause-turn : goal.returns-in_err-serve-clause-turn
returns-in_err-serve-clause-turn g c =
    let p = err_from_is_err_and c.from_residual.result c.from_residual.ensures.1 in rw p.1 tt

pub returns-in_err-serve-clause-refused : goal.returns-in_err-serve-clause-refused
returns-in_err-serve-clause-refused g c =
    let p = err_from_is_err_and c.from_residual.result c.from_residual.ensures.1 in
    rw (p.1, p.2) (untaken c.in_err-serve.ensures.script)

pub returns-in_err-serve-clause-told : goal.returns-in_err-serve-clause-told
returns-in_err-serve-clause-told g c stamped =
    let p = err_from_is_err_and c.from_residual.result c.from_residual.ensures.1 in
    rw (p.1, p.2)
    (cut_told stamped c.args.collector.now
    (named_at c.args.collector.now c.args.who.now c.requires.started c.requires.named)
    c.args.who.now c.requires.started c.serve.new.collector c.in_err-serve.field-0.0
    c.in_err-serve.ensures.only (c.in_err-serve.ensures.told stamped))

pub returns-in_err-serve-clause-finds : goal.returns-in_err-serve-clause-finds
returns-in_err-serve-clause-finds g c stamped settled =
    cut_finds stamped c.args.collector.now
    (named_at c.args.collector.now c.args.who.now c.requires.started c.requires.named)
    c.args.who.now c.requires.started c.in_err-serve.field-0.0 settled
    (untaken c.in_err-serve.ensures.script)

pub returns-in_err-serve-clause-settled : goal.returns-in_err-serve-clause-settled
returns-in_err-serve-clause-settled g c =
    let p = err_from_is_err_and c.from_residual.result c.from_residual.ensures.1 in rw p.1 tt

pub returns-in_err-serve-clause-same : goal.returns-in_err-serve-clause-same
returns-in_err-serve-clause-same g c = c.serve.ensures.same

pub returns-in_err-serve-clause-only : goal.returns-in_err-serve-clause-only
returns-in_err-serve-clause-only g c =
    let p = err_from_is_err_and c.from_residual.result c.from_residual.ensures.1 in
    rw (p.1, p.2) (outside_of_tick c.in_err-serve.field-0.0 c.in_err-serve.ensures.only)

pub returns-in_err-serve-clause-last : goal.returns-in_err-serve-clause-last
returns-in_err-serve-clause-last g c =
    let p = err_from_is_err_and c.from_residual.result c.from_residual.ensures.1 in
    rw (p.1, p.2) c.in_err-serve.ensures.last

pub returns-in_err-serve-clause-cause : goal.returns-in_err-serve-clause-cause
returns-in_err-serve-clause-cause g c =
    let p = err_from_is_err_and c.from_residual.result c.from_residual.ensures.1 in
    rw (p.1, p.2) c.in_err-serve.ensures.cause

-- ---- the clock ended it

pub returns-in_err-now-clause-turn : goal.returns-in_err-now-clause-turn
returns-in_err-now-clause-turn g c =
    let p = err_from_is_err_and c.from_residual-in_err-now.result
    c.from_residual-in_err-now.ensures.1 in rw p.1 tt

pub returns-in_err-now-clause-refused : goal.returns-in_err-now-clause-refused
returns-in_err-now-clause-refused g c =
    let p = err_from_is_err_and c.from_residual-in_err-now.result
    c.from_residual-in_err-now.ensures.1 in
    rw (p.1, p.2)
    (untimed c.in_err-now.ensures.call.0 c.in_ok-serve.ensures.script c.in_err-now.ensures.call.1
    c.in_err-now.ensures.call.2)

pub returns-in_err-now-clause-told : goal.returns-in_err-now-clause-told
returns-in_err-now-clause-told g c stamped =
    let named = named_at c.args.collector.now c.args.who.now c.requires.started c.requires.named in
    let p = err_from_is_err_and c.from_residual-in_err-now.result
    c.from_residual-in_err-now.ensures.1 in
    rw (p.1, p.2)
    (cut_told stamped c.args.collector.now named c.args.who.now c.requires.started
    c.serve.new.collector c.in_err-now.field-0.0
    (ends_outside Clock c.in_err-now.ensures.call.0 c.in_err-now.field-0.0
    c.in_err-now.ensures.call.1)
    (timed_told stamped c.args.collector.now named c.args.who.now c.requires.started
    c.serve.new.collector c.serve.ensures.same c.in_err-now.ensures.call.0
    (c.serve.ensures.told stamped) c.in_err-now.ensures.call.2))

pub returns-in_err-now-clause-finds : goal.returns-in_err-now-clause-finds
returns-in_err-now-clause-finds g c stamped settled =
    cut_finds stamped c.args.collector.now
    (named_at c.args.collector.now c.args.who.now c.requires.started c.requires.named)
    c.args.who.now c.requires.started c.in_err-now.field-0.0 settled
    (untimed c.in_err-now.ensures.call.0 c.in_ok-serve.ensures.script c.in_err-now.ensures.call.1
    c.in_err-now.ensures.call.2)

pub returns-in_err-now-clause-settled : goal.returns-in_err-now-clause-settled
returns-in_err-now-clause-settled g c =
    let p = err_from_is_err_and c.from_residual-in_err-now.result
    c.from_residual-in_err-now.ensures.1 in rw p.1 tt

pub returns-in_err-now-clause-same : goal.returns-in_err-now-clause-same
returns-in_err-now-clause-same g c = c.serve.ensures.same

pub returns-in_err-now-clause-only : goal.returns-in_err-now-clause-only
returns-in_err-now-clause-only g c =
    let p = err_from_is_err_and c.from_residual-in_err-now.result
    c.from_residual-in_err-now.ensures.1 in
    rw (p.1, p.2)
    (outside_of_tick c.in_err-now.field-0.0 (ends_outside Clock c.in_err-now.ensures.call.0
    c.in_err-now.field-0.0 c.in_err-now.ensures.call.1))

pub returns-in_err-now-clause-last : goal.returns-in_err-now-clause-last
returns-in_err-now-clause-last g c =
    let p = err_from_is_err_and c.from_residual-in_err-now.result
    c.from_residual-in_err-now.ensures.1 in
    rw (p.1, p.2)
    (clock_last c.args.who.now c.in_err-now.ensures.call.0 c.in_err-now.field-0.0
    (c.serve.ensures.told []) c.in_err-now.ensures.call.1 c.in_err-now.ensures.call.2)

pub returns-in_err-now-clause-cause : goal.returns-in_err-now-clause-cause
returns-in_err-now-clause-cause g c =
    let p = err_from_is_err_and c.from_residual-in_err-now.result
    c.from_residual-in_err-now.ensures.1 in
    rw (p.1, p.2)
    (sink_after ℕ (g.S.Site.fault_count c.args.site.now) (g.S.Site.fault_count c.serve.new.site)
    (g.S.Site.fault_count c.clock.new.site) c.in_err-now.field-0.0
    c.in_ok-serve.ensures.cause c.in_err-now.ensures.cause)

-- ---- it came to its tick

pub returns-clause-turn : goal.returns-clause-turn
returns-clause-turn g c =
    turn_by c.args.who.now c.args.door.now c.args.most c.args.collector.now c.serve.new.collector
    c.tick.new.self
    (c.requires.started ∙ sym (same_process c.args.collector.now c.serve.new.collector c.serve.ensures.same))
    c.in_ok-now.now c.tick.result
    (record {
      told = c.tick.ensures.told;
      same = c.tick.ensures.same;
      ok = c.tick.ensures.ok;
      refused = c.tick.ensures.refused;
      own = c.tick.ensures.own;
      fine = c.tick.ensures.fine;
      only = c.tick.ensures.only;
      damaged = c.tick.ensures.damaged;
      last = c.tick.ensures.last;
    }) c.in_ok-serve.ensures.script c.in_ok-now.ensures.call

pub returns-clause-refused : goal.returns-clause-refused
returns-clause-refused g c =
    cut_by c.args.who.now c.args.door.now c.args.most c.args.collector.now c.serve.new.collector
    c.tick.new.self
    (c.requires.started ∙ sym (same_process c.args.collector.now c.serve.new.collector c.serve.ensures.same))
    c.in_ok-now.now c.tick.result
    (record {
      told = c.tick.ensures.told;
      same = c.tick.ensures.same;
      ok = c.tick.ensures.ok;
      refused = c.tick.ensures.refused;
      own = c.tick.ensures.own;
      fine = c.tick.ensures.fine;
      only = c.tick.ensures.only;
      damaged = c.tick.ensures.damaged;
      last = c.tick.ensures.last;
    }) c.in_ok-serve.ensures.script c.in_ok-now.ensures.call

pub returns-clause-settled : goal.returns-clause-settled
returns-clause-settled g c =
    settled_by c.in_ok-now.now c.serve.new.collector c.tick.new.self c.tick.result c.tick.ensures.ok

pub returns-clause-told : goal.returns-clause-told
returns-clause-told g c stamped =
    let named = named_at c.args.collector.now c.args.who.now c.requires.started c.requires.named in
    ticked_told stamped c.args.collector.now named c.args.who.now c.requires.started
    c.serve.new.collector c.tick.new.self c.serve.ensures.same c.tick.result
    (returns-clause-settled g c)
    (timed_told stamped c.args.collector.now named c.args.who.now c.requires.started
    c.serve.new.collector c.serve.ensures.same (Ok c.in_ok-now.now)
    (c.serve.ensures.told stamped) c.in_ok-now.ensures.call) (c.tick.ensures.told stamped)

pub returns-clause-finds : goal.returns-clause-finds
returns-clause-finds g c stamped settled =
    finds_by stamped c.args.who.now c.args.door.now c.args.most c.args.collector.now c.tick.new.self
    c.args.tees.now c.serve.new.tees
    c.requires.started
    (named_at c.args.collector.now c.args.who.now c.requires.started c.requires.named) settled
    c.tick.result (returns-clause-turn g c) (returns-clause-refused g c)

pub returns-clause-same : goal.returns-clause-same
returns-clause-same g c =
    start_then c.args.collector.now c.serve.new.collector c.tick.new.self c.serve.ensures.same
    c.tick.ensures.same

pub returns-clause-only : goal.returns-clause-only
returns-clause-only g c = c.tick.ensures.only

pub returns-clause-last : goal.returns-clause-last
returns-clause-last g c =
    last_then c.tick.result (c.serve.ensures.told [])
    (last_then c.tick.result c.in_ok-now.ensures.call c.tick.ensures.last)

pub returns-clause-cause : goal.returns-clause-cause
returns-clause-cause g c =
    turn_after (g.S.Site.fault_count c.args.site.now) (g.S.Site.fault_count c.clock.new.site)
    (g.S.Site.fault_count c.tick.new.site) c.tick.result
    (risen_then (g.S.Site.fault_count c.args.site.now) (g.S.Site.fault_count c.serve.new.site)
    (g.S.Site.fault_count c.clock.new.site) c.in_ok-serve.ensures.cause
    (sink_risen _ _ (Ok c.in_ok-now.now) c.in_ok-now.ensures.cause))
    (tick_cause _ _ c.tick.result c.tick.ensures.cause)
