use Rattle.std.proofs.Common.{◌≡◌, arith}
use Rattle.std.proofs.lemmas.Result.{err_from_is_err_and}
use Rattle.chk_collector_run.proofs.Chains.{turns_begin, turns_on, chain_script, chain_told, chain_finds, chain_same, chain_last, chain_cause, chain_over}
use Rattle.chk_collector_run.proofs.run.run_turns.Goals as goal

pub loop-turn-init : goal.loop-turn-init
loop-turn-init g c =
    turns_begin c.args.who.now c.args.door.now c.args.most c.args.collector.now c.args.tees.now
    (g.S.Site.told c.args.site.now) (g.S.Site.fault_count c.args.site.now) c.requires.started
    c.requires.settled

pub collector_turn-requires : goal.collector_turn-requires
collector_turn-requires g c = record {
  started = c.loop-turn.invariant.who_is;
  named = c.requires.named;
}

pub loop-turn-preserved : goal.loop-turn-preserved
loop-turn-preserved g c =
    turns_on c.loop-turn.invariant c.collector_turn.new.collector c.collector_turn.new.tees
    (g.S.Site.told c.collector_turn.new.site) (g.S.Site.fault_count c.collector_turn.new.site)
    (record {
      told = c.in_ok-collector_turn.ensures.told;
      finds = c.in_ok-collector_turn.ensures.finds;
      same = c.in_ok-collector_turn.ensures.same;
      cause = c.in_ok-collector_turn.ensures.cause;
    }) c.in_ok-collector_turn.ensures.turn c.in_ok-collector_turn.ensures.settled

pub returns-in_err-collector_turn-clause-script : goal.returns-in_err-collector_turn-clause-script
returns-in_err-collector_turn-clause-script g c =
    let p = err_from_is_err_and c.from_residual.result c.from_residual.ensures.1 in
    rw (p.1, p.2)
    (chain_script c.loop-turn.invariant c.collector_turn.new.collector c.collector_turn.new.tees
    (g.S.Site.told c.collector_turn.new.site) (g.S.Site.fault_count c.collector_turn.new.site)
    c.args.turns c.in_err-collector_turn.field-0.0
    (record {
      told = c.in_err-collector_turn.ensures.told;
      finds = c.in_err-collector_turn.ensures.finds;
      same = c.in_err-collector_turn.ensures.same;
      cause = c.in_err-collector_turn.ensures.cause;
    }) (omega arith) c.in_err-collector_turn.ensures.refused)

pub returns-in_err-collector_turn-clause-told : goal.returns-in_err-collector_turn-clause-told
returns-in_err-collector_turn-clause-told g c stamped =
    let p = err_from_is_err_and c.from_residual.result c.from_residual.ensures.1 in
    rw (p.1, p.2)
    (chain_told c.loop-turn.invariant c.collector_turn.new.collector c.collector_turn.new.tees
    (g.S.Site.told c.collector_turn.new.site) (g.S.Site.fault_count c.collector_turn.new.site)
    c.args.turns c.in_err-collector_turn.field-0.0
    (record {
      told = c.in_err-collector_turn.ensures.told;
      finds = c.in_err-collector_turn.ensures.finds;
      same = c.in_err-collector_turn.ensures.same;
      cause = c.in_err-collector_turn.ensures.cause;
    }) stamped)

pub returns-in_err-collector_turn-clause-finds : goal.returns-in_err-collector_turn-clause-finds
returns-in_err-collector_turn-clause-finds g c stamped =
    chain_finds c.loop-turn.invariant c.collector_turn.new.collector c.collector_turn.new.tees
    (g.S.Site.told c.collector_turn.new.site) (g.S.Site.fault_count c.collector_turn.new.site)
    c.args.turns c.in_err-collector_turn.field-0.0
    (record {
      told = c.in_err-collector_turn.ensures.told;
      finds = c.in_err-collector_turn.ensures.finds;
      same = c.in_err-collector_turn.ensures.same;
      cause = c.in_err-collector_turn.ensures.cause;
    }) stamped

pub returns-in_err-collector_turn-clause-same : goal.returns-in_err-collector_turn-clause-same
returns-in_err-collector_turn-clause-same g c =
    chain_same c.loop-turn.invariant c.collector_turn.new.collector c.collector_turn.new.tees
    (g.S.Site.told c.collector_turn.new.site) (g.S.Site.fault_count c.collector_turn.new.site)
    c.args.turns c.in_err-collector_turn.field-0.0
    (record {
      told = c.in_err-collector_turn.ensures.told;
      finds = c.in_err-collector_turn.ensures.finds;
      same = c.in_err-collector_turn.ensures.same;
      cause = c.in_err-collector_turn.ensures.cause;
    })

pub returns-in_err-collector_turn-clause-only : goal.returns-in_err-collector_turn-clause-only
returns-in_err-collector_turn-clause-only g c =
    let p = err_from_is_err_and c.from_residual.result c.from_residual.ensures.1 in
    rw (p.1, p.2) c.in_err-collector_turn.ensures.only

pub returns-in_err-collector_turn-clause-last : goal.returns-in_err-collector_turn-clause-last
returns-in_err-collector_turn-clause-last g c =
    let p = err_from_is_err_and c.from_residual.result c.from_residual.ensures.1 in
    rw (p.1, p.2)
    (chain_last c.loop-turn.invariant c.collector_turn.new.collector c.collector_turn.new.tees
    (g.S.Site.told c.collector_turn.new.site) (g.S.Site.fault_count c.collector_turn.new.site)
    c.args.turns c.in_err-collector_turn.field-0.0
    (record {
      told = c.in_err-collector_turn.ensures.told;
      finds = c.in_err-collector_turn.ensures.finds;
      same = c.in_err-collector_turn.ensures.same;
      cause = c.in_err-collector_turn.ensures.cause;
    }) c.in_err-collector_turn.ensures.last)

pub returns-in_err-collector_turn-clause-cause : goal.returns-in_err-collector_turn-clause-cause
returns-in_err-collector_turn-clause-cause g c =
    let p = err_from_is_err_and c.from_residual.result c.from_residual.ensures.1 in
    rw (p.1, p.2)
    (chain_cause c.loop-turn.invariant c.collector_turn.new.collector c.collector_turn.new.tees
    (g.S.Site.told c.collector_turn.new.site) (g.S.Site.fault_count c.collector_turn.new.site)
    c.args.turns c.in_err-collector_turn.field-0.0
    (record {
      told = c.in_err-collector_turn.ensures.told;
      finds = c.in_err-collector_turn.ensures.finds;
      same = c.in_err-collector_turn.ensures.same;
      cause = c.in_err-collector_turn.ensures.cause;
    }))

pub returns-clause-script : goal.returns-clause-script
returns-clause-script g c =
    let e : c.loop-turn._turn ≡ c.args.turns = omega arith in
    rw e at c.loop-turn.invariant.script

pub returns-clause-told : goal.returns-clause-told
returns-clause-told g c stamped = c.loop-turn.invariant.told stamped

pub returns-clause-finds : goal.returns-clause-finds
returns-clause-finds g c stamped = c.loop-turn.invariant.finds stamped

pub returns-clause-same : goal.returns-clause-same
returns-clause-same g c = c.loop-turn.invariant.same

pub returns-clause-last : goal.returns-clause-last
returns-clause-last g c = chain_over c.loop-turn.invariant

pub returns-clause-cause : goal.returns-clause-cause
returns-clause-cause g c = c.loop-turn.invariant.risen
