use Rattle.std.proofs.Common.{◌+◌, [], drop, Result, Err, ap, sym, ◌∙◌, subst, arith}
use Rattle.std.proofs.Math.ListN.{drop_of_length-le}
use Rattle.std.proofs.lemmas.Result.{err_from_is_err_and}
use Rattle.chk_site.specs.Site.{Adds}
use Rattle.chk_agent.specs.declared.answers.Added.{Added}
use Rattle.chk_round.specs.declared.faults.RoundFault.{RoundFault}
use Rattle.chk_round.specs.Faults.{FailsLast}
use Rattle.chk_round.proofs.Added.{added_same, added_source, all_added, ended_added, next_is, one_added, quiet_then}
use Rattle.chk_round.proofs.Ends.{agent_last, last_late}
use Rattle.chk_agent.proofs.Alike.{nothing_last}
use Rattle.chk_round.proofs.adding.add_logs.Goals as goal

pub returns-in_err-_added-clause-script : goal.returns-in_err-_added-clause-script
returns-in_err-_added-clause-script g c =
    let p = err_from_is_err_and c.from_residual.result c.from_residual.ensures.1 in
    rw (p.1, p.2)
    (ended_added c.log-item.result (drop (c.loop-log.log-index + 1) c.args.logs.now)
    (next_is c.args.logs.now c.loop-log.log-index c.log-item.result c.loop-log-test.true c.log-item.is)
    c.loop-log.invariant.so_far c.add.new.self c.in_err-_added.field-0.0 c.in_err-_added.ensures.state)

pub returns-in_err-_added-clause-told : goal.returns-in_err-_added-clause-told
returns-in_err-_added-clause-told g c =
    quiet_then c.args.agent.now c.loop-log.agent c.add.new.self c.loop-log.invariant.source c.loop-log.invariant.quiet c.add.ensures.told

pub returns-in_err-_added-clause-source : goal.returns-in_err-_added-clause-source
returns-in_err-_added-clause-source g c = added_source c.in_err-_added.ensures.state ∙ c.loop-log.invariant.source

pub returns-in_err-_added-clause-last : goal.returns-in_err-_added-clause-last
returns-in_err-_added-clause-last g c =
    let p = err_from_is_err_and c.from_residual.result c.from_residual.ensures.1 in
    subst (λ (r : Result (Unit {0}) RoundFault). Adds (g.S.Site.told c.args.site.now) (g.S.Site.told c.add.new.site) (FailsLast r))
    (sym (p.1 ∙ ap Err p.2))
    (last_late (Unit {0}) _ (c.loop-log.invariant.quiet [])
    (agent_last (Unit {0}) Added c.in_err-_added.field-0.0 c.in_err-_added.ensures.last))

pub loop-log-preserved : goal.loop-log-preserved
loop-log-preserved g c =
    let same = added_same c.in_ok-_added.ensures.state in
    record {
      so_far = one_added c.log-item.result (drop (c.loop-log.log-index + 1) c.args.logs.now)
          (next_is c.args.logs.now c.loop-log.log-index c.log-item.result c.loop-log-test.true c.log-item.is)
          c.loop-log.invariant.so_far c.add.new.self c.in_ok-_added._added c.in_ok-_added.ensures.state;
      quiet = quiet_then c.args.agent.now c.loop-log.agent c.add.new.self c.loop-log.invariant.source c.loop-log.invariant.quiet c.add.ensures.told;
      source = same.source ∙ c.loop-log.invariant.source;
      ready = same.ready ∙ c.loop-log.invariant.ready;
      count = (let so_far = c.loop-log.invariant.count in let more = c.in_ok-_added.ensures.cause in omega (arith, so_far, more));
    }

pub returns-clause-script : goal.returns-clause-script
returns-clause-script g c =
    all_added c.loop-log.invariant.so_far (drop_of_length-le c.args.logs.now c.loop-log-test.false)

pub returns-clause-last : goal.returns-clause-last
returns-clause-last g c = nothing_last (c.loop-log.invariant.quiet [])
