use Rattle.std.proofs.Common.{Result, Ok, Err, refl, ap, sym, ◌∙◌, subst, arith}
use Rattle.std.specs.Prelude.{Contains}
use Rattle.std.proofs.lemmas.Result.{err_from_is_err_and}
use Rattle.chk_round.specs.declared.faults.RoundFault.{RoundFault}
use Rattle.chk_round.specs.declared.starting.Pair.{Pair}
use Rattle.chk_round.specs.Faults.{RoundCause}
use Rattle.chk_round.proofs.Ends.{late_cause}
use Rattle.chk_round.proofs.Following.{logs_follow}
use Rattle.chk_round.proofs.Gathers.{fresh_steady, gathered, logs_met, logs_steady, logs_unmet}
use Rattle.chk_round.proofs.Lasting.{inside_late, last_inside, went_then}
use Rattle.chk_round.proofs.NoRead.{call_plain, only_shown}
use Rattle.chk_site.specs.Site.{Adds}
use Rattle.chk_round.specs.Adding.{AddsLogs}
use Rattle.chk_round.specs.Begun.{AgentBegan}
use Rattle.chk_round.specs.Starts.{EndsWithClock, inside}
use Rattle.chk_round.proofs.Acts.{begun_of, logs_acts, only_begun, timed, timed_then}
use Rattle.chk_round.proofs.gathering.gather.Goals as goal

pub returns-in_err-pair-clause-told : goal.returns-in_err-pair-clause-told
returns-in_err-pair-clause-told g c stamped started acting run =
    let p = err_from_is_err_and c.from_residual.result c.from_residual.ensures.1 in
    rw (p.1, p.2) (c.in_err-pair.ensures.told stamped started acting run)

pub returns-in_err-pair-clause-cause : goal.returns-in_err-pair-clause-cause
returns-in_err-pair-clause-cause g c =
    let p = err_from_is_err_and c.from_residual.result c.from_residual.ensures.1 in
    subst (λ (r : Result Pair RoundFault). RoundCause (g.S.Site.fault_count c.args.site.now)
    (g.S.Site.fault_count c.start_pair.new.site) r) (sym (p.1 ∙ ap Err p.2)) c.in_err-pair.ensures.cause

pub returns-in-Err-clause-told : goal.returns-in-Err-clause-told
returns-in-Err-clause-told g c stamped started acting run =
    let fresh = c.in_ok-pair.ensures.fresh in
    logs_unmet stamped c.args.reading.now.name started acting run c.in_ok-pair.pair.collector c.in_ok-pair.pair.agent
    c.add_logs.new.agent fresh.sinks.collector fresh.agent_is.source (c.in_ok-pair.ensures.told stamped started acting run)
    (c.add_logs.ensures.told stamped) c.in-Err.fault c.in-Err.ensures.only

pub returns-in-Err-clause-cause : goal.returns-in-Err-clause-cause
returns-in-Err-clause-cause g c =
    late_cause Pair (Unit {0}) _ _ _ c.in-Err.fault c.in_ok-pair.ensures.cause c.in-Err.ensures.cause

pub returns-in-Ok-clause-gathered : goal.returns-in-Ok-clause-gathered
returns-in-Ok-clause-gathered g c =
    gathered c.args.reading.now.name c.args.ring c.args.rules c.in_ok-pair.pair.collector c.in_ok-pair.pair.agent
    c.add_logs.new.agent c.requires.ring c.in_ok-pair.ensures.fresh (logs_steady c.in-Ok.ensures.script)
    c.add_logs.ensures.source c.in-Ok.ensures.ready

pub returns-in-Ok-clause-begins : goal.returns-in-Ok-clause-begins
returns-in-Ok-clause-begins g c =
    let fresh = c.in_ok-pair.pair.agent in
    let old = g.S.Site.told c.args.site.now in
    let mid = g.S.Site.told c.start_pair.new.site in
    record {
      rules = c.args.rules;
      cluster_is = refl;
      fresh = fresh;
      mid = mid;
      began = subst (λ w. AgentBegan w inside c.args.rules fresh old mid) c.requires.agent_is
          (subst (λ r. AgentBegan c.args.reading.now r c.args.rules fresh old mid) c.requires.ring
          c.in_ok-pair.ensures.began);
      adds = subst (λ ls. AddsLogs c.args.given.now.class c.args.given.now.kind ls fresh (Ok tt) c.add_logs.new.agent mid
          (g.S.Site.told c.add_logs.new.site)) c.as_slice-logs.ensures.value c.in-Ok.ensures.script;
    }

pub returns-in-Ok-clause-told : goal.returns-in-Ok-clause-told
returns-in-Ok-clause-told g c stamped started acting run =
    let fresh = c.in_ok-pair.ensures.fresh in
    logs_met stamped c.args.reading.now.name started acting run c.in_ok-pair.pair.collector c.in_ok-pair.pair.agent
    c.add_logs.new.agent fresh.sinks.collector fresh.agent_is.source (c.in_ok-pair.ensures.told stamped started acting run)
    (c.add_logs.ensures.told stamped)

pub returns-in-Ok-clause-cause : goal.returns-in-Ok-clause-cause
returns-in-Ok-clause-cause g c =
    let one = c.in_ok-pair.ensures.cause in let two = c.in-Ok.ensures.cause in omega (arith, one, two)

pub returns-in-Ok-clause-live : goal.returns-in-Ok-clause-live
returns-in-Ok-clause-live g c log one =
    logs_follow
    (fresh_steady c.args.reading.now.name c.args.ring c.args.rules c.in_ok-pair.pair.collector c.in_ok-pair.pair.agent
    c.in_ok-pair.ensures.fresh)
    c.in-Ok.ensures.script log (subst (λ ls. Contains ls log) (sym c.as_slice-logs.ensures.value) one)

pub returns-in_err-pair-clause-last : goal.returns-in_err-pair-clause-last
returns-in_err-pair-clause-last g c =
    let p = err_from_is_err_and c.from_residual.result c.from_residual.ensures.1 in
    rw (p.1, p.2) (last_inside Pair Pair c.in_err-pair.field-0.0 c.in_err-pair.ensures.last)

pub returns-in-Err-clause-last : goal.returns-in-Err-clause-last
returns-in-Err-clause-last g c =
    inside_late Pair Pair c.in-Err.fault c.in_ok-pair.ensures.last
    (last_inside Pair (Unit {0}) c.in-Err.fault c.in-Err.ensures.last)

pub returns-in-Ok-clause-last : goal.returns-in-Ok-clause-last
returns-in-Ok-clause-last g c = went_then c.in_ok-pair.ensures.last c.in-Ok.ensures.last

pub returns-in_err-pair-clause-only : goal.returns-in_err-pair-clause-only
returns-in_err-pair-clause-only g c =
    let p = err_from_is_err_and c.from_residual.result c.from_residual.ensures.1 in
    rw (p.1, p.2) (c.in_err-pair.ensures.only)

pub returns-in-Err-clause-only : goal.returns-in-Err-clause-only
returns-in-Err-clause-only g c =
    call_plain c.in-Err.fault c.in-Err.ensures.only

pub returns-in_err-pair-clause-acts : goal.returns-in_err-pair-clause-acts
returns-in_err-pair-clause-acts g c = only_begun c.args.reading.now.name c.start_pair.ensures.acts

pub returns-in-Err-clause-acts : goal.returns-in-Err-clause-acts
returns-in-Err-clause-acts g c =
    begun_of c.args.reading.now.name
    (timed_then c.args.reading.now.name
    (timed c.args.reading.now.name c.in_ok-pair.pair.now c.start_pair.ensures.acts
    (subst (λ w. Adds (g.S.Site.told c.args.site.now) (g.S.Site.told c.start_pair.new.site) (EndsWithClock w c.in_ok-pair.pair.now))
    c.requires.agent_is c.in_ok-pair.ensures.clock))
    (logs_acts c.add_logs.ensures.script))

pub returns-in-Ok-clause-timed : goal.returns-in-Ok-clause-timed
returns-in-Ok-clause-timed g c =
    timed_then c.args.reading.now.name
    (timed c.args.reading.now.name c.in_ok-pair.pair.now c.start_pair.ensures.acts
    (subst (λ w. Adds (g.S.Site.told c.args.site.now) (g.S.Site.told c.start_pair.new.site) (EndsWithClock w c.in_ok-pair.pair.now))
    c.requires.agent_is c.in_ok-pair.ensures.clock))
    (logs_acts c.add_logs.ensures.script)

pub returns-in-Ok-clause-acts : goal.returns-in-Ok-clause-acts
returns-in-Ok-clause-acts g c = begun_of c.args.reading.now.name (returns-in-Ok-clause-timed g c)

pub returns-in_err-pair-clause-shown : goal.returns-in_err-pair-clause-shown
returns-in_err-pair-clause-shown g c =
    let p = err_from_is_err_and c.from_residual.result c.from_residual.ensures.1 in
    rw (p.1, p.2) (c.in_err-pair.ensures.shown)

pub returns-in-Err-clause-shown : goal.returns-in-Err-clause-shown
returns-in-Err-clause-shown g c =
    only_shown Pair c.args.reading.now.name (Err c.in-Err.fault) c.in-Err.ensures.only
    (g.S.Site.told c.args.site.now) (g.S.Site.told c.add_logs.new.site)
