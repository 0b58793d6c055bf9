use Rattle.std.proofs.Common.{◌∙◌, Ok, Err, refl, sym, subst}
use Rattle.chk_ctl_passed.specs.Agents.{ByEach, ended, went_on}
use Rattle.chk_ctl_passed.specs.declared.judging.Verdict.{Verdict}
use Rattle.chk_ctl_passed.proofs.InTurn.{next_of, none_left}
use Rattle.chk_ctl_passed.proofs.Joined.{job_cause_then}
use Rattle.chk_ctl_passed.proofs.agents.weigh_each.Goals as goal

pub loop-name-preserved : goal.loop-name-preserved
loop-name-preserved g c =
    let l = c.loop-name in
    let path = c.args.path.now in
    let names = c.args.names.now in
    let next = next_of names l.name-index c.name-item.result c.as_str.result.now
    c.loop-name-test.true c.name-item.is c.as_str.ensures.text in
    record {
      behind = λ result new rest.
          l.invariant.behind result new
          (subst (λ ys. ByEach path result ys l.verdict (g.S.Site.told l.site) new) (sym next)
          (went_on c.in-Ok.ensures.told rest));
      count = c.in-Ok.ensures.cause ∙ l.invariant.count;
    }

pub returns-in-Err : goal.returns-in-Err
returns-in-Err g c =
    let l = c.loop-name in
    let path = c.args.path.now in
    let names = c.args.names.now in
    let new = g.S.Site.told c.weigh_one.new.site in
    let next = next_of names l.name-index c.name-item.result c.as_str.result.now
    c.loop-name-test.true c.name-item.is c.as_str.ensures.text in
    record {
      told =
          l.invariant.behind (Err c.in-Err.fault) new
          (subst (λ ys. ByEach path (Err c.in-Err.fault) ys l.verdict (g.S.Site.told l.site) new)
          (sym next) (ended refl c.in-Err.ensures.told));
      only = c.in-Err.ensures.only;
      cause = job_cause_then {T = Verdict} (Err c.in-Err.fault)
          (g.S.Site.fault_count c.args.site.now)
          (g.S.Site.fault_count l.site) (g.S.Site.fault_count c.weigh_one.new.site)
          l.invariant.count c.in-Err.ensures.cause;
    }

pub returns : goal.returns
returns g c =
    let l = c.loop-name in
    record {
      told =
          l.invariant.behind (Ok l.verdict) (g.S.Site.told l.site)
          (none_left c.args.path.now c.args.names.now l.name-index l.verdict
          (g.S.Site.told l.site) c.loop-name-test.false);
      only = tt;
      cause = l.invariant.count;
    }
