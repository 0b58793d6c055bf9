use Rattle.std.proofs.Common.{◌∙◌, ℕ, List, drop, Ok, Err, refl, subst, sym, arith}
use Rattle.std.proofs.Math.ListN.{drop_of_length-le}
use Rattle.chk_book.specs.declared.lists.End.{End}
use Rattle.chk_ctl_audit.specs.Finding.{between, ended, FindsEach, more, over}
use Rattle.chk_ctl_audit.proofs.Steps.{job_as, job_then, split_at}
use Rattle.chk_ctl_audit.proofs.agents.find_rests.Goals as goal

pub loop-at-init : goal.loop-at-init
loop-at-init g c = record { count = refl; behind = λ result last new rest. rest }

pub loop-at-smaller : goal.loop-at-smaller
loop-at-smaller g c =
    let low = c.loop-at-test.true in
    let up = c.in-Ok.ensures.told.further in
    omega (arith, low, up)

pub loop-at-preserved : goal.loop-at-preserved
loop-at-preserved g c =
    let l = c.loop-at in
    let t = c.in-Ok.ensures.told in
    record {
      count = c.in-Ok.ensures.cause ∙ l.invariant.count;
      behind = λ result last new rest.
          l.invariant.behind result last new
          (more (between l.at c.in-Ok.past c.args.ends.now) (drop c.in-Ok.past c.args.ends.now)
          (split_at l.at c.in-Ok.past c.args.ends.now t.further) t.one t.from rest);
    }

pub returns-in-Err : goal.returns-in-Err
returns-in-Err g c =
    let l = c.loop-at in
    let fault = c.in-Err.fault in
    let t = c.in-Err.ensures.told in
    record {
      told = l.invariant.behind (Err fault) c.find_next.new.rests.items
          (g.S.Site.told c.find_next.new.site)
          (ended (between l.at t.0 c.args.ends.now) (drop t.0 c.args.ends.now) fault
          (split_at l.at t.0 c.args.ends.now t.1.further) t.1.one t.1.from refl);
      only = c.in-Err.ensures.only;
      cause = job_then {T = Unit {0}} (Err fault) (g.S.Site.fault_count c.args.site.now)
          (g.S.Site.fault_count l.site) (g.S.Site.fault_count c.find_next.new.site)
          l.invariant.count
          (job_as ℕ (Unit {0}) fault (g.S.Site.fault_count l.site)
          (g.S.Site.fault_count c.find_next.new.site) c.in-Err.ensures.cause);
    }

pub returns : goal.returns
returns g c =
    let l = c.loop-at in
    let now = g.S.Site.told l.site in
    record {
      told = l.invariant.behind (Ok tt) l.rests.items now
          (subst (λ (es : List End). FindsEach (Ok tt) l.rests.items es l.rests.items now now)
          (sym (drop_of_length-le c.args.ends.now c.loop-at-test.false)) (over refl refl));
      only = tt;
      cause = l.invariant.count;
    }
