use Rattle.std.proofs.Common.{◌∙◌, ◌++◌, List, ℕ, Err, ap, arith, length, refl, subst, sym, take}
use Rattle.std.proofs.lemmas.List.{append-nil, length-drop, take_all}
use Rattle.chk_site.specs.History.{Every}
use Rattle.chk_site.proofs.Runs.{adds_none}
use Rattle.chk_world.specs.JobSteps.{IsOf}
use Rattle.chk_ctl_audit_log.specs.Placing.{ReadsLogOf}
use Rattle.chk_ctl_audit_log.proofs.Owned.{own_then}
use Rattle.chk_ctl_audit_log.proofs.Placed.{cause_then, cause_as}
use Rattle.chk_ctl_audit_log.specs.declared.ahead.Next.{Next}
use Rattle.chk_ctl_audit_log.specs.declared.comparing.Met.{Met}
use Rattle.chk_ctl_audit_log.specs.Ahead.{LogAt}
use Rattle.chk_ctl_audit_log.specs.Meeting.{DiffersAt, EndsAt}
use Rattle.chk_ctl_audit_log.proofs.Logs.{log_own, one_front, one_whole}
use Rattle.chk_ctl_audit_log.proofs.comparing.compare_rest.Goals as goal

pub compare_next-requires-clause-some : goal.compare_next-requires-clause-some
compare_next-requires-clause-some g c =
    let low = c.loop-done-test.true in
    let size = ap length c.behind.ensures ∙ length-drop c.loop-done.done c.args.rest.now in
    omega (arith, low, size)

pub loop-done-init : goal.loop-done-init
loop-done-init g c = record {
  so = λ from passed before at.
      subst (λ (b : List ℕ). LogAt c.args.who.now from b c.args.log.now before
      (g.S.Site.told c.args.site.now)) (sym (append-nil passed)) at;
  own = adds_none (g.S.Site.told c.args.site.now)
      (Every (IsOf (ReadsLogOf c.args.log.now.reader.path))) (λ history. tt);
  path = refl;
  count = refl;
  within = omega arith;
}

pub loop-done-smaller : goal.loop-done-smaller
loop-done-smaller g c =
    let l = c.loop-done in
    let low = c.loop-done-test.true in
    let next = rw c.in-Ok-Same.field-0-is at c.in-Ok-Same.ensures.next in
    let some = next.0 in
    omega (arith, low, some)

pub loop-done-preserved : goal.loop-done-preserved
loop-done-preserved g c =
    let l = c.loop-done in
    let i = l.invariant in
    let who = c.args.who.now in
    let rest = c.args.rest.now in
    let n = c.in-Ok-Same.count in
    let new = g.S.Site.told c.compare_next.new.site in
    let left = c.behind.ensures in
    let next = rw c.in-Ok-Same.field-0-is at c.in-Ok-Same.ensures.next in
    let size = ap length left ∙ length-drop l.done rest in
    let few = next.1 in
    let low = c.loop-done-test.true in
    record {
      so = λ from passed before at.
          subst (λ (b : List ℕ). LogAt who from b c.compare_next.new.log before new)
          (ap (λ (b : List ℕ). (passed ++ take l.done rest) ++ take n b) left
          ∙ one_front passed rest l.done n)
          (rw c.in-Ok-Same.field-0-is at (c.in-Ok-Same.ensures.told from
          (passed ++ take l.done rest) before (i.so from passed before at)));
      own = own_then c.args.log.now.reader.path i.own
          (log_own i.path c.in-Ok-Same.ensures.own);
      path = c.in-Ok-Same.ensures.path ∙ i.path;
      count = c.in-Ok-Same.ensures.cause ∙ i.count;
      within = omega (arith, low, size, few);
    }

pub returns-in-Ok-Differs : goal.returns-in-Ok-Differs
returns-in-Ok-Differs g c =
    let l = c.loop-done in
    let i = l.invariant in
    let who = c.args.who.now in
    let rest = c.args.rest.now in
    let at = c.in-Ok-Differs.at in
    let new = g.S.Site.told c.compare_next.new.site in
    record {
      told = λ from passed before log.
          subst (λ (b : List ℕ). DiffersAt who from b at before new)
          (ap (λ (b : List ℕ). (passed ++ take l.done rest) ++ b) c.behind.ensures
          ∙ one_whole passed rest l.done)
          (rw c.in-Ok-Differs.field-0-is at (c.in-Ok-Differs.ensures.told from
          (passed ++ take l.done rest) before (i.so from passed before log)));
      own = own_then c.args.log.now.reader.path i.own
          (log_own i.path c.in-Ok-Differs.ensures.own);
      path = c.in-Ok-Differs.ensures.path ∙ i.path;
      cause = c.in-Ok-Differs.ensures.cause ∙ i.count;
    }

pub returns-in-Ok-Ends : goal.returns-in-Ok-Ends
returns-in-Ok-Ends g c =
    let l = c.loop-done in
    let i = l.invariant in
    let who = c.args.who.now in
    let rest = c.args.rest.now in
    let at = c.in-Ok-Ends.at in
    let new = g.S.Site.told c.compare_next.new.site in
    record {
      told = λ from passed before log.
          subst (λ (b : List ℕ). EndsAt who from b at before new)
          (ap (λ (b : List ℕ). (passed ++ take l.done rest) ++ b) c.behind.ensures
          ∙ one_whole passed rest l.done)
          (rw c.in-Ok-Ends.field-0-is at (c.in-Ok-Ends.ensures.told from
          (passed ++ take l.done rest) before (i.so from passed before log)));
      own = own_then c.args.log.now.reader.path i.own
          (log_own i.path c.in-Ok-Ends.ensures.own);
      path = c.in-Ok-Ends.ensures.path ∙ i.path;
      cause = c.in-Ok-Ends.ensures.cause ∙ i.count;
    }

pub returns-in-Err : goal.returns-in-Err
returns-in-Err g c =
    let l = c.loop-done in
    let i = l.invariant in
    record {
      told = λ from passed before log. tt;
      own = own_then c.args.log.now.reader.path i.own (log_own i.path c.in-Err.ensures.own);
      path = c.in-Err.ensures.path ∙ i.path;
      cause = cause_then {T = Met} (Err c.in-Err.fault) (g.S.Site.fault_count c.args.site.now)
          (g.S.Site.fault_count l.site) (g.S.Site.fault_count c.compare_next.new.site) i.count
          (cause_as Next Met c.in-Err.fault (g.S.Site.fault_count l.site)
          (g.S.Site.fault_count c.compare_next.new.site) c.in-Err.ensures.cause);
    }

pub returns : goal.returns
returns g c =
    let l = c.loop-done in
    let i = l.invariant in
    let past = c.loop-done-test.false in
    record {
      told = λ from passed before log.
          subst (λ (b : List ℕ). LogAt c.args.who.now from (passed ++ b) l.log before
          (g.S.Site.told l.site)) (take_all l.done c.args.rest.now past)
          (i.so from passed before log);
      own = i.own;
      path = i.path;
      cause = i.count;
    }
