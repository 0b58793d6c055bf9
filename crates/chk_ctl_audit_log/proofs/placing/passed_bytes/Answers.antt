use Rattle.std.proofs.Common.{◌≡◌, ◌∙◌, ℕ, ◌+◌, List, Option, None, Ok, Err, refl, subst, arith}
use Rattle.chk_site.specs.History.{Every}
use Rattle.chk_site.proofs.Runs.{adds_none}
use Rattle.chk_world.specs.JobSteps.{IsOf}
use Rattle.chk_ctl_audit_log.specs.declared.placing.Passing.{Passing}
use Rattle.chk_ctl_audit_log.specs.declared.placing.Passing.TheVariants.{Done, Further}
use Rattle.chk_ctl_audit_log.specs.Placing.{Passes, PassesNext, ReadsLogOf}
use Rattle.chk_ctl_audit_log.proofs.Owned.{own_then}
use Rattle.chk_ctl_audit_log.proofs.Placed.{cause_then, cause_as, passes_end, passes_on}
use Rattle.chk_ctl_audit_log.proofs.placing.passed_bytes.Goals as goal

pub loop-init : goal.loop-init
loop-init g c = record {
  own = adds_none (g.S.Site.told c.args.site.now) (Every (IsOf (ReadsLogOf c.args.path.now)))
      (λ history. tt);
  count = refl;
  behind = λ n new rest.
      subst (λ (k : ℕ). Passes c.args.who.now c.args.path.now c.args.last.now None k
      (g.S.Site.told c.args.site.now) new) (let e : n ≡ 0 + n = omega arith in e) rest;
}

pub loop-preserved : goal.loop-preserved
loop-preserved g c =
    let l = c.loop in
    let who = c.args.who.now in
    let path = c.args.path.now in
    let last = c.args.last.now in
    let mid = g.S.Site.told c.pass_next.new.site in
    let sum = c.in-Ok-Further.sum in
    let suffix = c.in-Ok-Further.suffix in
    let told = subst (λ (o : Option (List ℕ)). PassesNext who path last o l.bytes
    (Ok (Further suffix sum)) (g.S.Site.told l.site) mid) c.as_ref.ensures.value
    (rw c.in-Ok-Further.field-0-is at c.in-Ok-Further.ensures.told) in
    record {
      own = own_then path l.invariant.own c.in-Ok-Further.ensures.own;
      count = c.in-Ok-Further.ensures.cause ∙ l.invariant.count;
      behind = λ n new rest.
          passes_on who path last l.after l.bytes sum suffix
          (λ m more. l.invariant.behind m new more) told n rest;
    }

pub returns-in-Ok-Done : goal.returns-in-Ok-Done
returns-in-Ok-Done g c =
    let l = c.loop in
    let who = c.args.who.now in
    let path = c.args.path.now in
    let last = c.args.last.now in
    let new = g.S.Site.told c.pass_next.new.site in
    record {
      told = passes_end who path last l.after l.bytes
          (λ m more. l.invariant.behind m new more)
          (subst (λ (o : Option (List ℕ)). PassesNext who path last o l.bytes (Ok Done)
          (g.S.Site.told l.site) new) c.as_ref.ensures.value
          (rw c.in-Ok-Done.field-0-is at c.in-Ok-Done.ensures.told));
      own = own_then path l.invariant.own c.in-Ok-Done.ensures.own;
      cause = c.in-Ok-Done.ensures.cause ∙ l.invariant.count;
    }

pub returns-in-Err : goal.returns-in-Err
returns-in-Err g c =
    let l = c.loop in
    record {
      told = tt;
      own = own_then c.args.path.now l.invariant.own c.in-Err.ensures.own;
      cause = cause_then {T = ℕ} (Err c.in-Err.fault) (g.S.Site.fault_count c.args.site.now)
          (g.S.Site.fault_count l.site) (g.S.Site.fault_count c.pass_next.new.site)
          l.invariant.count
          (cause_as Passing ℕ c.in-Err.fault (g.S.Site.fault_count l.site)
          (g.S.Site.fault_count c.pass_next.new.site) c.in-Err.ensures.cause);
    }
