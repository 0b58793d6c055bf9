use Rattle.std.proofs.Common.{◌∙◌, ◌-◌, ◌<◌, ap, arith, refl, subst}
use Rattle.chk_site.specs.History.{Every}
use Rattle.chk_site.specs.Site.{Adds}
use Rattle.chk_site.proofs.Runs.{adds_none}
use Rattle.chk_world.specs.JobSteps.{IsOf}
use Rattle.chk_ctl_audit_log.specs.Placing.{ReadsLogOf}
use Rattle.chk_ctl_audit_log.proofs.Owned.{own_then}
use Rattle.chk_ctl_audit_log.proofs.Loop.{begun, goes_on}
use Rattle.chk_ctl_audit_log.proofs.summing.sum_on.Goals as goal

pub loop-alloc-init : goal.loop-alloc-init
loop-alloc-init g c = record {
  so =
      begun c.args.who.now c.args.reader.now c.args.end c.new-hasher.result
      (g.S.Site.told c.args.site.now) c.requires.plain c.new-hasher.ensures;
  own = adds_none (g.S.Site.told c.args.site.now)
      (Every (IsOf (ReadsLogOf c.args.reader.now.path))) (λ history. tt);
  count = refl;
}

pub loop-alloc-smaller : goal.loop-alloc-smaller
loop-alloc-smaller g c =
    let l = c.loop-alloc in
    let at = c.read_end-at.ensures in
    let below : l.reader.read.offset < c.args.end =
    subst (λ k. k < c.args.end) at c.if-at-end.false in
    let r = goes_on c.args.who.now c.args.reader.now l.reader c.take_more.new.reader c.args.end
    (c.args.end - c.read_end-at.result) l.hasher c.take_more.new.hasher l.invariant.so below
    (ap (λ k. c.args.end - k) at)
    (rw c.in-Ok-true.field-0-test at c.in-Ok-true.ensures.told) in
    let up = r.1 in
    omega (arith, below, up)

pub loop-alloc-preserved : goal.loop-alloc-preserved
loop-alloc-preserved g c =
    let l = c.loop-alloc in
    let at = c.read_end-at.ensures in
    let below : l.reader.read.offset < c.args.end =
    subst (λ k. k < c.args.end) at c.if-at-end.false in
    let r = goes_on c.args.who.now c.args.reader.now l.reader c.take_more.new.reader c.args.end
    (c.args.end - c.read_end-at.result) l.hasher c.take_more.new.hasher l.invariant.so below
    (ap (λ k. c.args.end - k) at)
    (rw c.in-Ok-true.field-0-test at c.in-Ok-true.ensures.told) in
    record {
      so = r.0;
      own = own_then c.args.reader.now.path l.invariant.own
          (subst (λ path. Adds (g.S.Site.told l.site) (g.S.Site.told c.take_more.new.site)
          (Every (IsOf (ReadsLogOf path)))) l.invariant.so.path c.in-Ok-true.ensures.own);
      count = c.in-Ok-true.ensures.cause ∙ l.invariant.count;
    }

pub returns-in-Ok-false-clause-own : goal.returns-in-Ok-false-clause-own
returns-in-Ok-false-clause-own g c =
    let l = c.loop-alloc in
    own_then c.args.reader.now.path l.invariant.own
    (subst (λ path. Adds (g.S.Site.told l.site) (g.S.Site.told c.take_more.new.site)
    (Every (IsOf (ReadsLogOf path)))) l.invariant.so.path c.in-Ok-false.ensures.own)

pub returns-in-Err-clause-own : goal.returns-in-Err-clause-own
returns-in-Err-clause-own g c =
    let l = c.loop-alloc in
    own_then c.args.reader.now.path l.invariant.own
    (subst (λ path. Adds (g.S.Site.told l.site) (g.S.Site.told c.take_more.new.site)
    (Every (IsOf (ReadsLogOf path)))) l.invariant.so.path c.in-Err.ensures.own)
