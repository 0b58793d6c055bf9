use Rattle.std.proofs.Common.{◌∙◌, Ok, Err, refl, arith}
use Rattle.chk_site.specs.History.{Every}
use Rattle.chk_site.proofs.Runs.{adds_as, adds_none}
use Rattle.chk_world.specs.JobSteps.{IsOf}
use Rattle.chk_ctl_passed.specs.declared.oldest.Came.{Came}
use Rattle.chk_ctl_passed.specs.declared.oldest.Oldest.{Oldest}
use Rattle.chk_ctl_passed.specs.declared.oldest.Oldest.TheVariants.{Base, Changed, Rotated}
use Rattle.chk_ctl_passed.specs.Oldest.{LooksAtLog, SawOldest}
use Rattle.chk_ctl_passed.proofs.Joined.{cause_as, cause_then, last_as, last_ok, last_then}
use Rattle.chk_ctl_passed.proofs.Joined.{own_then, saw_then}
use Rattle.chk_ctl_passed.proofs.oldest.read_oldest.Goals as goal

pub loop-suffix-init : goal.loop-suffix-init
loop-suffix-init g c = record {
  own = adds_none (g.S.Site.told c.args.site.now) (Every (IsOf (LooksAtLog c.args.path.now)))
      (λ history. tt);
  count = refl;
}

pub returns-in-Ok-Ended : goal.returns-in-Ok-Ended
returns-in-Ok-Ended g c =
    let i = c.loop-suffix.invariant in
    let path = c.args.path.now in
    record {
      saw =
          saw_then path (Ok (Rotated c.in-Ok-Ended.suffix)) i.own
          (rw c.in-Ok-Ended.field-0-is at c.in-Ok-Ended.ensures.saw);
      own = own_then path i.own c.in-Ok-Ended.ensures.own;
      last = last_then {T = Oldest} (Ok (Rotated c.in-Ok-Ended.suffix)) i.own
          (last_ok Oldest (Rotated c.in-Ok-Ended.suffix) c.in-Ok-Ended.ensures.own);
      cause = c.in-Ok-Ended.ensures.cause ∙ i.count;
    }

pub loop-suffix-smaller : goal.loop-suffix-smaller
loop-suffix-smaller g c =
    let up = rw c.in-Ok-More.field-0-is at c.in-Ok-More.ensures.up in
    omega (arith, up)

pub loop-suffix-preserved : goal.loop-suffix-preserved
loop-suffix-preserved g c = record {
  own = own_then c.args.path.now c.loop-suffix.invariant.own c.in-Ok-More.ensures.own;
  count = c.in-Ok-More.ensures.cause ∙ c.loop-suffix.invariant.count;
}

pub returns-in-Ok-Base : goal.returns-in-Ok-Base
returns-in-Ok-Base g c =
    let i = c.loop-suffix.invariant in
    let path = c.args.path.now in
    record {
      saw =
          saw_then path (Ok Base) i.own
          (rw c.in-Ok-Base.field-0-is at c.in-Ok-Base.ensures.saw);
      own = own_then path i.own c.in-Ok-Base.ensures.own;
      last = last_then {T = Oldest} (Ok Base) i.own
          (last_ok Oldest Base c.in-Ok-Base.ensures.own);
      cause = c.in-Ok-Base.ensures.cause ∙ i.count;
    }

pub returns-in-Ok-Changed : goal.returns-in-Ok-Changed
returns-in-Ok-Changed g c =
    let i = c.loop-suffix.invariant in
    let path = c.args.path.now in
    record {
      saw =
          saw_then path (Ok Changed) i.own
          (rw c.in-Ok-Changed.field-0-is at c.in-Ok-Changed.ensures.saw);
      own = own_then path i.own c.in-Ok-Changed.ensures.own;
      last = last_then {T = Oldest} (Ok Changed) i.own
          (last_ok Oldest Changed c.in-Ok-Changed.ensures.own);
      cause = c.in-Ok-Changed.ensures.cause ∙ i.count;
    }

pub returns-in-Err : goal.returns-in-Err
returns-in-Err g c =
    let i = c.loop-suffix.invariant in
    let path = c.args.path.now in
    let fault = c.in-Err.fault in
    let own = own_then path i.own c.in-Err.ensures.own in
    record {
      saw = adds_as (SawOldest path (Err fault)) own (λ a h x. tt);
      own = own;
      last = last_then {T = Oldest} (Err fault) i.own
          (last_as Came Oldest fault c.in-Err.ensures.last);
      cause = cause_then {T = Oldest} (Err fault) (g.S.Site.fault_count c.args.site.now)
          (g.S.Site.fault_count c.loop-suffix.site) (g.S.Site.fault_count c.read_at.new.site)
          i.count
          (cause_as Came Oldest fault (g.S.Site.fault_count c.loop-suffix.site)
          (g.S.Site.fault_count c.read_at.new.site) c.in-Err.ensures.cause);
    }
