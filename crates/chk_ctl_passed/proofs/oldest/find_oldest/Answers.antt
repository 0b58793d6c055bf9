use Rattle.std.proofs.Common.{Bool, Err}
use Rattle.chk_site.proofs.Runs.{adds_as}
use Rattle.chk_ctl_passed.specs.declared.oldest.Oldest.{Oldest}
use Rattle.chk_ctl_passed.specs.declared.oldest.Oldest.TheVariants.{Base}
use Rattle.chk_ctl_passed.specs.Oldest.{SawOldest}
use Rattle.chk_ctl_passed.proofs.Joined.{cause_as, cause_then, last_as, last_ok, last_then}
use Rattle.chk_ctl_passed.proofs.Joined.{own_then, saw_then}
use Rattle.chk_ctl_passed.proofs.oldest.find_oldest.Goals as goal

pub returns-in-Ok-true : goal.returns-in-Ok-true
returns-in-Ok-true g c =
    let path = c.args.path.now in
    let own = c.in-Ok-true.ensures.own in
    let result = c.read_oldest.result in
    record {
      saw = saw_then path result own c.read_oldest.ensures.saw;
      own = own_then path own c.read_oldest.ensures.own;
      last = last_then result own c.read_oldest.ensures.last;
      cause = cause_then result (g.S.Site.fault_count c.args.site.now)
          (g.S.Site.fault_count c.has_rotated.new.site)
          (g.S.Site.fault_count c.read_oldest.new.site) c.in-Ok-true.ensures.cause
          c.read_oldest.ensures.cause;
    }

pub returns-in-Ok-false : goal.returns-in-Ok-false
returns-in-Ok-false g c = record {
  saw = rw c.in-Ok-false.field-0-test at c.in-Ok-false.ensures.saw;
  own = c.in-Ok-false.ensures.own;
  last = last_ok Oldest Base c.in-Ok-false.ensures.own;
  cause = c.in-Ok-false.ensures.cause;
}

pub returns-in-Err : goal.returns-in-Err
returns-in-Err g c = record {
  saw = adds_as (SawOldest c.args.path.now (Err c.in-Err.fault)) c.in-Err.ensures.own
      (λ a h x. tt);
  own = c.in-Err.ensures.own;
  last = last_as Bool Oldest c.in-Err.fault c.in-Err.ensures.last;
  cause = cause_as Bool Oldest c.in-Err.fault (g.S.Site.fault_count c.args.site.now)
      (g.S.Site.fault_count c.has_rotated.new.site) c.in-Err.ensures.cause;
}
