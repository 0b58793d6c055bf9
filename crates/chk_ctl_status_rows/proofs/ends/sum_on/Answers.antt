use Rattle.std.proofs.Common.{◌∙◌, ℕ, Option, Ok, Err, None, Some, refl}
use Rattle.chk_ctl_status_rows.specs.declared.probing.Next.{Next}
use Rattle.chk_ctl_status_rows.specs.declared.probing.Next.TheVariants.{Last, Changed}
use Rattle.chk_ctl_status_rows.specs.Ends.{ends, goes_on, too_many}
use Rattle.chk_ctl_passed.proofs.Joined.{cause_as, cause_then}
use Rattle.chk_ctl_status_rows.proofs.ends.sum_on.Goals as goal

pub loop-seen-preserved : goal.loop-seen-preserved
loop-seen-preserved g c =
    let l = c.loop-seen in
    record {
      count = c.in-Ok-More.ensures.cause ∙ l.invariant.count;
      behind = λ result new rest.
          l.invariant.behind result new
          (goes_on (rw c.in-Ok-More.field-0-is at c.in-Ok-More.ensures.told) rest);
    }

pub returns-in-Ok-Last-clause-told : goal.returns-in-Ok-Last-clause-told
returns-in-Ok-Last-clause-told g c =
    c.loop-seen.invariant.behind (Ok (Some c.in-Ok-Last.last)) (g.S.Site.told c.see.new.site)
    (ends (Ok (Last c.in-Ok-Last.last))
    (rw c.in-Ok-Last.field-0-is at c.in-Ok-Last.ensures.told) refl)

pub returns-in-Ok-Last-clause-cause : goal.returns-in-Ok-Last-clause-cause
returns-in-Ok-Last-clause-cause g c =
    c.in-Ok-Last.ensures.cause ∙ c.loop-seen.invariant.count

pub returns-in-Ok-Changed-clause-told : goal.returns-in-Ok-Changed-clause-told
returns-in-Ok-Changed-clause-told g c =
    c.loop-seen.invariant.behind (Ok None) (g.S.Site.told c.see.new.site)
    (ends (Ok Changed)
    (rw c.in-Ok-Changed.field-0-is at c.in-Ok-Changed.ensures.told) refl)

pub returns-in-Ok-Changed-clause-cause : goal.returns-in-Ok-Changed-clause-cause
returns-in-Ok-Changed-clause-cause g c =
    c.in-Ok-Changed.ensures.cause ∙ c.loop-seen.invariant.count

pub returns-in-Err-clause-told : goal.returns-in-Err-clause-told
returns-in-Err-clause-told g c =
    c.loop-seen.invariant.behind (Err c.in-Err.fault) (g.S.Site.told c.see.new.site)
    (ends (Err c.in-Err.fault) c.in-Err.ensures.told refl)

pub returns-in-Err-clause-cause : goal.returns-in-Err-clause-cause
returns-in-Err-clause-cause g c =
    cause_then {T = Option ℕ} (Err c.in-Err.fault) (g.S.Site.fault_count c.args.site.now)
    (g.S.Site.fault_count c.loop-seen.site) (g.S.Site.fault_count c.see.new.site)
    c.loop-seen.invariant.count
    (cause_as Next (Option ℕ) c.in-Err.fault (g.S.Site.fault_count c.loop-seen.site)
    (g.S.Site.fault_count c.see.new.site) c.in-Err.ensures.cause)

pub returns-clause-told : goal.returns-clause-told
returns-clause-told g c =
    c.loop-seen.invariant.behind (Ok None) (g.S.Site.told c.loop-seen.site)
    (too_many c.loop-seen-test.false refl)

pub returns-clause-cause : goal.returns-clause-cause
returns-clause-cause g c = c.loop-seen.invariant.count
