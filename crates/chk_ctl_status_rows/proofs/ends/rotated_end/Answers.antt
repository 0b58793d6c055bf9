use Rattle.std.proofs.Common.{ℕ, Option, Ok, Err, refl}
use Rattle.chk_ctl_status_rows.specs.declared.probing.Next.{Next}
use Rattle.chk_ctl_status_rows.specs.declared.probing.Next.TheVariants.{Last, More, Changed}
use Rattle.chk_ctl_passed.proofs.Joined.{cause_as, cause_then}
use Rattle.chk_ctl_status_rows.proofs.Parts.{sees_lent}
use Rattle.chk_ctl_status_rows.proofs.ends.rotated_end.Goals as goal

pub returns-in-Ok-More-clause-told : goal.returns-in-Ok-More-clause-told
returns-in-Ok-More-clause-told g c = record {
  next = Ok (More c.in-Ok-More.suffix c.in-Ok-More.end);
  middle = g.S.Site.told c.see.new.site;
  sees =
      sees_lent c.as_ref.result c.args.place.now.after c.as_ref.ensures.value
      (rw c.in-Ok-More.field-0-is at c.in-Ok-More.ensures.told);
  follows = c.sum_on.ensures.told;
}

pub returns-in-Ok-More-clause-cause : goal.returns-in-Ok-More-clause-cause
returns-in-Ok-More-clause-cause g c =
    cause_then c.sum_on.result (g.S.Site.fault_count c.args.site.now)
    (g.S.Site.fault_count c.see.new.site) (g.S.Site.fault_count c.sum_on.new.site)
    c.in-Ok-More.ensures.cause c.sum_on.ensures.cause

pub returns-in-Ok-Last-clause-told : goal.returns-in-Ok-Last-clause-told
returns-in-Ok-Last-clause-told g c = record {
  next = Ok (Last c.in-Ok-Last.end);
  middle = g.S.Site.told c.see.new.site;
  sees =
      sees_lent c.as_ref.result c.args.place.now.after c.as_ref.ensures.value
      (rw c.in-Ok-Last.field-0-is at c.in-Ok-Last.ensures.told);
  follows = (refl, refl);
}

pub returns-in-Ok-Changed-clause-told : goal.returns-in-Ok-Changed-clause-told
returns-in-Ok-Changed-clause-told g c = record {
  next = Ok Changed;
  middle = g.S.Site.told c.see.new.site;
  sees =
      sees_lent c.as_ref.result c.args.place.now.after c.as_ref.ensures.value
      (rw c.in-Ok-Changed.field-0-is at c.in-Ok-Changed.ensures.told);
  follows = (refl, refl);
}

pub returns-in-Err-clause-told : goal.returns-in-Err-clause-told
returns-in-Err-clause-told g c = record {
  next = Err c.in-Err.fault;
  middle = g.S.Site.told c.see.new.site;
  sees =
      sees_lent c.as_ref.result c.args.place.now.after c.as_ref.ensures.value
      c.in-Err.ensures.told;
  follows = (refl, refl);
}

pub returns-in-Err-clause-cause : goal.returns-in-Err-clause-cause
returns-in-Err-clause-cause g c =
    cause_as Next (Option ℕ) c.in-Err.fault (g.S.Site.fault_count c.args.site.now)
    (g.S.Site.fault_count c.see.new.site) c.in-Err.ensures.cause
