use Rattle.std.proofs.Common.{Bool, Ok, Err, refl, sym, subst}
use Rattle.chk_site.proofs.Runs.{adds_as}
use Rattle.chk_site.specs.Site.{Adds, suffix_given}
use Rattle.chk_site.specs.declared.acts.Call.TheVariants.{LogNewest}
use Rattle.chk_site.specs.declared.acts.CallFault.TheVariants.{Failed, NoMemory}
use Rattle.chk_site.specs.declared.acts.OutsideFault.TheVariants.{Outside, NoMemory as no_memory}
use Rattle.chk_ctl_passed.specs.Oldest.{SawNewest}
use Rattle.chk_ctl_passed.proofs.Joined.{failed_so, last_ok, newest_own}
use Rattle.chk_ctl_passed.proofs.Seen.{saw_some}
use Rattle.chk_ctl_passed.proofs.oldest.has_rotated.Goals as goal

pub returns-in-Ok : goal.returns-in-Ok
returns-in-Ok g c =
    let old = g.S.Site.told c.args.site.now in
    let new = g.S.Site.told c.log_newest.new.self in
    let who = c.args.who.now in
    let path = c.args.path.now in
    record {
      saw =
          subst (λ b. Adds old new (SawNewest path (Ok b))) (sym c.is_some.ensures)
          (saw_some who path c.in-Ok.newest c.in-Ok.ensures.told);
      own = newest_own who path _ c.requires.job c.in-Ok.ensures.told;
      last = last_ok Bool c.is_some.result c.in-Ok.ensures.told;
      cause = c.in-Ok.ensures.cause;
    }

pub returns-in-Err-Failed : goal.returns-in-Err-Failed
returns-in-Err-Failed g c = record {
  saw =
      adds_as (SawNewest c.args.path.now (Err (Outside LogNewest)))
      c.in-Err-Failed.ensures.told (λ a h x. tt);
  own =
      newest_own c.args.who.now c.args.path.now _ c.requires.job c.in-Err-Failed.ensures.told;
  last =
      failed_so Bool suffix_given (Err Failed) (Outside LogNewest) refl
      (rw c.in-Err-Failed.field-0-is at c.in-Err-Failed.ensures.told);
  cause = rw c.in-Err-Failed.field-0-is at c.in-Err-Failed.ensures.cause;
}

pub returns-in-Err-NoMemory : goal.returns-in-Err-NoMemory
returns-in-Err-NoMemory g c = record {
  saw =
      adds_as (SawNewest c.args.path.now (Err no_memory)) c.in-Err-NoMemory.ensures.told
      (λ a h x. tt);
  own =
      newest_own c.args.who.now c.args.path.now _ c.requires.job
      c.in-Err-NoMemory.ensures.told;
  last =
      failed_so Bool suffix_given (Err NoMemory) no_memory refl
      (rw c.in-Err-NoMemory.field-0-is at c.in-Err-NoMemory.ensures.told);
  cause = rw c.in-Err-NoMemory.field-0-is at c.in-Err-NoMemory.ensures.cause;
}
