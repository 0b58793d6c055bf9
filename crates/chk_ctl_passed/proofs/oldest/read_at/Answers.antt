use Rattle.std.proofs.Common.{Ok, Err, refl, sym, subst}
use Rattle.chk_site.proofs.Runs.{adds_as}
use Rattle.chk_site.specs.Site.{Adds, piece_given}
use Rattle.chk_site.specs.declared.acts.Call.TheVariants.{LogRead}
use Rattle.chk_site.specs.declared.acts.CallFault.TheVariants.{Failed, NoMemory}
use Rattle.chk_site.specs.declared.acts.OutsideFault.TheVariants.{Outside, NoMemory as no_memory}
use Rattle.chk_ctl_passed.specs.declared.oldest.Came.{Came}
use Rattle.chk_ctl_passed.specs.declared.oldest.Came.TheVariants.{Changed}
use Rattle.chk_ctl_passed.specs.Oldest.{SawRead}
use Rattle.chk_ctl_passed.proofs.Joined.{failed_so, last_ok, read_own}
use Rattle.chk_ctl_passed.proofs.Seen.{saw_read, saw_short}
use Rattle.chk_ctl_passed.proofs.oldest.read_at.Goals as goal

pub returns-in-Ok : goal.returns-in-Ok
returns-in-Ok g c =
    let old = g.S.Site.told c.args.site.now in
    let new = g.S.Site.told c.log_read.new.self in
    let who = c.args.who.now in
    let path = c.args.path.now in
    record {
      saw =
          subst (λ (r : Came). Adds old new (SawRead path (Ok r))) (sym c.came_of.ensures.is)
          (saw_read who path c.args.at c.in-Ok.piece c.in-Ok.ensures.told);
      up = c.came_of.ensures.up;
      own = read_own who path c.args.at _ c.requires.job c.in-Ok.ensures.told;
      last = last_ok Came c.came_of.result c.in-Ok.ensures.told;
      cause = c.in-Ok.ensures.cause;
    }

pub returns-in-Err-Short : goal.returns-in-Err-Short
returns-in-Err-Short g c = record {
  saw =
      saw_short c.args.who.now c.args.path.now c.args.at _
      (rw c.in-Err-Short.field-0-is at c.in-Err-Short.ensures.told);
  up = tt;
  own =
      read_own c.args.who.now c.args.path.now c.args.at _ c.requires.job
      c.in-Err-Short.ensures.told;
  last = last_ok Came Changed c.in-Err-Short.ensures.told;
  cause = rw c.in-Err-Short.field-0-is at c.in-Err-Short.ensures.cause;
}

pub returns-in-Err-Failed : goal.returns-in-Err-Failed
returns-in-Err-Failed g c = record {
  saw =
      adds_as (SawRead c.args.path.now (Err (Outside LogRead))) c.in-Err-Failed.ensures.told
      (λ a h x. tt);
  up = tt;
  own =
      read_own c.args.who.now c.args.path.now c.args.at _ c.requires.job
      c.in-Err-Failed.ensures.told;
  last =
      failed_so Came piece_given (Err Failed) (Outside LogRead) refl
      (rw c.in-Err-Failed.field-0-is at c.in-Err-Failed.ensures.told);
  cause = rw c.in-Err-Failed.field-0-is at c.in-Err-Failed.ensures.cause;
}

pub returns-in-Err-NoMemory : goal.returns-in-Err-NoMemory
returns-in-Err-NoMemory g c = record {
  saw =
      adds_as (SawRead c.args.path.now (Err no_memory)) c.in-Err-NoMemory.ensures.told
      (λ a h x. tt);
  up = tt;
  own =
      read_own c.args.who.now c.args.path.now c.args.at _ c.requires.job
      c.in-Err-NoMemory.ensures.told;
  last =
      failed_so Came piece_given (Err NoMemory) no_memory refl
      (rw c.in-Err-NoMemory.field-0-is at c.in-Err-NoMemory.ensures.told);
  cause = rw c.in-Err-NoMemory.field-0-is at c.in-Err-NoMemory.ensures.cause;
}
