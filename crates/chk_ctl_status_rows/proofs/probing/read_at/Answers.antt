use Rattle.std.proofs.Common.{Ok, Err, ap, refl}
use Rattle.chk_site.specs.declared.acts.CallFault.TheVariants.{Failed, NoMemory, Short}
use Rattle.chk_ctl_status_rows.specs.declared.probing.Probe.{Probe}
use Rattle.chk_ctl_status_rows.proofs.probing.read_at.Goals as goal

pub returns-in-Ok-clause-told : goal.returns-in-Ok-clause-told
returns-in-Ok-clause-told g c = record {
  given = Ok c.in-Ok.piece;
  is = ap (λ (p : Probe). Ok p) c.opened.ensures;
  told = c.in-Ok.ensures.told;
}

pub returns-in-Err-Short-clause-told : goal.returns-in-Err-Short-clause-told
returns-in-Err-Short-clause-told g c = record {
  given = Err (Short c.in-Err-Short.size);
  is = refl;
  told = rw c.in-Err-Short.field-0-is at c.in-Err-Short.ensures.told;
}

pub returns-in-Err-Failed-clause-told : goal.returns-in-Err-Failed-clause-told
returns-in-Err-Failed-clause-told g c = record {
  given = Err Failed;
  is = refl;
  told = rw c.in-Err-Failed.field-0-is at c.in-Err-Failed.ensures.told;
}

pub returns-in-Err-NoMemory-clause-told : goal.returns-in-Err-NoMemory-clause-told
returns-in-Err-NoMemory-clause-told g c = record {
  given = Err NoMemory;
  is = refl;
  told = rw c.in-Err-NoMemory.field-0-is at c.in-Err-NoMemory.ensures.told;
}
