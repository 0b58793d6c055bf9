use Rattle.std.proofs.Common.{Err, refl}
use Rattle.chk_site.specs.declared.acts.CallFault.TheVariants.{Failed, NoMemory}
use Rattle.chk_ctl_status_rows.proofs.sinks.list_sinks.Goals as goal

pub returns-in-Err-Failed-clause-err : goal.returns-in-Err-Failed-clause-err
returns-in-Err-Failed-clause-err g c =
    (Err Failed, refl, rw c.in-Err-Failed.field-0-is at c.in-Err-Failed.ensures.told)

pub returns-in-Err-NoMemory-clause-err : goal.returns-in-Err-NoMemory-clause-err
returns-in-Err-NoMemory-clause-err g c =
    (Err NoMemory, refl, rw c.in-Err-NoMemory.field-0-is at c.in-Err-NoMemory.ensures.told)
