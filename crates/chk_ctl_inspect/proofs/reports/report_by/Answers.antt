use Rattle.std.proofs.Common.{Err, refl}
use Rattle.chk_site.specs.declared.acts.OutsideFault.TheVariants.{NoMemory}
use Rattle.chk_ctl_inspect.specs.Reporting.{unbegun}
use Rattle.chk_ctl_inspect.proofs.Told.{sight_own}
use Rattle.chk_ctl_inspect.proofs.reports.report_by.Goals as goal

pub returns-in-Ok-clause-own : goal.returns-in-Ok-clause-own
returns-in-Ok-clause-own g c = sight_own c.report_as.ensures.told

pub returns-in-Err-clause-told : goal.returns-in-Err-clause-told
returns-in-Err-clause-told g c = record { given = Err NoMemory; told = unbegun; is = refl }
