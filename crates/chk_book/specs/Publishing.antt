-- The answer of a publishing as one of the calls that it makes.
use Rattle.std.specs.Prelude.{Result, Ok, Err}
use Rattle.chk_site.specs.declared.acts.OutsideFault.{OutsideFault}
use Rattle.chk_site.specs.declared.acts.OutsideFault.TheVariants.{Outside as site_failed, NoMemory as no_memory}
use Rattle.chk_record_index.specs.declared.fault.JobFault.{JobFault}
use Rattle.chk_record_index.specs.declared.fault.JobFault.TheVariants.{Outside, Damaged, Spent, NoMemory}

-- a publishing is refused by a call or for want of memory alone
abbrev pub site_result : Result Unit JobFault → Result Unit OutsideFault
site_result (Ok value) = Ok value
site_result (Err (Outside call)) = Err (site_failed call)
site_result (Err fault) = Err no_memory
