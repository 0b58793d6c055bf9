-- The own calls of the parts of a run, one behind the other.
use Rattle.std.proofs.Common.{Option, Result}
use Rattle.std.specs.Prelude.{codes}
use Rattle.chk_site.specs.declared.acts.OutsideFault.{OutsideFault}
use Rattle.chk_site.specs.History.{History, Every}
use Rattle.chk_site.specs.Site.{Adds, LastFailed}
use Rattle.chk_world.specs.JobSteps.{IsOf}
use Rattle.chk_archive_parts.proofs.StepKinds.{no_reads}
use Rattle.chk_archive_parts.proofs.Published.{replaces_no_reads}
use Rattle.chk_demux.specs.Demuxed.{ReplacesBook}
use Rattle.chk_demux.specs.Working.{Worked, job_result}
use Rattle.chk_book.proofs.Works.{worked}
use Rattle.chk_archive_parts.proofs.Works.{as_job}

-- the replacement of the book of the records
pub worked_replaces : {T : Type 0} (r : Result T OutsideFault) {old new : Option History}
    → Adds old new (Every (IsOf ReplacesBook)) → Adds old new (LastFailed r) → Adds old new (Worked ReplacesBook (job_result r))
worked_replaces r own last =
    worked ReplacesBook (job_result r) own (no_reads ReplacesBook (replaces_no_reads (codes "demux")) own) (as_job r last)
