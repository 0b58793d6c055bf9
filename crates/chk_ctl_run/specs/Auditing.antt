-- What `audit` shows.
use Rattle.std.specs.Prelude.{◌≡◌, ℕ, List, true, false, Option, Ok, Err}
use Rattle.chk_site.specs.declared.acts.OutsideFault.{OutsideFault}
use Rattle.chk_site.specs.History.{History}
use Rattle.chk_record_index.specs.declared.fault.JobFault.{JobFault}
use Rattle.chk_ctl_audit.specs.declared.audits.Compared.{Compared}
use Rattle.chk_ctl_audit.specs.declared.audits.Compared.TheVariants as compared
use Rattle.chk_ctl_audit.specs.Audits.{AuditedAgain}
use Rattle.chk_ctl_run.specs.declared.outcome.Outcome.{Outcome}
use Rattle.chk_ctl_run.specs.declared.outcome.Outcome.TheVariants.{Differs, Done, NoBook, NoMemory}
use Rattle.chk_ctl_run.specs.declared.outcome.Outcome.TheVariants.{Unknown}
use Rattle.chk_ctl_run.specs.Finding.{FindsFile}
use Rattle.chk_ctl_run.specs.Outcomes.{outcome_of_job, told_as}
use Rattle.chk_ctl_run.specs.Several.{archive_of, book_of}

-- done only where some stream was compared, and each log has all that its archive has
abbrev pub audited_as : Compared → Outcome
audited_as compared.Nothing = Unknown
audited_as compared.Same = Done
audited_as compared.Differs = Differs

-- the streams of the folder's book are compared with their logs, or one can't be read
pub data AuditsFolder (folder : List ℕ) : Outcome → Option History → Option History → Type 0 where
  not_audited : {old new : Option History} (fault : JobFault)
      → AuditedAgain folder (Err fault) old new
      → AuditsFolder folder (outcome_of_job fault) old new
  audited : {old new : Option History} (verdict : Compared)
      → AuditedAgain folder (Ok verdict) old new
      → AuditsFolder folder (audited_as verdict) old new

-- the store's book is looked for, and then this is done with its archive; or there is no memory
-- before
pub data ShowsAudit (store : List ℕ) : Outcome → Option History → Option History → Type 0 where
  unnamed : {now : Option History} → ShowsAudit store NoMemory now now
  not_there : {old new : Option History} {name : List ℕ} → name ≡ book_of store
      → FindsFile (book_of store) (Ok false) old new → ShowsAudit store (NoBook name) old new
  not_seen : {old new : Option History} (fault : OutsideFault)
      → FindsFile (book_of store) (Err fault) old new
      → ShowsAudit store (told_as (Err fault)) old new
  seen : {outcome : Outcome} {old mid new : Option History}
      → FindsFile (book_of store) (Ok true) old mid
      → AuditsFolder (archive_of store) outcome mid new → ShowsAudit store outcome old new
