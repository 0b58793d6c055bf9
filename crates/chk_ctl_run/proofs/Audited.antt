-- The outcome of an audit, and the steps that it makes.
use Rattle.std.proofs.Common.{◌≡◌, ℕ, List, true, Option, Ok, subst}
use Rattle.chk_site.specs.History.{History, Every}
use Rattle.chk_site.specs.Site.{Adds}
use Rattle.chk_world.specs.JobSteps.{IsOf, ReadsFile}
use Rattle.chk_ctl_audit.specs.declared.audits.Compared.{Compared}
use Rattle.chk_ctl_audit.specs.declared.audits.Compared.TheVariants.{Nothing, Same, Differs}
use Rattle.chk_ctl_audit.specs.Audits.{LooksAtAudit}
use Rattle.chk_ctl_audit.proofs.Owned.{files_own, join_own}
use Rattle.chk_ctl_run.specs.declared.outcome.Outcome.{Outcome}
use Rattle.chk_ctl_run.specs.Auditing.{audited_as, AuditsFolder, seen, ShowsAudit}
use Rattle.chk_ctl_run.specs.Finding.{FindsFile}
use Rattle.chk_ctl_run.specs.Outcomes.{OutcomeCause}
use Rattle.chk_ctl_run.specs.Several.{archive_of, book_of}

pub audited_cause : (compared : Compared) (before now : ℕ) → now ≡ before
    → OutcomeCause before now (audited_as compared)
audited_cause Nothing before now same = same
audited_cause Same before now same = same
audited_cause Differs before now same = same

-- the look for the book, and what is done behind it
pub sought_own : {old new : Option History} → Adds old new (Every (IsOf ReadsFile))
    → Adds old new (Every LooksAtAudit)
sought_own quiet = files_own quiet

pub sought_then : {old mid new : Option History} → Adds old mid (Every (IsOf ReadsFile))
    → Adds mid new (Every LooksAtAudit) → Adds old new (Every LooksAtAudit)
sought_then quiet rest = join_own (files_own quiet) rest

pub audits_then : (store folder : List ℕ) (outcome : Outcome) {old mid new : Option History}
    → folder ≡ archive_of store → FindsFile (book_of store) (Ok true) old mid
    → AuditsFolder folder outcome mid new → ShowsAudit store outcome old new
audits_then store folder outcome {mid = mid} {new = new} is found audits =
    seen found (subst (λ (f : List ℕ). AuditsFolder f outcome mid new) is audits)
