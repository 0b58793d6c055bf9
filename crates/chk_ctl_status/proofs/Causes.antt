-- What is found by the job, and refusals of the site as its own.
use Rattle.std.proofs.Common.{◌≡◌, ℕ, Err, Option, Result, arith, refl, subst}
use Rattle.std.proofs.lemmas.Bool.{and_from}
use Rattle.std.specs.Prelude.{codes, IsTrue}
use Rattle.chk_bytes.proofs.WordLemmas.{plain_word}
use Rattle.chk_site.specs.declared.acts.Who.{Who}
use Rattle.chk_site.specs.History.{History}
use Rattle.chk_world.specs.Sight.{job}
use Rattle.chk_book.specs.Folders.{is_folder}
use Rattle.chk_ctl_status_rows.specs.declared.sinks.Sinks.{Sinks}
use Rattle.chk_ctl_status_rows.specs.Sinks.{FindsSinks}
use Rattle.chk_site.specs.declared.acts.OutsideFault.{OutsideFault}
use Rattle.chk_site.specs.declared.acts.OutsideFault.TheVariants.{Outside, NoMemory}
use Rattle.chk_site.specs.Site.{OutsideCause}
use Rattle.chk_record_index.specs.Faults.{IsOfRead, JobCause}
use Rattle.chk_ctl_status.specs.Stores.{job_of}

pub job_read : (fault : OutsideFault) → IsOfRead (job_of fault)
job_read (Outside call) = tt
job_read NoMemory = tt

pub job_cause : (T U : Type 0) (fault : OutsideFault) (before now : ℕ)
    → OutsideCause {T = U} before now (Err fault)
    → JobCause {T = T} before now (Err (job_of fault))
job_cause T U (Outside call) before now cause = cause
job_cause T U NoMemory before now cause = cause

-- the sinks that the job finds
pub finds_as : {who : Who} {result : Result Sinks OutsideFault} {old new : Option History}
    → who ≡ job → FindsSinks who result old new → FindsSinks job result old new
finds_as {result = result} {old = old} {new = new} is finds =
    subst (λ (w : Who). FindsSinks w result old new) is finds

-- the folders of a store can be named
pub archive_folder : IsTrue (is_folder (codes "archive"))
archive_folder = and_from _ _ (plain_word (codes "archive") refl (omega arith) (omega arith)) refl

pub records_folder : IsTrue (is_folder (codes "demux"))
records_folder = and_from _ _ (plain_word (codes "demux") refl (omega arith) (omega arith)) refl
