-- What is shown, by the process that looks.
use Rattle.std.proofs.Common.{◌≡◌, ℕ, ◌<◌, List, [], ◌∷◌, ◌++◌, append_assoc, Option, Ok, Err}
use Rattle.std.proofs.Common.{Result, refl, subst}
use Rattle.std.specs.Prelude.{IsTrue, codes, decimal, ◌^◌}
use Rattle.std.proofs.lemmas.Bool.{and_from}
use Rattle.chk_bytes.specs.Words.{joined_at}
use Rattle.chk_site.specs.declared.acts.Who.{Who}
use Rattle.chk_site.specs.declared.acts.OutsideFault.{OutsideFault}
use Rattle.chk_site.specs.declared.acts.OutsideFault.TheVariants as site
use Rattle.chk_site.specs.Site.{OutsideCause}
use Rattle.chk_site.specs.History.{History}
use Rattle.chk_world.specs.ArchiveRuns.{is_one_line}
use Rattle.chk_world.specs.Sight.{job as the_job}
use Rattle.chk_record_index.specs.declared.fault.JobFault.{JobFault}
use Rattle.chk_record_index.specs.declared.fault.JobFault.TheVariants as job
use Rattle.chk_record_index.specs.Faults.{JobCause}
use Rattle.chk_cmd_output.specs.Printing.{PrintsInTurn}
use Rattle.chk_cmd_output.proofs.OneLine.{one_line, joined_lacks, number_lacks}
use Rattle.chk_ctl_cat.specs.declared.fault.LookFault.{LookFault}
use Rattle.chk_ctl_cat.specs.declared.fault.LookFault.TheVariants as fault
use Rattle.chk_ctl_cat.specs.declared.stream.Came.{Came}
use Rattle.chk_ctl_cat.specs.declared.stream.Came.TheVariants as came
use Rattle.chk_ctl_cat.specs.Faults.{LookCause}
use Rattle.chk_ctl_line.specs.Usages.{usage_text}
use Rattle.chk_ctl_line.specs.declared.usage.Usage.{Usage}
use Rattle.chk_ctl_line.specs.declared.usage.Usage.TheVariants.{Commands, Audit, Cat, Check}
use Rattle.chk_ctl_line.specs.declared.usage.Usage.TheVariants.{Status, Verify, Sum, Held}
use Rattle.chk_ctl_line.specs.declared.usage.Usage.TheVariants.{Passed, Streams}
use Rattle.chk_ctl_run.specs.Outcomes.{listed_as, outcome_of_fault, outcome_of_job, shown_as}
use Rattle.chk_ctl_run.specs.Outcomes.{told_as, OutcomeCause}
use Rattle.chk_ctl_run.specs.Runs.{version_line}
use Rattle.chk_ctl_run.specs.Verifying.{archive_line, sound_line}

-- a line that this process prints
pub told_by : {who : Who} {text line : List ℕ} {given : Result (Unit {0}) OutsideFault}
    {old new : Option History} → who ≡ the_job → text ≡ line
    → PrintsInTurn who (text ∷ []) given old new → PrintsInTurn the_job (line ∷ []) given old new
told_by {who = who} {text = text} {given = given} {old = old} {new = new} is same prints =
    subst (λ (l : List ℕ). PrintsInTurn the_job (l ∷ []) given old new) same
    (subst (λ (w : Who). PrintsInTurn w (text ∷ []) given old new) is prints)

-- the lines of usages and of the version are single lines
pub usage_one : (usage : Usage) → IsTrue (is_one_line (usage_text usage))
usage_one Commands = refl
usage_one Audit = refl
usage_one Cat = refl
usage_one Check = refl
usage_one Status = refl
usage_one Streams = refl
usage_one Verify = refl
usage_one Sum = refl
usage_one Held = refl
usage_one Passed = refl

pub version_one : IsTrue (is_one_line version_line)
version_one = refl

-- the cause of an outcome is that of its refusal
fault_cause : (T : Type 0) (f : LookFault) (before now : ℕ) → LookCause {T = T} before now (Err f)
    → OutcomeCause before now (outcome_of_fault f)
fault_cause T (fault.Outside call) before now cause = cause
fault_cause T (fault.Damaged name at) before now cause = cause
fault_cause T (fault.Gone name) before now cause = cause
fault_cause T fault.NoMemory before now cause = cause

pub shown_cause : (given : Result Came LookFault) (before now : ℕ) → LookCause before now given
    → OutcomeCause before now (shown_as given)
shown_cause (Ok came.Whole) before now cause = cause
shown_cause (Ok came.Short) before now cause = cause
shown_cause (Ok came.Unknown) before now cause = cause
shown_cause (Err f) before now cause = fault_cause Came f before now cause

pub listed_cause : (given : Result (Unit {0}) LookFault) (before now : ℕ)
    → LookCause before now given
    → OutcomeCause before now (listed_as given)
listed_cause (Ok value) before now cause = cause
listed_cause (Err f) before now cause = fault_cause (Unit {0}) f before now cause

pub job_cause : (T : Type 0) (f : JobFault) (before now : ℕ)
    → JobCause {T = T} before now (Err f) → OutcomeCause before now (outcome_of_job f)
job_cause T (job.Outside call) before now cause = cause
job_cause T (job.Damaged name at) before now cause = cause
job_cause T (job.Spent number) before now cause = cause
job_cause T job.NoMemory before now cause = cause

-- the line of a sound store is a single line
pub sound_one : (archived split : ℕ) → archived < 2 ^ 64 → split < 2 ^ 64
    → IsTrue (is_one_line (sound_line archived split))
sound_one archived split low few =
    let words = codes "ok" ∷ codes "archive" ∷ decimal archived ∷ codes "demux" ∷ decimal split
    ∷ [] in
    one_line (joined_at 32 words)
    (joined_lacks 32 words refl
    (and_from _ _ refl (and_from _ _ refl (and_from _ _ (number_lacks archived low) (and_from _ _
    refl
    (and_from _ _ (number_lacks split few) refl))))))

-- its words, as they are put together
pub sound_spelled : (archived split : ℕ)
    → codes "ok archive " ++ (decimal archived ++ (codes " demux " ++ (decimal split ++ codes
    "\n"))) ≡ sound_line archived split
sound_spelled archived split = simp append_assoc

-- the same of a store that has no book of records
pub archive_one : (archived : ℕ) → archived < 2 ^ 64 → IsTrue (is_one_line (archive_line archived))
archive_one archived low =
    let words = codes "ok" ∷ codes "archive" ∷ decimal archived ∷ codes "demux" ∷ codes "none"
    ∷ [] in
    one_line (joined_at 32 words)
    (joined_lacks 32 words refl
    (and_from _ _ refl (and_from _ _ refl (and_from _ _ (number_lacks archived low) refl))))

pub archive_spelled : (archived : ℕ) → codes "ok archive "
    ++ (decimal archived ++ codes " demux none\n") ≡ archive_line archived
archive_spelled archived = simp append_assoc

pub told_cause : (given : Result (Unit {0}) OutsideFault) (before now : ℕ)
    → OutsideCause before now given
    → OutcomeCause before now (told_as given)
told_cause (Ok value) before now cause = cause
told_cause (Err (site.Outside call)) before now cause = cause
told_cause (Err site.NoMemory) before now cause = cause
