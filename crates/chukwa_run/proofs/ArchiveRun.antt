-- An archive run under the rules of all processes.
use Rattle.std.proofs.Common.{◌≡◌, inl, inr, ℕ, false, List, [], ◌∷◌, ◌++◌, Ok, Err, Option, Result, refl, sym, ◌∙◌, ap, subst, true≢false, arith}
use Rattle.std.specs.Prelude.{Contains}
use Rattle.chk_site.specs.History.{History, Every, is_stopped, files_after}
use Rattle.chk_site.specs.Site.{Adds}
use Rattle.chk_site.specs.Runs.{Leads, own_acts}
use Rattle.chk_site.proofs.Runs.{adds_as, adds_both}
use Rattle.chk_world.specs.Books.{Book, book_of}
use Rattle.chk_world.specs.Names.{ArchiveFolder}
use Rattle.chk_world.specs.Rules.{Legal}
use Rattle.chk_world.specs.Places.{As, IsBy}
use Rattle.chk_world.specs.Sight.{job}
use Rattle.chk_world.specs.Together.{IsByOne}
use Rattle.chk_world.specs.JobSteps.{IsOf as IsOfKind}
use Rattle.chk_world.proofs.Beside.{others_foreign, owns_as, by_one}
use Rattle.chk_record_index.specs.declared.fault.JobFault.{JobFault}
use Rattle.chk_record_index.specs.declared.fault.JobFault.TheVariants as Jobs
use Rattle.chk_record_index.specs.Faults.{FailsLast}
use Rattle.chk_archive.specs.Archived.{Archived, Begun, ListedOnce, RunDone}
use Rattle.chk_archive.specs.Reporting.{report_view, report_result}
use Rattle.chk_archive.specs.Shown.{ShowsArchived}
use Rattle.chk_archive.specs.declared.report.Report.{Report as Struct}
use Rattle.chk_cmd_archive.specs.Telling.{ArchivesAndTells, IsTold, EndsRunning}
use Rattle.chk_cmd_line.specs.declared.endings.Ending.{Ending}
use Rattle.chk_cmd_line.specs.Commands.{Archive}
use Rattle.chukwa_run.specs.Processes.{acting_for, RunSide}
use Rattle.chukwa_run.specs.Whole.{AreArchiveActs, Whole}
use Rattle.chukwa_run.specs.Showing.{ArchiveFault, ArchiveShown, ArchiveFits, Shows}
use Rattle.chukwa_run.specs.JobFaults.{job_ending}
use Rattle.chukwa_run.specs.Runs.{Begins, EndsWith, CameTo, CausedBy}
use Rattle.chukwa_run.proofs.Acts.{failed_last}

-- the own acts among the steps of a run
acts_of_run : (added history : History) → Every (IsOfKind ArchivesAndTells) added history → AreArchiveActs (own_acts added)
acts_of_run [] history each = tt
acts_of_run (step ∷ added) history each =
    let rest = acts_of_run added history each.0 in
    elim each.1 [
      | inl theirs ↦ rw theirs.0 rest
      | inr mine ↦ rw mine.0.own (mine.0.by, mine.1, rest)
    ]

-- the result as that of a run
abbrev pub ending : Result Struct JobFault → Result (Unit {0}) Ending
ending (Ok report) = Ok tt
ending (Err fault) = Err (job_ending fault)

-- what the library says of the run, between these told histories
pub record IsRun (result : Result Struct JobFault) (old new : Option History) : Type 0 where
  pub told : (stamped : List (List ℕ)) (loaded : Book)
      → Adds old new (Leads (As stamped job) (Begun stamped loaded) (Archived stamped loaded (report_result result)))
  pub own : Adds old new (Every (IsOfKind ArchivesAndTells))
  pub once : Adds old new (ListedOnce result)
  pub prints : Adds old new (IsTold (report_result result))
  pub runs : Adds old new (EndsRunning result)
  pub last : Adds old new (FailsLast result)
  pub shown : Adds old new (ShowsArchived result)

-- and what that comes to for the steps that it added
record IsAt (result : Result Struct JobFault) (added history : History) : Type 0 where
  acts : AreArchiveActs (own_acts added)
  once : ListedOnce result added history
  prints : IsTold (report_result result) added history
  runs : EndsRunning result added history
  last : FailsLast result added history
  shown : ShowsArchived result added history

at_end : (result : Result Struct JobFault) {old new : Option History} → IsRun result old new → Adds old new (IsAt result)
at_end result s =
    adds_both (IsAt result)
    (adds_both (λ a h. AreArchiveActs (own_acts a) × ListedOnce result a h) s.own s.once (λ a h x y. (acts_of_run a h x, y)))
    (adds_both (λ a h. (IsTold (report_result result) a h × EndsRunning result a h) × (FailsLast result a h × ShowsArchived result a h))
    (adds_both (λ a h. IsTold (report_result result) a h × EndsRunning result a h) s.prints s.runs (λ a h x y. (x, y)))
    (adds_both (λ a h. FailsLast result a h × ShowsArchived result a h) s.last s.shown (λ a h x y. (x, y))) (λ a h x y. (x, y)))
    (λ a h x y. record { acts = x.0; once = x.1; prints = y.0.0; runs = y.0.1; last = y.1.0; shown = y.1.1 })

-- ---- by the acts alone

fault_so : (fault : JobFault) (added history : History) → FailsLast {T = Struct} (Err fault) added history → is_stopped (added ++ history) ≡ false
    → ArchiveFault (job_ending fault) added
fault_so (Jobs.Outside call) added history last running = failed_last added call (last running)
fault_so (Jobs.Damaged name at) added history last running = tt
fault_so (Jobs.Spent number) added history last running = tt
fault_so Jobs.NoMemory added history last running = tt

shown_so : (fault : JobFault) (added history : History) → ShowsArchived {T = Struct} (Err fault) added history
    → ArchiveShown history (job_ending fault) added
shown_so (Jobs.Outside call) added history x = tt
shown_so (Jobs.Damaged name at) added history x = x
shown_so (Jobs.Spent number) added history x = x
shown_so Jobs.NoMemory added history x = tt

came : (result : Result Struct JobFault) (added history : History) → IsAt result added history → CausedBy Archive (ending result) added history
came (Ok report) added history at = record {
  running = λ r. (report_view report, record { each = at.acts; once = at.once; printed_is = at.prints });
  stopped = λ stop. absurd (true≢false (sym stop ∙ at.runs));
}
came (Err fault) added history at = record {
  running = λ r. (at.acts, fault_so fault added history at.last r, shown_so fault added history at.shown);
  stopped = λ stop. tt;
}

pub causes : (result : Result Struct JobFault) {old new : Option History} → IsRun result old new
    → Adds old new (CausedBy Archive (ending result))
causes result s = adds_as (CausedBy Archive (ending result)) (at_end result s) (came result)

-- ---- from a legal history

fits_so : (stamped : List (List ℕ)) (loaded : Book) (fault : JobFault) (h : History) → Archived stamped loaded (Err fault) h
    → is_stopped h ≡ false → ArchiveFits h (job_ending fault)
fits_so stamped loaded (Jobs.Outside call) h c running = tt
fits_so stamped loaded (Jobs.Damaged name at) h c running = c.alive running
fits_so stamped loaded (Jobs.Spent number) h c running = c.alive running
fits_so stamped loaded Jobs.NoMemory h c running = tt

legal_so : (stamped : List (List ℕ)) (loaded : Book) (result : Result Struct JobFault) (h : History)
    → Archived stamped loaded (report_result result) h → Legal stamped h
legal_so stamped loaded (Ok report) h c = c.legal
legal_so stamped loaded (Err (Jobs.Outside call)) h c = c
legal_so stamped loaded (Err (Jobs.Damaged name at)) h c = c.legal
legal_so stamped loaded (Err (Jobs.Spent number)) h c = c.legal
legal_so stamped loaded (Err Jobs.NoMemory) h c = c

came_legally : (stamped : List (List ℕ)) (loaded : Book) (result : Result Struct JobFault) (added history : History)
    → loaded ≡ book_of (files_after history) ArchiveFolder → IsAt result added history
    → Archived stamped loaded (report_result result) (added ++ history)
    → CameTo (Whole stamped Archive history) (Shows Archive history) (ending result) added history
came_legally stamped loaded (Ok report) added history is at c = record {
  running = λ r. record {
    report = report_view report;
    acts = record { each = at.acts; once = at.once; printed_is = at.prints };
    done = subst (λ (b : Book). RunDone b (report_view report) (added ++ history)) is (c.alive r);
  };
  stopped = λ stop. absurd (true≢false (sym stop ∙ at.runs));
}
came_legally stamped loaded (Err fault) added history is at c = record {
  running = λ r. ((at.acts, fault_so fault added history at.last r, shown_so fault added history at.shown), fits_so stamped loaded fault (added ++ history) c r);
  stopped = λ stop. tt;
}

the_job : Contains (job ∷ []) job
the_job = (0, omega arith, refl)

acting : Contains (acting_for Archive) job
acting = (0, omega arith, refl)

pub told : (stamped : List (List ℕ)) (earlier : History) (result : Result Struct JobFault) {old new : Option History} → IsRun result old new
    → Adds old new (Leads (RunSide stamped Archive) (Begins stamped earlier) (EndsWith stamped Archive (ending result) earlier))
told stamped earlier result s =
    let loaded : Book = book_of (files_after earlier) ArchiveFolder in
    adds_both (Leads (RunSide stamped Archive) (Begins stamped earlier) (EndsWith stamped Archive (ending result) earlier))
    (at_end result s) (s.told stamped loaded)
    (λ added history at y. record {
      leads =
          λ others begins.
          let is : book_of (files_after history) ArchiveFolder ≡ loaded = ap (λ (h : History). book_of (files_after h) ArchiveFolder) begins.is in
          let c = y.leads (others_foreign stamped (job ∷ []) job the_job added history others) (begins.legal, is) in
          record {
            legal = legal_so stamped loaded result (added ++ history) c;
            since = record {
              added = added;
              goes_on = ap (λ (h : History). added ++ h) begins.is;
              holds =
                  subst (λ (h : History). CameTo (Whole stamped Archive h) (Shows Archive h) (ending result) added h) begins.is
                  (came_legally stamped loaded result added history (sym is) at c);
            };
          };
      own = owns_as (IsBy job) (IsByOne (acting_for Archive)) (by_one (acting_for Archive) job acting) added history y.own;
    })
