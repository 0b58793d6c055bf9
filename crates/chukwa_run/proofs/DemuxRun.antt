-- A demux run under the rules of all processes.
use Rattle.std.proofs.Common.{◌≡◌, inl, inr, ℕ, false, List, [], ◌∷◌, ◌++◌, Ok, Err, Option, Result, refl, sym, ◌∙◌, ap, subst, true≢false, arith, if◌then◌else◌}
use Rattle.std.specs.Prelude.{Contains}
use Rattle.chk_site.specs.History.{History, Every, is_stopped, files_after}
use Rattle.chk_site.specs.Site.{Adds}
use Rattle.chk_site.specs.Runs.{Leads, own_acts}
use Rattle.chk_site.proofs.Runs.{adds_as, adds_both}
use Rattle.chk_world.specs.Rules.{Legal}
use Rattle.chk_world.specs.Places.{As, IsBy}
use Rattle.chk_world.specs.Sight.{job}
use Rattle.chk_world.specs.Together.{IsByOne}
use Rattle.chk_world.specs.JobSteps.{IsOf as IsOfKind}
use Rattle.chk_world.specs.Streams.{start_of}
use Rattle.chk_world.specs.Committed.{archive_of_stream}
use Rattle.chk_world.specs.Splits.{split_lines, split_stamped}
use Rattle.chk_world.proofs.Beside.{others_foreign, owns_as, by_one}
use Rattle.chk_record_index.specs.declared.fault.JobFault.{JobFault}
use Rattle.chk_record_index.specs.declared.fault.JobFault.TheVariants as Jobs
use Rattle.chk_record_index.specs.Causes.{Shows as ShowsCause}
use Rattle.chk_record_index.specs.Faults.{FailsLast}
use Rattle.chk_demux.specs.Demuxed.{Earlier, earlier_in, NamesStamped, Begun, Demuxed, DemuxDone, LacksNumber}
use Rattle.chk_demux.specs.Shown.{IsDamage, ShowsSpent}
use Rattle.chk_demux.specs.declared.report.DemuxReport.{DemuxReport}
use Rattle.chk_cmd_demux.specs.Telling.{DemuxesAndTells, IsTold, EndsRunning}
use Rattle.chk_cmd_line.specs.declared.endings.Ending.{Ending}
use Rattle.chk_cmd_line.specs.Commands.{Asked, Demux}
use Rattle.chukwa_run.specs.Demuxing.{AreDemuxActs, DemuxFits}
use Rattle.chukwa_run.specs.Processes.{acting_for, RunSide}
use Rattle.chukwa_run.specs.Whole.{Whole}
use Rattle.chukwa_run.specs.Showing.{ArchiveFault, DemuxShown, Shows}
use Rattle.chukwa_run.specs.JobFaults.{job_ending}
use Rattle.chukwa_run.specs.Runs.{Begins, EndsWith, CameTo, CausedBy}
use Rattle.chukwa_run.proofs.Acts.{failed_last}

-- the own acts among the steps of a run
acts_of_run : (added history : History) → Every (IsOfKind DemuxesAndTells) added history → AreDemuxActs (own_acts added)
acts_of_run [] history each = tt
acts_of_run (step ∷ added) history each =
    let rest = acts_of_run added history each.0 in
    elim each.1 [
      | inl theirs ↦ rw theirs.0 rest
      | inr mine ↦ rw mine.0.own (mine.0.by, mine.1, rest)
    ]

-- the result as that of a run
abbrev ending : Result DemuxReport JobFault → Result (Unit {0}) Ending
ending (Ok report) = Ok tt
ending (Err fault) = Err (job_ending fault)

-- what the library says of the run, between these told histories
pub record IsRun (kinds : List (List ℕ)) (result : Result DemuxReport JobFault) (old new : Option History) : Type 0 where
  pub told : (stamped : List (List ℕ)) (before : Earlier) → NamesStamped stamped kinds
      → Adds old new (Leads (As stamped job) (Begun stamped before) (Demuxed stamped before result))
  pub own : Adds old new (Every (IsOfKind DemuxesAndTells))
  pub prints : Adds old new (IsTold result)
  pub runs : Adds old new (EndsRunning result)
  pub last : Adds old new (FailsLast result)
  pub shown : Adds old new (ShowsCause IsDamage result)
  pub spent : Adds old new (ShowsSpent result)

-- and what that comes to for the steps that it added
record IsAt (result : Result DemuxReport JobFault) (added history : History) : Type 0 where
  acts : AreDemuxActs (own_acts added)
  prints : IsTold result added history
  runs : EndsRunning result added history
  last : FailsLast result added history
  shown : ShowsCause IsDamage result added history
  spent : ShowsSpent result added history

module _ (kinds : List (List ℕ)) where
  abbrev This : Asked
  This = Demux kinds

  at_end : (result : Result DemuxReport JobFault) {old new : Option History} → IsRun kinds result old new → Adds old new (IsAt result)
  at_end result s =
      adds_both (IsAt result)
      (adds_both (λ a h. AreDemuxActs (own_acts a) × IsTold result a h) s.own s.prints (λ a h x y. (acts_of_run a h x, y)))
      (adds_both (λ a h. EndsRunning result a h × FailsLast result a h × ShowsCause IsDamage result a h × ShowsSpent result a h) s.runs
      (adds_both (λ a h. FailsLast result a h × ShowsCause IsDamage result a h × ShowsSpent result a h) s.last
      (adds_both (λ a h. ShowsCause IsDamage result a h × ShowsSpent result a h) s.shown s.spent
      (λ a h x y. (x, y))) (λ a h x y. (x, y.0, y.1)))
      (λ a h x y. (x, y.0, y.1, y.2)))
      (λ a h x y. record { acts = x.0; prints = x.1; runs = y.0; last = y.1; shown = y.2; spent = y.3 })

  -- ---- by the acts alone

  fault_so : (fault : JobFault) (added history : History) → FailsLast {T = DemuxReport} (Err fault) added history
      → is_stopped (added ++ history) ≡ false → ArchiveFault (job_ending fault) added
  fault_so (Jobs.Outside call) added history last running = failed_last added call (last running)
  fault_so (Jobs.Damaged name at) added history last running = tt
  fault_so (Jobs.Spent number) added history last running = tt
  fault_so Jobs.NoMemory added history last running = tt

  shown_so : (fault : JobFault) (added history : History)
      → ShowsCause {T = DemuxReport} IsDamage (Err fault) added history
      → ShowsSpent {T = DemuxReport} (Err fault) added history
      → DemuxShown history (job_ending fault) added
  shown_so (Jobs.Outside call) added history x y = tt
  shown_so (Jobs.Damaged name at) added history x y = x
  shown_so (Jobs.Spent number) added history x y = y
  shown_so Jobs.NoMemory added history x y = tt

  came : (result : Result DemuxReport JobFault) (added history : History) → IsAt result added history
      → CausedBy This (ending result) added history
  came (Ok report) added history at = record {
    running = λ r. (report, record { each = at.acts; printed_is = at.prints });
    stopped = λ stop. absurd (true≢false (sym stop ∙ at.runs));
  }
  came (Err fault) added history at = record {
    running = λ r. (at.acts, fault_so fault added history at.last r, at.prints, shown_so fault added history at.shown at.spent);
    stopped = λ stop. tt;
  }

  pub causes : (result : Result DemuxReport JobFault) {old new : Option History} → IsRun kinds result old new
      → Adds old new (CausedBy This (ending result))
  causes result s = adds_as (CausedBy This (ending result)) (at_end result s) (came result)

  -- ---- from a legal history

  -- the records by the one list of types are those by the other
  lacks_so : (stamped : List (List ℕ)) → NamesStamped stamped kinds → (h : History) → LacksNumber stamped h → LacksNumber kinds h
  lacks_so stamped named h l =
      let s = l.due.stream in
      let start = start_of h s in
      let bytes = archive_of_stream (files_after h) s in
      record {
        last = l.last;
        due = record {
          stream = s;
          record_is = l.due.record_is;
          more = l.due.more;
          split_is =
              ap (λ b. if b then split_stamped start bytes else split_lines start bytes) (sym (named s.kind))
              ∙ l.due.split_is;
        };
      }

  fits_so : (stamped : List (List ℕ)) (before : Earlier) → NamesStamped stamped kinds → (fault : JobFault) (h : History)
      → Demuxed stamped before (Err fault) h → is_stopped h ≡ false → DemuxFits kinds h (job_ending fault)
  fits_so stamped before named (Jobs.Outside call) h c running = tt
  fits_so stamped before named (Jobs.Damaged name at) h c running = c.alive running
  fits_so stamped before named (Jobs.Spent number) h c running =
      let k = c.alive running in (k.0, lacks_so stamped named h k.1)
  fits_so stamped before named Jobs.NoMemory h c running = tt

  legal_so : (stamped : List (List ℕ)) (before : Earlier) (result : Result DemuxReport JobFault) (h : History)
      → Demuxed stamped before result h → Legal stamped h
  legal_so stamped before (Ok report) h c = c.legal
  legal_so stamped before (Err (Jobs.Outside call)) h c = c
  legal_so stamped before (Err (Jobs.Damaged name at)) h c = c.legal
  legal_so stamped before (Err (Jobs.Spent number)) h c = c.legal
  legal_so stamped before (Err Jobs.NoMemory) h c = c

  came_legally : (stamped : List (List ℕ)) (before : Earlier) → NamesStamped stamped kinds
      → (result : Result DemuxReport JobFault) (added history : History) → before ≡ earlier_in (files_after history) → IsAt result added history
      → Demuxed stamped before result (added ++ history)
      → CameTo (Whole stamped This history) (Shows This history) (ending result) added history
  came_legally stamped before named (Ok report) added history is at c = record {
    running = λ r. record {
      report = report;
      acts = record { each = at.acts; printed_is = at.prints };
      done = subst (λ (l : Earlier). DemuxDone stamped l report (added ++ history)) is (c.alive r);
    };
    stopped = λ stop. absurd (true≢false (sym stop ∙ at.runs));
  }
  came_legally stamped before named (Err fault) added history is at c = record {
    running = λ r. (
      (at.acts, fault_so fault added history at.last r, at.prints, shown_so fault added history at.shown at.spent),
      fits_so stamped before named fault (added ++ history) c r,
    );
    stopped = λ stop. tt;
  }

  the_job : Contains (job ∷ []) job
  the_job = (0, omega arith, refl)

  acting : Contains (acting_for This) job
  acting = (0, omega arith, refl)

  pub told : (stamped : List (List ℕ)) (earlier : History) → NamesStamped stamped kinds → (result : Result DemuxReport JobFault)
      → {old new : Option History} → IsRun kinds result old new
      → Adds old new (Leads (RunSide stamped This) (Begins stamped earlier) (EndsWith stamped This (ending result) earlier))
  told stamped earlier named result s =
      let before : Earlier = earlier_in (files_after earlier) in
      adds_both (Leads (RunSide stamped This) (Begins stamped earlier) (EndsWith stamped This (ending result) earlier))
      (at_end result s) (s.told stamped before named)
      (λ added history at y. record {
        leads =
            λ others begins.
            let is : earlier_in (files_after history) ≡ before =
            ap (λ (h : History). earlier_in (files_after h)) begins.is in
            let c = y.leads (others_foreign stamped (job ∷ []) job the_job added history others) (begins.legal, is) in
            record {
              legal = legal_so stamped before result (added ++ history) c;
              since = record {
                added = added;
                goes_on = ap (λ (h : History). added ++ h) begins.is;
                holds =
                    subst (λ (h : History). CameTo (Whole stamped This h) (Shows This h) (ending result) added h) begins.is
                    (came_legally stamped before named result added history (sym is) at c);
              };
            };
        own = owns_as (IsBy job) (IsByOne (acting_for This)) (by_one (acting_for This) job acting) added history y.own;
      })
