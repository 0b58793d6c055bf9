-- A join under the rules of all processes.
use Rattle.std.proofs.Common.{◌≡◌, inl, inr, ℕ, false, List, [], ◌∷◌, ◌++◌, Ok, Err, Option, Result, refl, sym, ap, subst, ◌∙◌, true≢false, arith}
use Rattle.std.specs.Prelude.{Contains}
use Rattle.chk_site.specs.History.{History, Every, is_stopped}
use Rattle.chk_site.specs.Site.{Adds}
use Rattle.chk_site.specs.Runs.{Leads, own_acts}
use Rattle.chk_site.proofs.Runs.{adds_as, adds_both}
use Rattle.chk_world.specs.Rules.{Legal}
use Rattle.chk_world.specs.Places.{As, IsBy}
use Rattle.chk_world.specs.Sight.{job}
use Rattle.chk_world.specs.Together.{IsByOne}
use Rattle.chk_world.specs.JobSteps.{IsOf as IsOfKind}
use Rattle.chk_world.proofs.Beside.{others_foreign, owns_as, by_one}
use Rattle.chk_record_index.specs.declared.fault.JobFault.TheVariants as Jobs
use Rattle.chk_join.specs.Faults.{JoinCause, JoinFailsLast}
use Rattle.chk_join.specs.declared.report.JoinReport.{JoinReport}
use Rattle.chk_join.specs.declared.fault.JoinFault.{JoinFault}
use Rattle.chk_join.specs.declared.fault.JoinFault.TheVariants as Joins
use Rattle.chk_cmd_join.specs.Telling.{JoinsAndTells, IsTold, EndsRunning, ShowsJoin}
use Rattle.chk_cmd_line.specs.Commands.{Asked, Join}
use Rattle.chk_cmd_line.specs.Joining.{JoinAsked}
use Rattle.chk_cmd_line.specs.declared.endings.Ending.{Ending}
use Rattle.chukwa_run.specs.Causes.{EndingCause}
use Rattle.chukwa_run.specs.Joining.{join_ending, IsJoinEnding, AreJoinActs, JoinFailed, JoinWhole, JoinCut}
use Rattle.chukwa_run.specs.Processes.{acting_for, RunSide}
use Rattle.chukwa_run.specs.Runs.{Begins, EndsWith, CameTo, CausedBy}
use Rattle.chukwa_run.specs.Showing.{Shows, FailedLast}
use Rattle.chukwa_run.specs.Whole.{Whole}
use Rattle.chukwa_run.proofs.Acts.{failed_last}

-- the own acts among the steps of a run
acts_of_run : (added history : History) → Every (IsOfKind JoinsAndTells) added history
    → AreJoinActs (own_acts added)
acts_of_run [] history each = tt
acts_of_run (step ∷ added) history each =
    let rest = acts_of_run added history each.0 in
    elim each.1 [
      | inl theirs ↦ rw theirs.0 rest
      | inr mine ↦ rw mine.0.own (mine.0.by, mine.1, rest)
    ]

-- the result as that of a run
abbrev ending : Result JoinReport JoinFault → Result (Unit {0}) Ending
ending (Ok report) = Ok tt
ending (Err fault) = Err (join_ending fault)

-- what the library says of the run, between these told histories
pub record IsRun (w : JoinAsked) (result : Result JoinReport JoinFault)
    (old new : Option History) : Type 0 where
  pub told : (stamped : List (List ℕ)) → Adds old new
      (Leads (As stamped job) (Legal stamped) (Legal stamped))
  pub shown : Adds old new (ShowsJoin w.left w.right result)
  pub own : Adds old new (Every (IsOfKind JoinsAndTells))
  pub prints : Adds old new (IsTold result)
  pub runs : Adds old new (EndsRunning result)
  pub last : Adds old new (JoinFailsLast result)

-- and what that comes to for the steps that it added
record IsAt (w : JoinAsked) (result : Result JoinReport JoinFault)
    (added history : History) : Type 0 where
  acts : AreJoinActs (own_acts added)
  prints : IsTold result added history
  runs : EndsRunning result added history
  last : JoinFailsLast result added history
  shown : ShowsJoin w.left w.right result added history

of_ending : (fault : JoinFault) → IsJoinEnding (join_ending fault)
of_ending (Joins.Job (Jobs.Outside call)) = tt
of_ending (Joins.Job (Jobs.Damaged name at)) = tt
of_ending (Joins.Job (Jobs.Spent number)) = tt
of_ending (Joins.Job Jobs.NoMemory) = tt
of_ending (Joins.Differ source kind name at) = tt
of_ending Joins.NoMemory = tt

failed_so : (fault : JoinFault) (added history : History)
    → JoinFailsLast {T = JoinReport} (Err fault) added history
    → is_stopped (added ++ history) ≡ false → JoinFailed (join_ending fault) (own_acts added)
failed_so (Joins.Job (Jobs.Outside call)) added history last running =
    as_last (own_acts added) (failed_last added call (last running))
  where
    as_last : (acts : List _) → FailedLast call acts
        → JoinFailed (join_ending (Joins.Job (Jobs.Outside call))) acts
    as_last [] x = x
    as_last (act ∷ acts) x = x
failed_so (Joins.Job (Jobs.Damaged name at)) added history last running = tt
failed_so (Joins.Job (Jobs.Spent number)) added history last running = tt
failed_so (Joins.Job Jobs.NoMemory) added history last running = tt
failed_so (Joins.Differ source kind name at) added history last running = tt
failed_so Joins.NoMemory added history last running = tt

pub join_cause : (fault : JoinFault) (before now : ℕ)
    → JoinCause {T = JoinReport} before now (Err fault)
    → EndingCause before now (Err (join_ending fault))
join_cause (Joins.Job (Jobs.Outside call)) before now cause = cause.0
join_cause (Joins.Job (Jobs.Damaged name at)) before now cause = tt
join_cause (Joins.Job (Jobs.Spent number)) before now cause = tt
join_cause (Joins.Job Jobs.NoMemory) before now cause = tt
join_cause (Joins.Differ source kind name at) before now cause = tt
join_cause Joins.NoMemory before now cause = tt

module _ (w : JoinAsked) where
  abbrev This : Asked
  This = Join w

  at_end : (result : Result JoinReport JoinFault) {old new : Option History}
      → IsRun w result old new
      → Adds old new (IsAt w result)
  at_end result s =
      adds_both (IsAt w result)
      (adds_both (λ a h. AreJoinActs (own_acts a) × IsTold result a h) s.own s.prints
      (λ a h x y. (acts_of_run a h x, y)))
      (adds_both (λ a h. EndsRunning result a h
      × (JoinFailsLast result a h × ShowsJoin w.left w.right result a h)) s.runs
      (adds_both (λ a h. JoinFailsLast result a h
      × ShowsJoin w.left w.right result a h) s.last s.shown (λ a h x y. (x, y)))
      (λ a h x y. (x, y)))
      (λ a h x y. record { acts = x.0; prints = x.1; runs = y.0; last = y.1.0; shown = y.1.1 })

  -- ---- by the acts, whatever others do

  cut_so : (fault : JoinFault) (added history : History) → IsAt w (Err fault) added history
      → is_stopped (added ++ history) ≡ false → JoinCut w history (join_ending fault) added
  cut_so fault added history at running = record {
    fault = fault;
    is = refl;
    of = of_ending fault;
    last = failed_so fault added history at.last running;
    each = at.acts;
    at_most = at.prints;
    shows = at.shown;
  }

  whole_so : (report : JoinReport) (added history : History) → IsAt w (Ok report) added history
      → JoinWhole w history added
  whole_so report added history at =
      record { report = report; each = at.acts; printed_is = at.prints; shows = at.shown }

  came : (result : Result JoinReport JoinFault) (added history : History)
      → IsAt w result added history
      → CausedBy This (ending result) added history
  came (Ok report) added history at = record {
    running = λ r. whole_so report added history at;
    stopped = λ stop. absurd (true≢false (sym stop ∙ at.runs));
  }
  came (Err fault) added history at =
      record { running = λ r. cut_so fault added history at r; stopped = λ stop. tt }

  pub causes : (result : Result JoinReport JoinFault) {old new : Option History}
      → IsRun w result old new
      → Adds old new (CausedBy This (ending result))
  causes result s = adds_as (CausedBy This (ending result)) (at_end result s) (came result)

  -- ---- from a legal history

  came_legally : (stamped : List (List ℕ)) (result : Result JoinReport JoinFault)
      (added history : History)
      → CausedBy This (ending result) added history
      → CameTo (Whole stamped This history) (Shows This history) (ending result) added history
  came_legally stamped (Ok report) added history c =
      record { running = c.running; stopped = c.stopped }
  came_legally stamped (Err fault) added history c =
      record { running = c.running; stopped = c.stopped }

  the_job : Contains (job ∷ []) job
  the_job = (0, omega arith, refl)

  acting : Contains (acting_for This) job
  acting = (0, omega arith, refl)

  pub told : (stamped : List (List ℕ)) (earlier : History) (result : Result JoinReport JoinFault)
      → {old new : Option History} → IsRun w result old new
      → Adds old new (Leads (RunSide stamped This) (Begins stamped earlier)
      (EndsWith stamped This (ending result) earlier))
  told stamped earlier result s =
      adds_both (Leads (RunSide stamped This) (Begins stamped earlier)
      (EndsWith stamped This (ending result) earlier))
      (causes result s) (s.told stamped)
      (λ added history c y. record {
        leads = λ others begins. record {
          legal = y.leads (others_foreign stamped
              (job ∷ []) job the_job added history others) begins.legal;
          since = record {
            added = added;
            goes_on = ap (λ (h : History). added ++ h) begins.is;
            holds =
                subst (λ (h : History). CameTo (Whole stamped This h) (Shows This h)
                (ending result) added h) begins.is
                (came_legally stamped result added history c);
          };
        };
        own = owns_as (IsBy job) (IsByOne (acting_for This))
            (by_one (acting_for This) job acting) added history y.own;
      })
