-- The rules allow what a round prints.
use Rattle.std.proofs.Common.{◌≡◌, ℕ, Bool, true, false, List, [], ◌∷◌, ◌++◌, Option, Some, Ok, Err, Result, map, sym, subst, ap, ◌∙◌, refl, arith, append_assoc}
use Rattle.std.specs.Prelude.{IsTrue, MatchBool}
use Rattle.chk_site.specs.declared.acts.Who.{Who}
use Rattle.chk_site.specs.declared.acts.OutsideFault.{OutsideFault}
use Rattle.chk_site.specs.History.{History, is_stopped}
use Rattle.chk_site.specs.Site.{Adds, plain}
use Rattle.chk_site.specs.Runs.{Leads, own_acts}
use Rattle.chk_site.proofs.Leads.{leads_as, leads_none, leads_then}
use Rattle.chk_site.proofs.Runs.{adds_then}
use Rattle.chk_world.specs.ArchiveRuns.{IsArchiveRun, Listing, is_one_line, is_report, last_listing}
use Rattle.chk_world.specs.Checkpoints.{Line}
use Rattle.chk_world.specs.Jobs.{RanSo, ReportIsTrue}
use Rattle.chk_world.specs.Knowing.{agent}
use Rattle.chk_world.specs.Names.{is_source}
use Rattle.chk_world.specs.Places.{As, AtTold}
use Rattle.chk_world.specs.Rules.{Legal}
use Rattle.chk_world.specs.Sight.{job}
use Rattle.chk_world.specs.Together.{Together}
use Rattle.chk_world.proofs.Beside.{acts_beside, stay_always, stay_by}
use Rattle.chk_world.proofs.PlacesStay.{Stays}
use Rattle.chk_world.proofs.SightStays.{sight_stays}
use Rattle.chk_world.proofs.ToldCalls.{MayCall, told_ends, told_ok}
use Rattle.chk_archive.specs.Reports.{Report}
use Rattle.chk_cmd_archive.specs.Telling.{run_line}
use Rattle.chk_cmd_archive.proofs.Lines.{line_is_report}
use Rattle.chk_cmd_archive.proofs.RunStays.{last_same, run_same}
use Rattle.chk_cmd_output.specs.Printing.{PrintsInTurn, all_printed, unprinted, printed_on, ended, Print, by, printed, printing}
use Rattle.chk_cmd_output.proofs.Printed.{prints_join, prints_run, prints_told}
use Rattle.chk_round.specs.Processes.{IsRunOf}
use Rattle.chk_cmd_round.specs.Telling.{Tells, cut, told, round_prints, stream_lines}
use Rattle.chk_cmd_archive.proofs.TrueLines.{in_any_case}

abbrev pub Any : History → Type 0
Any history = Unit {0}

-- the run that began with the job's last listing has these numbers
abbrev pub RanNow : Report → History → Type 0
RanNow r history =
    (l : Listing) × (last_listing history ≡ Some l) × IsArchiveRun history l r.unclosed r.taken r.held r.removed

-- by the result of its prints the process may act on, or the history is legal
abbrev pub StillAt : List (List ℕ) → Who → Result (Unit {0}) OutsideFault → History → Type 0
StillAt stamped who (Ok value) history = AtTold stamped who Any history
StillAt stamped who (Err fault) history = Legal stamped history

-- ---- the agent

module _ (stamped : List (List ℕ)) (source : List ℕ) (named : IsTrue (is_source source)) where
  any_stays : Stays stamped (agent source) Any
  any_stays history step legal f d = tt

  may_say : (line : List ℕ) → MayCall stamped (printing (agent source) line) named Any
  may_say line before answer files logs legal d = record { own_files = tt; logs = tt; requests = tt; rule = tt }

  pub agent_prints : {lines : List (List ℕ)} {result : Result (Unit {0}) OutsideFault} {old new : Option History}
      → PrintsInTurn (agent source) lines result old new
      → Adds old new (Leads (As stamped (agent source)) (AtTold stamped (agent source) Any) (StillAt stamped (agent source) result))
  agent_prints all_printed = leads_none _ (λ h k. k)
  agent_prints unprinted = leads_none _ (λ h k. k.legal)
  agent_prints (printed_on {line = line} one said rest) =
      leads_then
      (told_ok stamped (printing (agent source) line) named Any Any (plain {T = Unit {0}} tt) any_stays (may_say line) tt
      (λ before answer files logs is legal d. tt) said)
      (agent_prints rest)
  agent_prints (ended {line = line} {fault = fault} given one ends said) =
      leads_as (λ h k. k) (λ h k. k.legal)
      (told_ends stamped (printing (agent source) line) named Any (λ f h. Unit {0}) plain given fault any_stays (may_say line)
      (λ before answer files logs is legal d. tt) (λ history d. tt) ends said)

-- ---- the job

module _ (stamped : List (List ℕ)) (r : Report) where
  pub ran_stays : Stays stamped job (RanNow r)
  ran_stays history step legal f d =
      let same = sight_stays stamped history step legal f in
      let after : Legal stamped (step ∷ history) = (legal, f.obeys) in (
        d.0,
        last_same stamped history (step ∷ history) legal after same ∙ d.1,
        run_same stamped history (step ∷ history) legal after same d.0 d.1 r.unclosed r.taken r.held r.removed d.2,
      )

  report_true : (before : History) → RanNow r before → IsTrue (is_one_line (run_line r)) → ReportIsTrue before (run_line r)
  report_true before d one = (
    one,
    in_any_case (is_report (run_line r))
        (record {
          unclosed = r.unclosed;
          taken = r.taken;
          held = r.held;
          removed = r.removed;
          is = line_is_report r.unclosed r.taken r.held r.removed;
          ran = subst (λ (o : Option Listing). RanSo before o r.unclosed r.taken r.held r.removed) (sym d.1) d.2;
        }),
  )

  may_tell : IsTrue (is_one_line (run_line r)) → MayCall stamped (printing job (run_line r)) refl (RanNow r)
  may_tell one before answer files logs legal d =
      record { own_files = tt; logs = tt; requests = tt; rule = (refl, report_true before d one) }

  pub job_prints : {result : Result (Unit {0}) OutsideFault} {old new : Option History}
      → PrintsInTurn job (run_line r ∷ []) result old new
      → Adds old new (Leads (As stamped job) (AtTold stamped job (RanNow r)) (Legal stamped))
  job_prints unprinted = leads_none _ (λ h k. k.legal)
  job_prints (printed_on one said all_printed) =
      leads_as (λ h k. k) (λ h k. k.legal)
      (told_ok stamped (printing job (run_line r)) refl (RanNow r) Any (plain {T = Unit {0}} tt) ran_stays (may_tell one) tt
      (λ before answer files logs is legal d. tt) said)
  job_prints (printed_on one said unprinted) =
      leads_as (λ h k. k) (λ h k. k.legal)
      (told_ok stamped (printing job (run_line r)) refl (RanNow r) Any (plain {T = Unit {0}} tt) ran_stays (may_tell one) tt
      (λ before answer files logs is legal d. tt) said)
  job_prints (ended {fault = fault} given one ends said) =
      leads_as (λ h k. k) (λ h k. k.legal)
      (told_ends stamped (printing job (run_line r)) refl (RanNow r) (λ f h. Unit {0}) plain given fault ran_stays (may_tell one)
      (λ before answer files logs is legal d. tt) (λ history d. tt) ends said)

-- ---- both

-- both may act, and the run is done
abbrev pub BothMay : List (List ℕ) → List ℕ → Report → History → Type 0
BothMay stamped source r h = AtTold stamped (agent source) Any h × AtTold stamped job (RanNow r) h

module _ (stamped : List (List ℕ)) (source : List ℕ) (named : IsTrue (is_source source)) (started acting : List Who)
    (run : IsRunOf source started acting) (lines : List Line) (r : Report) where
  abbrev Go : (History → Type 0) → (History → Type 0) → Option History → Option History → Type 0
  Go A B old new = Adds old new (Leads (Together stamped started acting) A B)

  agent_goes : {result : Result (Unit {0}) OutsideFault} {old new : Option History}
      → PrintsInTurn (agent source) (stream_lines source lines) result old new
      → Go (BothMay stamped source r) (λ h. StillAt stamped (agent source) result h × AtTold stamped job (RanNow r) h) old new
  agent_goes {result = result} prints =
      acts_beside stamped started acting (agent source)
      (run.started_all (agent source) (1, omega arith, refl)) (run.acts_all (agent source) (1, omega arith, refl))
      (AtTold stamped job (RanNow r))
      (stay_by stamped started (agent source) job (run.started_all job (2, omega arith, refl)) refl (RanNow r) (ran_stays stamped r))
      (still_legal result) (agent_prints stamped source named prints)
    where
      still_legal : (result : Result (Unit {0}) OutsideFault) (h : History) → StillAt stamped (agent source) result h → Legal stamped h
      still_legal (Ok value) h k = k.legal
      still_legal (Err fault) h k = k

  job_goes : {result : Result (Unit {0}) OutsideFault} {old new : Option History}
      → PrintsInTurn job (run_line r ∷ []) result old new
      → Go (BothMay stamped source r) (Legal stamped) old new
  job_goes prints =
      leads_as (λ h k. (k.1, tt)) (λ h k. k.0)
      (acts_beside stamped started acting job (run.started_all job (2, omega arith, refl)) (run.acts_all job (2, omega arith, refl))
      Any (stay_always (λ history step legal e. tt)) (λ h k. k) (job_prints stamped r prints))

  pub tells_lead : {result : Result (Unit {0}) OutsideFault} {old new : Option History} → Tells (agent source) job lines r result old new
      → Go (BothMay stamped source r) (Legal stamped) old new
  tells_lead (cut prints) = leads_as (λ h k. k) (λ h k. k.0) (agent_goes prints)
  tells_lead (told first last) = leads_then (agent_goes first) (job_goes last)

-- ---- what was printed

pub tells_printed : {reading archiving : Who} {lines : List Line} {r : Report} {old new : Option History}
    → Tells reading archiving lines r (Ok tt) old new
    → Adds old new (λ added history. printed (own_acts added) ≡ round_prints reading archiving lines r)
tells_printed {reading = reading} {archiving = archiving} {lines = lines} {r = r} (told first last) =
    adds_then (λ added history. printed (own_acts added) ≡ round_prints reading archiving lines r) (prints_told first) (prints_told last)
    (λ a b history p q.
    prints_join b a
    ∙ (ap (λ (x : List Print). x ++ printed (own_acts b)) p ∙ ap (λ (x : List Print). map (by reading) (stream_lines reading.name lines) ++ x) q))

-- and the site wasn't stopped
pub tells_run : {reading archiving : Who} {lines : List Line} {r : Report} {old new : Option History}
    → Tells reading archiving lines r (Ok tt) old new → Adds old new (λ added history. is_stopped (added ++ history) ≡ false)
tells_run (told first last) =
    adds_then (λ added history. is_stopped (added ++ history) ≡ false) (prints_told first) (prints_run last)
    (λ a b history p q. subst (λ (h : History). is_stopped h ≡ false) (sym (append_assoc b a history)) q)
