-- The run of a drain under the rules of all processes.
use Rattle.std.proofs.Common.{◌≡◌, inl, inr, ℕ, false, List, ◌++◌, Ok, Err, Option, Some, Result, refl, sym, ◌∙◌, ap, subst, true≢false}
use Rattle.chk_site.specs.declared.acts.Who.{Who}
use Rattle.chk_site.specs.declared.acts.OutsideFault.{OutsideFault}
use Rattle.chk_site.specs.declared.acts.OutsideFault.TheVariants as site_faults
use Rattle.chk_site.specs.History.{History, Others, is_stopped}
use Rattle.chk_site.specs.Site.{Adds}
use Rattle.chk_site.specs.Runs.{Leads}
use Rattle.chk_site.proofs.Runs.{adds_both, adds_as}
use Rattle.chk_failover.specs.Turns.{Turns}
use Rattle.chk_world.specs.Rules.{Legal}
use Rattle.chk_world.specs.Together.{Outside}
use Rattle.chk_agent.specs.declared.agent.Rules.{Rules}
use Rattle.chk_agent.specs.States.{State}
use Rattle.chk_agent_run.specs.declared.faults.RunFault.{RunFault}
use Rattle.chk_agent_run.specs.declared.faults.RunFault.TheVariants as runs
use Rattle.chk_agent_run.specs.Runs.{InRun}
use Rattle.chk_cmd_drain.specs.declared.faults.DrainFault.{DrainFault}
use Rattle.chk_cmd_drain.specs.declared.faults.DrainFault.TheVariants as drains
use Rattle.chk_cmd_drain.specs.Begins.{Begins}
use Rattle.chk_cmd_drain.specs.Done.{DoneSo}
use Rattle.chk_cmd_drain.specs.Drains.{Finishes, HasDrained, DrainEnds, LastOfDrain, told_as}
use Rattle.chk_cmd_drain.specs.Streams.{told_line}
use Rattle.chk_cmd_line.specs.Commands.{DrainAsked}
use Rattle.chk_cmd_line.specs.declared.endings.Ending.{Ending}
use Rattle.chk_cmd_line.specs.Commands.{Drain}
use Rattle.chukwa_run.specs.Processes.{RunSide, started_by}
use Rattle.chukwa_run.specs.Draining.{setting_of, HasDrainedIn, DrainScript}
use Rattle.chukwa_run.specs.declared.draining.Setting.{Setting}
use Rattle.chukwa_run.specs.Whole.{Whole}
use Rattle.chukwa_run.specs.Showing.{DrainCut, DrainFits, Shows}
use Rattle.chukwa_run.specs.Causes.{IsDrainEnding}
use Rattle.chukwa_run.specs.Runs.{Begins as BeginsLegal, EndsWith, CameTo, CausedBy}
use Rattle.chukwa_run.proofs.Acts.{failed_last}
use Rattle.chukwa_run.proofs.Alive.{Alive}
use Rattle.chukwa_run.proofs.WorksAlive.{printed_alive, clocked_alive, added_alive}

-- ---- that the site wasn't stopped

begun_alive : {who writer : Who} {ring : Turns} {rules : Rules} {initial : Option (List ℕ)}
    {result : Result _ RunFault}
    {old new : Option History} → Begins who writer ring rules initial result old new → (b : _)
    → result ≡ Ok b
    → Alive new
begun_alive (Begins.unread fault reads) b is = absurd (cc)
begun_alive (Begins.unstarted text fault reads quiet) b is = absurd (cc)
begun_alive (Begins.untimed text fault reads started clocked) b is = absurd (cc)
begun_alive (Begins.unadded text now fault reads started clocked added) b is = absurd (cc)
begun_alive (Begins.begun text now reads started clocked added) b is =
    added_alive added refl (clocked_alive _ now _ _ clocked)

all_told : (printed : Result (Unit {0}) OutsideFault) → told_as printed ≡ Ok tt → printed ≡ Ok tt
all_told (Ok value) is = refl
all_told (Err (site_faults.Outside call)) is = absurd (cc)
all_told (Err site_faults.NoMemory) is = absurd (cc)

finished_alive : {who : Who} {now reads polls : ℕ} {s t : State}
    {result : Result (Unit {0}) DrainFault} {old new : Option History}
    → Finishes who now reads polls s result t old new → result ≡ Ok tt → Alive old → Alive new
finished_alive Finishes.unbegun is alive = absurd (cc)
finished_alive (Finishes.none_live none) is alive = alive
finished_alive (Finishes.refused fault drained) is alive = absurd (cc)
finished_alive (Finishes.undone answer fault drained undone) is alive = absurd (cc)
finished_alive (Finishes.told {t = t} printed some drained prints) is alive =
    printed_alive _ (told_line t) _ printed _ _ prints (all_told printed is) some

drained_alive : {s : Setting} {result : Result (Unit {0}) DrainFault} {old new : Option History}
    → HasDrainedIn s result old new → result ≡ Ok tt → Alive new
drained_alive (HasDrained.not_begun fault begins) is = absurd (cc)
drained_alive (HasDrained.drained_so b begins finishes) is = finished_alive finishes is
    (begun_alive begins b refl)

-- ---- what the library says of the run in a setting, between these told histories

pub record IsRunIn (s : Setting) (result : Result (Unit {0}) DrainFault)
    (old new : Option History) : Type 0 where
  pub ran : HasDrainedIn s result old new
  pub told : (stamped : List (List ℕ)) → Adds old new
      (Leads (InRun stamped s.who s.writer) (Legal stamped) (DrainEnds stamped s.who result))
  pub done : (stamped : List (List ℕ)) → Adds old new
      (DoneSo stamped s.who s.writer s.work.initial result)
  pub last : Adds old new (LastOfDrain result)

module _ (w : DrainAsked) where
  -- the result of a run by that of the library
  pub data IsResultOf : Result (Unit {0}) DrainFault → Result (Unit {0}) Ending → Type 0 where
    went_well : IsResultOf (Ok tt) (Ok tt)
    went_wrong : {fault : DrainFault} {e : Ending} → IsDrainEnding w fault e
        → IsResultOf (Err fault) (Err e)

  -- what an ending shows, where it is this one
  as_cut : (added history : History) {e f : Ending} → e ≡ f → DrainCut w history f added
      → DrainCut w history e added
  as_cut added history is shows = subst (λ (e : Ending). DrainCut w history e added) (sym is) shows

  cut_so : (fault : DrainFault) (e : Ending) (added history : History) → IsDrainEnding w fault e
      → DrainScript w (Err fault) history added → LastOfDrain (Err fault) added history
      → is_stopped (added ++ history) ≡ false
      → DrainCut w history e added
  cut_so (drains.Run (runs.Outside call)) e added history is script last running =
      as_cut added history is (λ other. failed_last added call (last other running), script)
  cut_so (drains.Run runs.NoMemory) e added history is script last running =
      as_cut added history is tt
  cut_so (drains.Run (runs.Initial at)) e added history (inl is) script last running =
      as_cut added history is.2 (inl (is.1, script))
  cut_so (drains.Run (runs.Initial at)) e added history (inr is) script last running =
      as_cut added history is tt
  cut_so (drains.Run (runs.Checkpoint at)) e added history (inl is) script last running =
      as_cut added history is (inr (refl, script))
  cut_so (drains.Run (runs.Checkpoint at)) e added history (inr is) script last running =
      as_cut added history is tt
  cut_so (drains.Pending stem got want) e added history is script last running =
      as_cut added history is script
  cut_so (drains.Growing path reads) e added history is script last running =
      as_cut added history is script
  cut_so (drains.Shrank path had size) e added history is script last running =
      as_cut added history is script
  cut_so (drains.Refused code) e added history is script last running =
      as_cut added history is script

  -- what is said of a drain that is done, where others act as is supposed
  abbrev SaysSo : List (List ℕ) → Result (Unit {0}) DrainFault → History → History → Type 0
  SaysSo stamped result added history =
      DoneSo stamped (setting_of w).who (setting_of w).writer w.initial result added history

  as_fit : (added history : History) {e f : Ending} → e ≡ f → DrainFits w history f added
      → DrainFits w history e added
  as_fit added history is shows = subst (λ (e : Ending). DrainFits w history e added) (sym is) shows

  -- the drain didn't end at a log that is shorter than what was read of it
  abbrev IsLongEnd : DrainFault → Type 0
  IsLongEnd (drains.Shrank path had size) = ⊥
  IsLongEnd fault = Unit {0}

  long_so : (stamped : List (List ℕ)) (fault : DrainFault) (added history : History)
      → SaysSo stamped (Err fault) added history
      → Others (Outside stamped (started_by (Drain w))) added history → Legal stamped history
      → is_stopped (added ++ history) ≡ false → IsLongEnd fault
  long_so stamped (drains.Shrank path had size) added history done others legal running =
      done others legal running
  long_so stamped (drains.Run fault) added history done others legal running = tt
  long_so stamped (drains.Pending stem got want) added history done others legal running = tt
  long_so stamped (drains.Growing path reads) added history done others legal running = tt
  long_so stamped (drains.Refused code) added history done others legal running = tt

  fits_so : (stamped : List (List ℕ)) (fault : DrainFault) (e : Ending) (added history : History)
      → IsDrainEnding w fault e
      → DrainScript w (Err fault) history added
      → DrainEnds stamped (setting_of w).who (Err fault) (added ++ history)
      → (is_stopped (added ++ history) ≡ false → IsLongEnd fault)
      → is_stopped (added ++ history) ≡ false → DrainFits w history e added
  fits_so stamped (drains.Run (runs.Outside call)) e added history is script c long running =
      as_fit added history is tt
  fits_so stamped (drains.Run runs.NoMemory) e added history is script c long running =
      as_fit added history is tt
  fits_so stamped (drains.Run (runs.Initial at)) e added history (inl is) script c long running =
      as_fit added history is.2 (is.1, script)
  fits_so stamped (drains.Run (runs.Initial at)) e added history (inr is) script c long running =
      as_fit added history is tt
  fits_so stamped (drains.Run (runs.Checkpoint at)) e added history is script c long running = absurd
      (c.alive running)
  fits_so stamped (drains.Pending stem got want) e added history is script c long running =
      as_fit added history is tt
  fits_so stamped (drains.Growing path reads) e added history is script c long running =
      as_fit added history is tt
  fits_so stamped (drains.Shrank path had size) e added history is script c long running = absurd
      (long running)
  fits_so stamped (drains.Refused code) e added history is script c long running =
      as_fit added history is tt

  legal_so : (stamped : List (List ℕ)) (result : Result (Unit {0}) DrainFault) (h : History)
      → DrainEnds stamped (setting_of w).who result h → Legal stamped h
  legal_so stamped (Ok value) h c = c
  legal_so stamped (Err (drains.Run (runs.Outside call))) h c = c
  legal_so stamped (Err (drains.Run runs.NoMemory)) h c = c
  legal_so stamped (Err (drains.Run (runs.Initial at))) h c = c
  legal_so stamped (Err (drains.Run (runs.Checkpoint at))) h c = c.legal
  legal_so stamped (Err (drains.Pending stem got want)) h c = c
  legal_so stamped (Err (drains.Growing path reads)) h c = c
  legal_so stamped (Err (drains.Shrank path had size)) h c = c
  legal_so stamped (Err (drains.Refused code)) h c = c

  script_of : (result : Result (Unit {0}) DrainFault) (old new : Option History)
      (added history : History) → old ≡ Some history
      → new ≡ Some (added ++ history) → HasDrainedIn (setting_of w) result old new
      → DrainScript w result history added
  script_of result old new added history is to run =
      subst (λ (o : Option History). HasDrainedIn (setting_of w) result o (Some (added ++ history)))
      is
      (subst (λ (n : Option History). HasDrainedIn (setting_of w) result old n) to run)

  -- the script, and which call came last
  record IsAt (result : Result (Unit {0}) DrainFault) (added history : History) : Type 0 where
    pub script : DrainScript w result history added
    pub last : LastOfDrain result added history

  at_end : (result : Result (Unit {0}) DrainFault) {old new : Option History}
      → IsRunIn (setting_of w) result old new
      → Adds old new (IsAt result)
  at_end result {old = old} {new = new} s = record {
    told =
        λ history e.
        let t = s.last.told history e in (
          t.0,
          t.1,
          record {
            script = script_of result old new t.0 history e t.1 s.ran;
            last =
                t.2;
          },
        );
    untold = s.last.untold;
  }

  came : (result : Result (Unit {0}) DrainFault) (r : Result (Unit {0}) Ending)
      (added history : History) → IsResultOf result r
      → IsAt result added history → CausedBy (Drain w) r added history
  came result r added history went_well at = record {
    running = λ run. at.script;
    stopped = λ stop. absurd (true≢false (sym stop ∙ drained_alive at.script refl));
  }
  came result r added history (went_wrong {fault = fault} {e = e} is) at = record {
    running = λ run. cut_so fault e added history is at.script at.last run;
    stopped = λ stop. tt;
  }

  came_legally : (stamped : List (List ℕ)) (result : Result (Unit {0}) DrainFault)
      (r : Result (Unit {0}) Ending)
      (added history : History) → IsResultOf result r → IsAt result added history
      → DrainEnds stamped (setting_of w).who result (added ++ history)
      → SaysSo stamped result added history
      → Others (Outside stamped (started_by (Drain w))) added history → Legal stamped history
      → CameTo (Whole stamped (Drain w) history) (Shows (Drain w) history) r added history
  came_legally stamped result r added history went_well at c done others legal = record {
    running = λ run. record { ran = at.script; done = done others legal run };
    stopped = (came (Ok tt) (Ok tt) added history went_well at).stopped;
  }
  came_legally stamped result r added history (went_wrong {fault = fault} {e = e} is) at c done
      others legal =
      record {
        running =
            λ run. (
              cut_so fault e added history is at.script at.last run,
              fits_so stamped fault e added history is at.script c
                  (long_so stamped fault added history done others legal) run,
            );
        stopped = λ stop. tt;
      }

  module _ (result : Result (Unit {0}) DrainFault)
      (r : Result (Unit {0}) Ending) {old new : Option History} (is : IsResultOf result r)
      (setting : Setting) (given : setting ≡ setting_of w)
      (run : IsRunIn setting result old new) where
    so : IsRunIn (setting_of w) result old new
    so = subst (λ (s : Setting). IsRunIn s result old new) given run

    pub causes : Adds old new (CausedBy (Drain w) r)
    causes = adds_as (CausedBy (Drain w) r) (at_end result so)
        (λ added history at. came result r added history is at)

    pub told : (stamped : List (List ℕ)) (earlier : History)
        → Adds old new (Leads (RunSide stamped (Drain w)) (BeginsLegal stamped earlier)
        (EndsWith stamped (Drain w) r earlier))
    told stamped earlier =
        adds_both (Leads (RunSide stamped (Drain w)) (BeginsLegal stamped earlier)
        (EndsWith stamped (Drain w) r earlier))
        (adds_both
        (λ added history. IsAt result added history × SaysSo stamped result added history)
        (at_end result so) (so.done stamped) (λ added history at d. (at, d)))
        (so.told stamped)
        (λ added history at y. record {
          leads =
              λ others begins.
              let c = y.leads others begins.legal in
              record {
                legal = legal_so stamped result (added ++ history) c;
                since = record {
                  added = added;
                  goes_on = ap (λ (h : History). added ++ h) begins.is;
                  holds =
                      subst (λ (h : History). CameTo (Whole stamped (Drain w) h)
                      (Shows (Drain w) h) r added h) begins.is
                      (came_legally stamped result r added history is at.0 c at.1 others
                      begins.legal);
                };
              };
          own = y.own;
        })
