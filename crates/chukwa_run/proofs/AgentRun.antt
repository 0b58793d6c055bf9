-- The run of an agent under the rules of all processes.
use Rattle.std.proofs.Common.{◌≡◌, inl, inr, ℕ, ◌≤◌, false, List, ◌++◌, Ok, Err, Option, Some, Result, refl, sym, ◌∙◌, ap, subst, true≢false, arith}
use Rattle.chk_site.specs.declared.acts.Who.{Who}
use Rattle.chk_site.specs.declared.acts.CallFault.TheVariants.{Failed, Missing, Exists, Short, NoMemory as site_wanting}
use Rattle.chk_site.specs.declared.acts.CallFault.{CallFault}
use Rattle.chk_site.specs.History.{History, is_stopped}
use Rattle.chk_site.specs.Site.{Adds, Asked, Calls, answered, plain}
use Rattle.chk_site.specs.Runs.{Leads}
use Rattle.chk_site.proofs.Runs.{adds_both, adds_as}
use Rattle.chk_world.specs.Rules.{Legal}
use Rattle.chk_failover.specs.Turns.{Turns}
use Rattle.chk_agent.specs.declared.agent.Rules.{Rules}
use Rattle.chk_agent_run.specs.declared.run.Work.{Work}
use Rattle.chk_agent.specs.declared.answers.AgentFault.{AgentFault}
use Rattle.chk_agent.specs.declared.answers.Then.{Then}
use Rattle.chk_agent.specs.States.{State}
use Rattle.chk_agent_run.specs.declared.faults.RunFault.{RunFault}
use Rattle.chk_agent_run.specs.declared.faults.RunFault.TheVariants as runs
use Rattle.chk_agent_run.specs.declared.turn.Ended.{Ended}
use Rattle.chk_agent_run.specs.Calls.{Gives}
use Rattle.chk_agent_run.specs.Faults.{LastOfRun}
use Rattle.chk_agent_run.specs.Turns.{IsAgentTurn, AreAgentTurns}
use Rattle.chk_agent_run.specs.Runs.{HasRun, InRun, RunEnds, ended_as}
use Rattle.chk_cmd_line.specs.Commands.{AgentAsked}
use Rattle.chk_cmd_line.specs.declared.endings.Ending.{Ending}
use Rattle.chk_cmd_line.specs.Commands.{Agent}
use Rattle.chukwa_run.specs.Processes.{the_agent, RunSide}
use Rattle.chk_cmd_load.specs.Processes.{chukwa}
use Rattle.chukwa_run.specs.Whole.{ring_of, rules_of, work_of, AgentScript, Whole}
use Rattle.chukwa_run.specs.Showing.{AgentCut, AgentFits, Shows}
use Rattle.chukwa_run.specs.Causes.{IsAgentEnding}
use Rattle.chukwa_run.specs.Runs.{Begins, EndsWith, CameTo, CausedBy}
use Rattle.chukwa_run.proofs.Acts.{failed_last}
use Rattle.chukwa_run.proofs.Alive.{Alive, call_alive}

made_alive : {q : Asked} (given : Result (Unit {0}) CallFault) (result : Result (Unit {0}) AgentFault) {old new : Option History}
    → Gives q.call given result → result ≡ Ok tt → Adds old new (Calls q (answered plain given)) → Alive new
made_alive (Ok value) result gives is told = call_alive _ tt told
made_alive (Err Failed) result gives is told = absurd (cc)
made_alive (Err site_wanting) result gives is told = absurd (cc)
made_alive (Err Missing) result gives is told = absurd gives
made_alive (Err Exists) result gives is told = absurd gives
made_alive (Err (Short size)) result gives is told = absurd gives

turn_alive : (who : Who) (door : Option (List ℕ)) (pause : ℕ) (s t : State) (result : Result Then AgentFault) (then : Then) (old new : Option History)
    → IsAgentTurn who door pause s result t old new → result ≡ Ok then → Alive new
turn_alive who door pause s t result then old new (IsAgentTurn.uncontrolled fault a) is = absurd (cc)
turn_alive who door pause s t result then old new (IsAgentTurn.untimed first fault a b) is = absurd (cc)
turn_alive who door pause s t result then old new (IsAgentTurn.unturned first now fault a b d) is = absurd (cc)
turn_alive who door pause s t result then old new (IsAgentTurn.unpaused first now full fault a b d e) is = absurd (cc)
turn_alive who door pause s t result then old new (IsAgentTurn.turned first now full a b d e) is = made_alive e.given (Ok tt) e.gives refl e.told

turns_alive : (who : Who) (door : Option (List ℕ)) (pause n : ℕ) (s t : State) (result : Result Ended AgentFault) (end : Ended) (old new : Option History)
    → AreAgentTurns who door pause n s result t old new → result ≡ Ok end → Alive old → Alive new
turns_alive who door pause n s t result end old new AreAgentTurns.over is alive = alive
turns_alive who door pause n s t result end old new (AreAgentTurns.ended one) is alive = turn_alive _ _ _ _ _ _ _ _ _ one refl
turns_alive who door pause n s t result end old new (AreAgentTurns.refused fault one) is alive = absurd (cc)
turns_alive who door pause n s t result end old new (AreAgentTurns.turn one rest) is alive =
    turns_alive _ _ _ _ _ _ _ end _ _ rest is (turn_alive _ _ _ _ _ _ _ _ _ one refl)

some_turns_alive : (who : Who) (door : Option (List ℕ)) (pause n : ℕ) (s t : State) (result : Result Ended AgentFault) (end : Ended) (old new : Option History)
    → AreAgentTurns who door pause n s result t old new → result ≡ Ok end → 1 ≤ n → Alive new
some_turns_alive who door pause n s t result end old new AreAgentTurns.over is some = absurd (omega (arith, some))
some_turns_alive who door pause n s t result end old new (AreAgentTurns.ended one) is some = turn_alive _ _ _ _ _ _ _ _ _ one refl
some_turns_alive who door pause n s t result end old new (AreAgentTurns.refused fault one) is some = absurd (cc)
some_turns_alive who door pause n s t result end old new (AreAgentTurns.turn one rest) is some =
    turns_alive _ _ _ _ _ _ _ end _ _ rest is (turn_alive _ _ _ _ _ _ _ _ _ one refl)

was_ended : (result : Result Ended AgentFault) (end : Ended) → ended_as result ≡ Ok end → result ≡ Ok end
was_ended (Ok value) end is = ap (λ (r : Result Ended RunFault). elim r [ Ok v ↦ Ok v | Err f ↦ Ok end ]) is
was_ended (Err fault) end is = absurd (cc)

module _ (w : AgentAsked) where
  abbrev A : Who
  A = the_agent w.source

  abbrev Run : Result Ended RunFault → Option History → Option History → Type 0
  Run result old new = HasRun A chukwa (ring_of w) (rules_of w) (work_of w) result old new

  ran_alive : (result : Result Ended RunFault) (end : Ended) (old new : Option History) → Run result old new → result ≡ Ok end → 1 ≤ w.turns → Alive new
  ran_alive result end old new (HasRun.unread fault reads) is some = absurd (cc)
  ran_alive result end old new (HasRun.unstarted text fault reads quiet) is some = absurd (cc)
  ran_alive result end old new (HasRun.unadded text fault reads started added) is some = absurd (cc)
  ran_alive result end old new (HasRun.ran text ended reads started added turns) is some =
      some_turns_alive _ _ _ _ _ _ _ end _ _ turns (was_ended ended end is) some

  -- what the library says of the run, between these told histories
  pub record IsAgentRun (result : Result Ended RunFault) (old new : Option History) : Type 0 where
    pub ran : Run result old new
    pub told : (stamped : List (List ℕ)) → Adds old new (Leads (RunSide stamped (Agent w)) (Legal stamped) (RunEnds stamped A result))
    pub last : Adds old new (LastOfRun result)
    pub some : 1 ≤ w.turns

  -- the result of a run by that of the library
  pub data IsResultOf : Result Ended RunFault → Result (Unit {0}) Ending → Type 0 where
    went_well : {end : Ended} → IsResultOf (Ok end) (Ok tt)
    went_wrong : {fault : RunFault} {e : Ending} → IsAgentEnding w fault e → IsResultOf (Err fault) (Err e)

  cut_so : (fault : RunFault) (e : Ending) (added history : History) → IsAgentEnding w fault e → AgentScript w (Err fault) history added
      → LastOfRun {T = Ended} (Err fault) added history → is_stopped (added ++ history) ≡ false → AgentCut w history e added
  cut_so (runs.Outside call) e added history is script last running =
      subst (λ (e : Ending). AgentCut w history e added) (sym is) (failed_last added call (last running), script)
  cut_so runs.NoMemory e added history is script last running = subst (λ (e : Ending). AgentCut w history e added) (sym is) tt
  cut_so (runs.Initial at) e added history (inl is) script last running =
      subst (λ (e : Ending). AgentCut w history e added) (sym is.2) (inl (is.1, script))
  cut_so (runs.Initial at) e added history (inr is) script last running = subst (λ (e : Ending). AgentCut w history e added) (sym is) tt
  cut_so (runs.Checkpoint at) e added history (inl is) script last running =
      subst (λ (e : Ending). AgentCut w history e added) (sym is) (inr (refl, script))
  cut_so (runs.Checkpoint at) e added history (inr is) script last running = subst (λ (e : Ending). AgentCut w history e added) (sym is) tt

  fits_so : (stamped : List (List ℕ)) (fault : RunFault) (e : Ending) (added history : History) → IsAgentEnding w fault e
      → AgentScript w (Err fault) history added → RunEnds stamped A (Err fault) (added ++ history) → is_stopped (added ++ history) ≡ false
      → AgentFits w history e added
  fits_so stamped (runs.Outside call) e added history is script c running = subst (λ (e : Ending). AgentFits w history e added) (sym is) tt
  fits_so stamped runs.NoMemory e added history is script c running = subst (λ (e : Ending). AgentFits w history e added) (sym is) tt
  fits_so stamped (runs.Initial at) e added history (inl is) script c running =
      subst (λ (e : Ending). AgentFits w history e added) (sym is.2) (is.1, script)
  fits_so stamped (runs.Initial at) e added history (inr is) script c running = subst (λ (e : Ending). AgentFits w history e added) (sym is) tt
  fits_so stamped (runs.Checkpoint at) e added history is script c running = absurd (c.alive running)

  legal_so : (stamped : List (List ℕ)) (result : Result Ended RunFault) (h : History) → RunEnds stamped A result h → Legal stamped h
  legal_so stamped (Ok end) h c = c
  legal_so stamped (Err (runs.Outside call)) h c = c
  legal_so stamped (Err runs.NoMemory) h c = c
  legal_so stamped (Err (runs.Initial at)) h c = c
  legal_so stamped (Err (runs.Checkpoint at)) h c = c.legal

  script_of : (result : Result Ended RunFault) (old new : Option History) (added history : History) → old ≡ Some history
      → new ≡ Some (added ++ history) → Run result old new → AgentScript w result history added
  script_of result old new added history is to run =
      subst (λ (o : Option History). Run result o (Some (added ++ history))) is (subst (λ (n : Option History). Run result old n) to run)

  -- the script, and what came of it
  pub record IsAt (result : Result Ended RunFault) (added history : History) : Type 0 where
    pub script : AgentScript w result history added
    pub last : LastOfRun result added history
    pub some : 1 ≤ w.turns

  pub at_end : (result : Result Ended RunFault) {old new : Option History} → IsAgentRun result old new → Adds old new (IsAt result)
  at_end result {old = old} {new = new} s = record {
    told =
        λ history e.
        let t = s.last.told history e in
        (t.0, t.1, record { script = script_of result old new t.0 history e t.1 s.ran; last = t.2; some = s.some });
    untold = s.last.untold;
  }

  came : (result : Result Ended RunFault) (r : Result (Unit {0}) Ending) (added history : History) → IsResultOf result r → IsAt result added history
      → CausedBy (Agent w) r added history
  came result r added history (went_well {end = end}) at = record {
    running = λ run. (end, at.script);
    stopped = λ stop. absurd (true≢false (sym stop ∙ ran_alive (Ok end) end _ _ at.script refl at.some));
  }
  came result r added history (went_wrong {fault = fault} {e = e} is) at = record {
    running = λ run. cut_so fault e added history is at.script at.last run;
    stopped = λ stop. tt;
  }

  pub causes : (result : Result Ended RunFault) (r : Result (Unit {0}) Ending) {old new : Option History} → IsResultOf result r → IsAgentRun result old new
      → Adds old new (CausedBy (Agent w) r)
  causes result r is s = adds_as (CausedBy (Agent w) r) (at_end result s) (λ added history at. came result r added history is at)

  came_legally : (stamped : List (List ℕ)) (result : Result Ended RunFault) (r : Result (Unit {0}) Ending) (added history : History)
      → IsResultOf result r → IsAt result added history → RunEnds stamped A result (added ++ history)
      → CameTo (Whole stamped (Agent w) history) (Shows (Agent w) history) r added history
  came_legally stamped result r added history (went_well {end = end}) at c =
      let by = came (Ok end) (Ok tt) added history went_well at in
      record { running = by.running; stopped = by.stopped }
  came_legally stamped result r added history (went_wrong {fault = fault} {e = e} is) at c = record {
    running =
        λ run. (cut_so fault e added history is at.script at.last run, fits_so stamped fault e added history is at.script c run);
    stopped = λ stop. tt;
  }

  pub told : (stamped : List (List ℕ)) (earlier : History) (result : Result Ended RunFault) (r : Result (Unit {0}) Ending) {old new : Option History}
      → IsResultOf result r → IsAgentRun result old new
      → Adds old new (Leads (RunSide stamped (Agent w)) (Begins stamped earlier) (EndsWith stamped (Agent w) r earlier))
  told stamped earlier result r is s =
      adds_both (Leads (RunSide stamped (Agent w)) (Begins stamped earlier) (EndsWith stamped (Agent w) r earlier))
      (at_end result s) (s.told stamped)
      (λ added history at y. record {
        leads =
            λ others begins.
            let c = y.leads others begins.legal in
            record {
              legal = legal_so stamped result (added ++ history) c;
              since = record {
                added = added;
                goes_on = ap (λ (h : History). added ++ h) begins.is;
                holds =
                    subst (λ (h : History). CameTo (Whole stamped (Agent w) h) (Shows (Agent w) h) r added h) begins.is
                    (came_legally stamped result r added history is at c);
              };
            };
        own = y.own;
      })

  -- the same of these processes, this ring, these rules and this work
  pub record IsGiven (result : Result Ended RunFault) (old new : Option History) (who writer : Who) (ring : Turns) (rules : Rules) (work : Work) : Type 0 where
    pub ran : HasRun who writer ring rules work result old new
    pub told : (stamped : List (List ℕ)) → Adds old new (Leads (InRun stamped who writer) (Legal stamped) (RunEnds stamped who result))
    pub last : Adds old new (LastOfRun result)
    pub some : 1 ≤ w.turns

  pub run_of : (result : Result Ended RunFault) {old new : Option History} (who writer : Who) (ring : Turns) (rules : Rules) (work : Work)
      → who ≡ A → writer ≡ chukwa → ring ≡ ring_of w → rules ≡ rules_of w → work ≡ work_of w
      → IsGiven result old new who writer ring rules work → IsAgentRun result old new
  run_of result {old = old} {new = new} who writer ring rules work a b d e f given =
      let g = subst (λ (x : Work). IsGiven result old new A chukwa (ring_of w) (rules_of w) x) f
      (subst (λ (x : Rules). IsGiven result old new A chukwa (ring_of w) x work) e
      (subst (λ (x : Turns). IsGiven result old new A chukwa x rules work) d
      (subst (λ (x : Who). IsGiven result old new A x ring rules work) b
      (subst (λ (x : Who). IsGiven result old new x writer ring rules work) a given)))) in
      record { ran = g.ran; told = g.told; last = g.last; some = g.some }
