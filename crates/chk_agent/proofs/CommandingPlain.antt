-- A control line that calls nothing, exit by exit, and that the history holds what it makes of the
-- state.
use Rattle.std.proofs.Common.{◌≡◌, ℕ, List, [], ◌∷◌, Option, Some, None, Result, Ok, Err, ap, sym}
use Rattle.std.proofs.Common.{subst, ◌∙◌, refl, arith}
use Rattle.std.specs.Prelude.{slice_get}
use Rattle.std.proofs.lemmas.Option.{same_Some}
use Rattle.chk_site.specs.History.{History}
use Rattle.chk_site.specs.Site.{Adds}
use Rattle.chk_site.specs.Runs.{Leads}
use Rattle.chk_site.proofs.Leads.{leads_none}
use Rattle.chk_site.proofs.Runs.{adds_none}
use Rattle.chk_world.specs.Places.{As}
use Rattle.chk_control.specs.declared.commands.Command.TheVariants.{Blank, Add, Close, Help}
use Rattle.chk_control.specs.declared.commands.Command.TheVariants.{List as ListAll}
use Rattle.chk_control.specs.declared.commands.Command.TheVariants.{ReloadCollectors, Stop, StopAll}
use Rattle.chk_control.specs.declared.commands.Command.TheVariants.{Shutdown, StopAgent}
use Rattle.chk_control.specs.Lines.{Meaning, meaning_of}
use Rattle.chk_agent_adaptor.specs.Adaptors.{Adaptor}
use Rattle.chk_agent_delivery.specs.States.{State as Delivery}
use Rattle.chk_agent.specs.declared.answers.AgentFault.{AgentFault}
use Rattle.chk_agent.specs.declared.answers.AgentFault.TheVariants.{NoMemory}
use Rattle.chk_agent.specs.declared.answers.Reply.{Reply}
use Rattle.chk_agent.specs.declared.answers.Then.{Then}
use Rattle.chk_agent.specs.Replies.{reply_of}
use Rattle.chk_agent.specs.Faults.{AgentCause, FailsLast, IsUndamaged}
use Rattle.chk_agent.specs.States.{State, process}
use Rattle.chk_agent.specs.Facts.{Holds, Matches}
use Rattle.chk_agent.specs.Fits.{IsSound}
use Rattle.chk_agent.specs.Adds.{named_in}
use Rattle.chk_agent.specs.Commands.{Effect, plain_effect, stop_effect, shutdown_effect, ending}
use Rattle.chk_agent.specs.Commands.{live_from, stopped_state, RunsPlainly, did, unmade, IsAnswered}
use Rattle.chk_agent.specs.Commands.{IsCommand, plainly, wanting}
use Rattle.chk_agent.proofs.CommandingStates.{phases_hold, ending_rephased, stopped_holds}
use Rattle.chk_agent.proofs.CommandingStates.{first_holds}

-- ---- the exits

pub did_as : (m : Meaning) (s t : State) (reply : Reply) (e : Effect) → plain_effect m s ≡ Some e
    → reply ≡ reply_of e.text e.on
    → t ≡ e.next → RunsPlainly m s (Ok reply) t
did_as m s t reply e is text next =
    subst (λ r. RunsPlainly m s (Ok r) t) (sym text) (subst (λ k. RunsPlainly m s (Ok
    (reply_of e.text e.on)) k) (sym next) (did e is))

pub unmade_as : (m : Meaning) (s : State) (result : Result Reply AgentFault)
    → result ≡ Err NoMemory → RunsPlainly m s result s
unmade_as m s result is = subst (λ r. RunsPlainly m s r s) (sym is) unmade

-- a line that is answered and changes nothing
pub answered_as : (m : Meaning) (s : State) (text : List ℕ) (on : Then)
    (result : Result Reply AgentFault) → IsAnswered text on result
    → plain_effect m s ≡ Some (record { text = text; on = on; next = s }) → RunsPlainly m s result s
answered_as m s text on (Ok reply) answered is = did_as m s s reply
    (record { text = text; on = on; next = s }) is answered refl
answered_as m s text on (Err fault) answered is = unmade_as m s (Err fault) (ap Err answered)

-- ---- what the history holds

module _ (stamped : List (List ℕ)) (history : History) (s : State) where
  -- the checkpoint stays
  matches_like : (adaptors : List Adaptor) (d : Delivery)
      → (Holds s history → Holds (record s { adaptors = adaptors; delivery = d }) history)
      → Matches stamped s history → Matches stamped
      (record s { adaptors = adaptors; delivery = d }) history
  matches_like adaptors d holds x = record {
    legal = x.legal;
    may_act = x.may_act;
    alive = λ running ready.
        let k = x.alive running ready in
        record { one_cluster = k.one_cluster; lines_are = k.lines_are; holds = holds k.holds };
  }

  module _ (sound : IsSound s) (x : Matches stamped s history) where
    matches_next : (e f : Effect) → Some f ≡ Some e → Matches stamped f.next history
        → Matches stamped e.next history
    matches_next e f is = subst (λ (k : Effect). Matches stamped k.next history) (same_Some f e is)

    matches_stopped : (gone : List ℕ) → Matches stamped (stopped_state gone s) history
    matches_stopped gone = matches_like _ _ (λ h. stopped_holds history s sound h gone) x

    matches_ending : (i : ℕ) (o : Option Adaptor) → slice_get s.adaptors i ≡ o
        → Matches stamped (ending i o s) history
    matches_ending i None at = x
    matches_ending i (Some a) at = matches_like _ _ (λ h. phases_hold history s h _
        (ending_rephased s.adaptors i a at)) x

    effect_holds : (m : Meaning) (e : Effect) → plain_effect m s ≡ Some e
        → Matches stamped e.next history
    effect_holds (Ok Blank) e is = matches_next e _ is x
    effect_holds (Ok (Add name class kind path offset)) e is = absurd (let z : ⊥ = cc in z)
    effect_holds (Ok Close) e is = matches_next e _ is x
    effect_holds (Ok Help) e is = matches_next e _ is x
    effect_holds (Ok ListAll) e is = matches_next e _ is x
    effect_holds (Ok ReloadCollectors) e is = matches_next e _ is (matches_like _ _
        (first_holds history s) x)
    effect_holds (Ok (Stop name)) e is = go (named_in name 0 s.adaptors) is
      where
        go : (o : Option ℕ) → stop_effect name o s ≡ Some e → Matches stamped e.next history
        go None is = matches_next e _ is x
        go (Some i) is = matches_next e _ is (matches_stopped (i ∷ []))
    effect_holds (Ok StopAll) e is = matches_next e _ is (matches_stopped (live_from 0 s.adaptors))
    effect_holds (Ok (Shutdown name)) e is = go (named_in name 0 s.adaptors) is
      where
        go : (o : Option ℕ) → shutdown_effect name o s ≡ Some e → Matches stamped e.next history
        go None is = matches_next e _ is x
        go (Some i) is = matches_next e _ is (matches_ending i (slice_get s.adaptors i) refl)
    effect_holds (Ok StopAgent) e is = matches_next e _ is x
    effect_holds (Err fault) e is = matches_next e _ is x

    pub plain_holds : (m : Meaning) (result : Result Reply AgentFault) (t : State)
        → RunsPlainly m s result t → Matches stamped t history
    plain_holds m result t (did e is) = effect_holds m e is
    plain_holds m result t unmade = x

-- ---- any line

pub runs_line : (line : List ℕ) (m : Meaning) (s t : State) (result : Result Reply AgentFault)
    (now : Option History)
    → meaning_of line ≡ m → RunsPlainly m s result t → IsCommand line s result t now now
runs_line line m s t result now means (did e is) = plainly e (ap (λ k. plain_effect k s) means ∙ is)
runs_line line m s t result now means unmade = wanting

-- it names no call that failed, and finds nothing damaged
module _ (m : Meaning) (s t : State) (result : Result Reply AgentFault)
    (ran : RunsPlainly m s result t) where
  pub plain_told : (stamped : List (List ℕ)) → IsSound s → (now : Option History)
      → Adds now now (Leads (As stamped (process s)) (Matches stamped s) (Matches stamped t))
  plain_told stamped sound now = leads_none now
      (λ h x. plain_holds stamped h s sound x m result t ran)

  pub plain_undamaged : IsUndamaged result
  plain_undamaged = go result t ran
    where
      go : (r : Result Reply AgentFault) (t : State) → RunsPlainly m s r t → IsUndamaged r
      go (Ok reply) t (did e is) = tt
      go (Err fault) t unmade = tt

  pub plain_last : (now : Option History) → Adds now now (FailsLast result)
  plain_last now = adds_none now (FailsLast result) (λ h. go result t ran h)
    where
      go : (r : Result Reply AgentFault) (t : State) → RunsPlainly m s r t → (h : History)
          → FailsLast r [] h
      go (Ok reply) t (did e is) h = tt
      go (Err fault) t unmade h = tt

  pub plain_cause : (n : ℕ) → AgentCause n n result
  plain_cause n = go result t ran
    where
      go : (r : Result Reply AgentFault) (t : State) → RunsPlainly m s r t → AgentCause n n r
      go (Ok reply) t (did e is) = omega arith
      go (Err fault) t unmade = omega arith
