-- A call of the agent's that changes no file and sends nothing leaves what the history holds of it.
use Rattle.std.proofs.Common.{◌≡◌, ℕ, ◌≤◌, Bool, true, false, List, [], ◌∷◌, Option, Some, None, Result, Ok, Err, refl, sym, subst, arith}
use Rattle.std.specs.Prelude.{MatchBool}
use Rattle.chk_site.specs.declared.acts.Who.{Who}
use Rattle.chk_site.specs.declared.acts.Call.{Call}
use Rattle.chk_site.specs.declared.acts.Call.TheVariants.{Take, More, Answer, Clock, Pause}
use Rattle.chk_site.specs.declared.acts.CallFault.{CallFault}
use Rattle.chk_site.specs.declared.acts.CallFault.TheVariants.{Failed, Missing, Exists, Short, NoMemory}
use Rattle.chk_site.specs.declared.acts.OutsideFault.TheVariants.{Outside, NoMemory as no_memory}
use Rattle.chk_site.specs.declared.acts.ActAnswer.{ActAnswer}
use Rattle.chk_site.specs.declared.suffixes.Taking.{Taking}
use Rattle.chk_site.specs.Files.{Files}
use Rattle.chk_site.specs.Logs.{Logs}
use Rattle.chk_site.specs.Acts.{deed}
use Rattle.chk_site.specs.History.{Step, History}
use Rattle.chk_site.specs.Site.{Adds, Asked, asked, own_step, answered, plain, sized, bytes_given, taking_given, Calls, CallsSome, IsTaken, CauseOf}
use Rattle.chk_site.specs.Runs.{Side, Leads}
use Rattle.chk_site.proofs.Leads.{leads_as}
use Rattle.chk_site.proofs.Runs.{adds_as}
use Rattle.chk_site.proofs.LastCalls.{ended_last}
use Rattle.chk_world.specs.Agents.{AgentRule, OfCluster}
use Rattle.chk_world.specs.Places.{Making, Talking, IsBy, IsMadeBy, is_message}
use Rattle.chk_world.specs.Knowing.{Told, Both, Knows}
use Rattle.chk_world.proofs.AgentKnows.{is_quiet, agent_took, agent_ends}
use Rattle.chk_world.proofs.Beside.{owns_as}
use Rattle.chk_world.proofs.ToldCalls.{GoesOn, told_some}
use Rattle.chk_agent.specs.States.{State, process}
use Rattle.chk_agent.specs.Facts.{Holds, Matches}
use Rattle.chk_agent.specs.Fits.{IsSound}
use Rattle.chk_agent.specs.declared.answers.AgentFault.{AgentFault}
use Rattle.chk_agent.specs.declared.answers.AgentFault.TheVariants.{Outside as agent_failed, NoMemory as agent_wanting}
use Rattle.chk_agent.specs.Faults.{AgentCause, FailsLast}
use Rattle.chk_agent.proofs.SettlingTold.{state_grows}
use Rattle.chk_agent.proofs.TurningTold.{TalksOn}
use Rattle.chk_agent_run.specs.Calls.{Gives, Made, Took}
use Rattle.chk_agent_run.specs.Turns.{Answers}

made : (b : Bool) (who : Who) (before : History) (step : Step)
    → MatchBool b (IsMadeBy who before step) (IsBy who before step) → IsMadeBy who before step
made true who before step by = by
made false who before step by = record { by = by.by; running = by.running }

-- one call of any kind is a talk
talks_of : (stamped : List (List ℕ)) (who : Who) (call : Call) {A B : History → Type 0} {old new : Option History}
    → Adds old new (Leads (Making stamped who call) A B) → Adds old new (Leads (Talking stamped who) A B)
talks_of stamped who call {A = A} {B = B} p =
    adds_as (Leads (Talking stamped who) A B) p
    (λ a h x. record {
      leads = x.leads;
      own = owns_as (λ before step. MatchBool (is_message call) (IsMadeBy who before step) (IsBy who before step)) (IsMadeBy who)
          (λ before step by. made (is_message call) who before step by) a h x.own;
    })

-- a call that is no stop of itself, that no rule forbids, and that sends nothing
pub record IsFree (s : State) (q : Asked) : Type 0 where
  pub by : q.who ≡ process s
  pub quiet : (answer : ActAnswer) (files : Files) (logs : Logs) → is_quiet (deed (own_step q answer files logs).act) ≡ true
  pub sends_none : (answer : ActAnswer) (files : Files) (logs : Logs) → OfCluster s.cluster (deed (own_step q answer files logs).act)
  pub rule : (before : History) (answer : ActAnswer) (files : Files) (logs : Logs)
      → AgentRule (process s) before (own_step q answer files logs) (deed (own_step q answer files logs).act)

module _ (s : State) (sound : IsSound s) (ready : s.ready ≡ true) (q : Asked) (free : IsFree s q) {V : Type 0}
    (how : V → ActAnswer) (goes : (value : V) → GoesOn (how value)) (stamped : List (List ℕ)) where
  abbrev Known : History → Type 0
  Known h = Told stamped s.source s.cluster s.saved (Holds s) h

  known_of : (h : History) → Matches stamped s h → Known h
  known_of h x = record { legal = x.legal; may_act = x.may_act; alive = λ running. x.alive running ready }

  of_known : (h : History) → Known h → Matches stamped s h
  of_known h x = record { legal = x.legal; may_act = x.may_act; alive = λ running is. x.alive running }

  of_both : (h : History) → Told stamped s.source s.cluster s.saved (Both (Holds s) (λ h. Unit {0})) h → Matches stamped s h
  of_both h x = record {
    legal = x.legal;
    may_act = x.may_act;
    alive = λ running is.
        let k = x.alive running in
        record { one_cluster = k.one_cluster; lines_are = k.lines_are; holds = k.holds.one };
  }

  took : (given : Result V CallFault) (taken : Option V) {old new : Option History} → IsTaken given taken → Adds old new (Calls q (answered how given))
      → Adds old new (Leads (Making stamped (process s) q.call) (Matches stamped s) (Matches stamped s))
  took given taken is call =
      leads_as known_of of_both
      (agent_took stamped s.source sound.source s.cluster s.saved (Holds s) (state_grows stamped s sound) q free.by free.quiet free.sends_none
      (λ h. Unit {0}) how given taken (λ before answer files logs legal k. free.rule before answer files logs) goes
      (λ before answer files logs took legal k. tt) is call)

  given_told : (given : Result V CallFault) {old new : Option History} → Adds old new (Calls q (answered how given))
      → Adds old new (Leads (Making stamped (process s) q.call) (Matches stamped s) (Matches stamped s))
  given_told (Ok value) call = took (Ok value) (Some value) refl call
  given_told (Err Failed) call =
      leads_as known_of of_known
      (agent_ends stamped s.source sound.source s.cluster s.saved (Holds s) (state_grows stamped s sound) q free.by free.quiet free.sends_none
      how (Err Failed) (Outside q.call) (λ before answer files logs legal k. free.rule before answer files logs) refl call)
  given_told (Err NoMemory) call =
      leads_as known_of of_known
      (agent_ends stamped s.source sound.source s.cluster s.saved (Holds s) (state_grows stamped s sound) q free.by free.quiet free.sends_none
      how (Err NoMemory) no_memory (λ before answer files logs legal k. free.rule before answer files logs) refl call)
  given_told (Err Missing) call = took (Err Missing) None refl call
  given_told (Err Exists) call = took (Err Exists) None refl call
  given_told (Err (Short size)) call = took (Err (Short size)) None refl call

  pub call_told : (given : Result V CallFault) {old new : Option History} → Adds old new (Calls q (answered how given))
      → Adds old new (Leads (Talking stamped (process s)) (Matches stamped s) (Matches stamped s))
  call_told given call = talks_of stamped (process s) q.call (given_told given call)

-- ---- the calls of a turn

module _ (s : State) (who : Who) (by : who ≡ process s) where
  free_take : (door : List ℕ) → IsFree s (asked who Take (door ∷ []) 0 0)
  free_take door = record {
    by = by;
    quiet = λ answer files logs. refl;
    sends_none = λ answer files logs. tt;
    rule = λ before answer files logs. tt;
  }

  free_more : (t : ℕ) → IsFree s (asked who More [] t 0)
  free_more t = record {
    by = by;
    quiet = λ answer files logs. refl;
    sends_none = λ answer files logs. tt;
    rule = λ before answer files logs. tt;
  }

  free_answer : (t : ℕ) (text : List ℕ) → IsFree s (asked who Answer (text ∷ []) t 0)
  free_answer t text = record {
    by = by;
    quiet = λ answer files logs. refl;
    sends_none = λ answer files logs. tt;
    rule = λ before answer files logs. tt;
  }

  free_clock : IsFree s (asked who Clock [] 0 0)
  free_clock = record {
    by = by;
    quiet = λ answer files logs. refl;
    sends_none = λ answer files logs. tt;
    rule = λ before answer files logs. tt;
  }

  free_pause : (k : ℕ) → IsFree s (asked who Pause [] k 0)
  free_pause k = record {
    by = by;
    quiet = λ answer files logs. refl;
    sends_none = λ answer files logs. tt;
    rule = λ before answer files logs. tt;
  }

  module _ (sound : IsSound s) (ready : s.ready ≡ true) where
    pub take_told : (door : List ℕ) {old new : Option History} {result : Result (Option Taking) AgentFault} → Took who door result old new → TalksOn s s old new
    take_told door t stamped =
        told_some (λ of. asked who Take (door ∷ []) 0 0) (λ of. answered (taking_given of) t.given)
        (λ n before after one.
        call_told s sound ready (asked who Take (door ∷ []) 0 0) (free_take door) (taking_given n) (gives n) stamped t.given one)
        t.told
      where
        gives : (n : ℕ) (taken : Option Taking) → GoesOn (taking_given n taken)
        gives n None = tt
        gives n (Some taking) = tt

    pub more_told : (t : ℕ) (given : Result (List ℕ) CallFault) {old new : Option History}
        → Adds old new (Calls (asked who More [] t 0) (answered bytes_given given)) → TalksOn s s old new
    more_told t given call stamped =
        call_told s sound ready (asked who More [] t 0) (free_more t) bytes_given (λ bytes. tt) stamped given call

    pub answer_told : (t : ℕ) (text : List ℕ) {old new : Option History} {result : Result (Unit {0}) AgentFault} → Answers who t text result old new
        → TalksOn s s old new
    answer_told t text a stamped =
        call_told s sound ready (asked who Answer (text ∷ []) t 0) (free_answer t text) plain (λ value. tt) stamped a.given a.told

    pub clock_told : {old new : Option History} {result : Result ℕ AgentFault} → Made (asked who Clock [] 0 0) sized result old new → TalksOn s s old new
    clock_told m stamped =
        call_told s sound ready (asked who Clock [] 0 0) free_clock sized (λ value. tt) stamped m.given m.told

    pub pause_told : (k : ℕ) {old new : Option History} {result : Result (Unit {0}) AgentFault} → Made (asked who Pause [] k 0) plain result old new
        → TalksOn s s old new
    pause_told k m stamped =
        call_told s sound ready (asked who Pause [] k 0) (free_pause k) plain (λ value. tt) stamped m.given m.told

-- ---- the faults of such a call

-- the fault of a call
abbrev FailsAs : {T V : Type 0} → Call → Result V CallFault → Result T AgentFault → Type 0
FailsAs call (Ok value) (Ok kept) = Unit {0}
FailsAs call (Ok value) (Err fault) = ⊥
FailsAs call (Err Failed) result = result ≡ Err (agent_failed call)
FailsAs call (Err NoMemory) result = result ≡ Err agent_wanting
FailsAs call (Err fault) result = ⊥

last_as : {T V : Type 0} (q : Asked) (how : V → ActAnswer) (given : Result V CallFault) (added history : History)
    → Calls q (answered how given) added history → (result : Result T AgentFault) → FailsAs q.call given result → FailsLast result added history
last_as q how (Ok value) added history calls (Ok kept) is = tt
last_as q how (Ok value) added history calls (Err fault) is = absurd is
last_as {T = T} q how (Err Failed) added history calls result is =
    subst (λ (r : Result T AgentFault). FailsLast r added history) (sym is)
    (ended_last T how (Err Failed) (Outside q.call) refl calls)
last_as {T = T} q how (Err NoMemory) added history calls result is =
    subst (λ (r : Result T AgentFault). FailsLast r added history) (sym is) tt
last_as q how (Err Missing) added history calls result is = absurd is
last_as q how (Err Exists) added history calls result is = absurd is
last_as q how (Err (Short size)) added history calls result is = absurd is

gives_fails : {T : Type 0} (call : Call) (given : Result T CallFault) (result : Result T AgentFault) → Gives call given result
    → FailsAs call given result
gives_fails {T = T} call (Ok value) result is = subst (FailsAs {T = T} call (Ok value)) (sym is) tt
gives_fails call (Err Failed) result is = is
gives_fails call (Err NoMemory) result is = is
gives_fails call (Err Missing) result is = is
gives_fails call (Err Exists) result is = is
gives_fails call (Err (Short size)) result is = is

pub made_last : {T : Type 0} (q : Asked) (how : T → ActAnswer) (result : Result T AgentFault) {old new : Option History}
    → Made q how result old new → Adds old new (FailsLast result)
made_last q how result m =
    adds_as (FailsLast result) m.told
    (λ a h calls. last_as q how m.given a h calls result (gives_fails q.call m.given result m.gives))

pub took_last : (who : Who) (door : List ℕ) (result : Result (Option Taking) AgentFault) {old new : Option History}
    → Took who door result old new → Adds old new (FailsLast result)
took_last who door result t =
    adds_as (FailsLast result) t.told
    (λ a h calls. last_as (asked who Take (door ∷ []) 0 0) (taking_given calls.0) t.given a h calls.1 result
    (gives_fails Take t.given result t.gives))

pub cause_as : {T : Type 0} (call : Call) (before now : ℕ) (given : Result T CallFault) (result : Result T AgentFault)
    → Gives call given result → CauseOf before now given → AgentCause before now result
cause_as call before now (Ok value) result is cause = subst (AgentCause before now) (sym is) (omega (arith, cause))
cause_as call before now (Err Failed) result is cause = subst (AgentCause before now) (sym is) cause
cause_as call before now (Err NoMemory) result is cause = subst (AgentCause before now) (sym is) (omega (arith, cause))
cause_as call before now (Err Missing) result is cause = absurd is
cause_as call before now (Err Exists) result is cause = absurd is
cause_as call before now (Err (Short size)) result is cause = absurd is

pub count_of : {T : Type 0} (before now : ℕ) (given : Result T CallFault) → CauseOf before now given → before ≤ now
count_of before now (Ok value) cause = omega (arith, cause)
count_of before now (Err Failed) cause = cause.1
count_of before now (Err NoMemory) cause = omega (arith, cause)
count_of before now (Err Missing) cause = omega (arith, cause)
count_of before now (Err Exists) cause = omega (arith, cause)
count_of before now (Err (Short size)) cause = omega (arith, cause)
