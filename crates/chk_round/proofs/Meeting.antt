-- Collector and agent start, and the agent asks for the time.
use Rattle.std.proofs.Common.{◌≡◌, inl, inr, ℕ, true, false, List, [], ◌++◌, Option, Result, Ok, Err, refl, sym, subst, ap, ◌∙◌, append_assoc, arith}
use Rattle.std.specs.Prelude.{Contains, codes, IfOk}
use Rattle.chk_site.specs.declared.acts.Role.TheVariants.{Agent, Collector}
use Rattle.chk_site.specs.declared.acts.Who.{Who}
use Rattle.chk_site.specs.declared.acts.Call.TheVariants.{Clock}
use Rattle.chk_site.specs.declared.acts.CallFault.{CallFault}
use Rattle.chk_site.specs.History.{History}
use Rattle.chk_site.specs.Site.{Adds, asked, answered, sized, Calls}
use Rattle.chk_site.specs.Runs.{HasStarted, Leads}
use Rattle.chk_site.proofs.Leads.{leads_as}
use Rattle.chk_site.proofs.Runs.{adds_then}
use Rattle.chk_world.specs.Knowing.{agent}
use Rattle.chk_world.specs.Mailbox.{IsEmptyFor}
use Rattle.chk_world.specs.Places.{As, AtTold, IsBy}
use Rattle.chk_world.specs.Rules.{Legal}
use Rattle.chk_world.specs.Together.{Together}
use Rattle.chk_world.proofs.Beside.{StaysOver, acts_beside}
use Rattle.chk_sink.specs.declared.fault.SinkFault.{SinkFault}
use Rattle.chk_sink.specs.declared.fault.SinkFault.TheVariants.{Outside as sink_failed, Damaged as sink_damaged, Spent as sink_spent, NoMemory as sink_wanting}
use Rattle.chk_sink.specs.Held.{Holds, Matches as SinksMatch}
use Rattle.chk_sink.specs.Starts.{IsLastStart, Started as SinksStarted}
use Rattle.chk_sink.specs.States.{State as Sinks, process}
use Rattle.chk_agent.specs.declared.answers.AgentFault.{AgentFault}
use Rattle.chk_agent.specs.declared.answers.AgentFault.TheVariants.{Damaged as agent_damaged, Outside as agent_failed, NoMemory as agent_wanting}
use Rattle.chk_agent.specs.Fits.{IsSound}
use Rattle.chk_agent.specs.Starts.{Started as AgentStarted}
use Rattle.chk_agent.specs.States.{State as Agents}
use Rattle.chk_round.specs.declared.faults.RoundFault.{RoundFault}
use Rattle.chk_round.specs.declared.starting.Pair.{Pair}
use Rattle.chk_round.specs.Faults.{of_agent, of_sinks}
use Rattle.chk_round.specs.Joint.{AreIn, BothAt}
use Rattle.chk_round.specs.Keeping.{SinksKept}
use Rattle.chk_round.specs.Processes.{AreBoth, c1}
use Rattle.chk_round.specs.Starts.{ClockGave, EndsWithClock, Met}
use Rattle.chk_round.specs.Timed.{moment_of, pair_at}
use Rattle.chk_round.proofs.Clock.{clock_leaves}
use Rattle.chk_round.proofs.Keeping.{fresh_keeps}
use Rattle.chk_round.proofs.Sides.{agent_acts, agent_goes, start_empties}

-- ---- who is in the run

module _ {source : List ℕ} {started acting : List Who} (run : AreBoth source started acting) where
  pub c1_started : Contains started c1
  c1_started = run.started_all c1 (0, omega arith, refl)

  pub c1_acts : Contains acting c1
  c1_acts = run.acts_all c1 (0, omega arith, refl)

  pub agent_started : Contains started (agent source)
  agent_started = run.started_all (agent source) (1, omega arith, refl)

  pub agent_may_act : Contains acting (agent source)
  agent_may_act = run.acts_all (agent source) (1, omega arith, refl)

  pub are_in : (s : Sinks) (a : Agents) → s.collector ≡ codes "c1" → a.source ≡ source → AreIn started acting s a
  are_in s a c_is a_is = record {
    collector_started = subst (λ n. Contains started (record { role = Collector; name = n })) (sym c_is) c1_started;
    collector_acts = subst (λ n. Contains acting (record { role = Collector; name = n })) (sym c_is) c1_acts;
    agent_started = subst (λ n. Contains started (record { role = Agent; name = n })) (sym a_is) agent_started;
    agent_acts = subst (λ n. Contains acting (record { role = Agent; name = n })) (sym a_is) agent_may_act;
  }

-- ---- what a fault leaves

sinks_ended : (stamped : List (List ℕ)) (fault : SinkFault) → IsLastStart {T = Sinks} (Err fault) → (h : History)
    → SinksStarted stamped c1 (Err fault) h → Met stamped (Err (of_sinks fault)) h
sinks_ended stamped (sink_failed call) last h x = x
sinks_ended stamped (sink_damaged name at) last h x = record { legal = x.legal; never = x.alive }
sinks_ended stamped (sink_spent born) last h x =
    record { legal = x.legal; may_act = x.may_act; alive = λ running. (last, x.alive running) }
sinks_ended stamped sink_wanting last h x = x

started_legal : (stamped : List (List ℕ)) (who : Who) (fault : SinkFault) (h : History)
    → SinksStarted stamped who (Err fault) h → Legal stamped h
started_legal stamped who (sink_failed call) h x = x
started_legal stamped who (sink_damaged name at) h x = x.legal
started_legal stamped who (sink_spent born) h x = x.legal
started_legal stamped who sink_wanting h x = x

agent_ended : (stamped : List (List ℕ)) (source : List ℕ) (fault : AgentFault) (h : History)
    → AgentStarted stamped (agent source) (Err fault) h → Met stamped (Err (of_agent fault)) h
agent_ended stamped source (agent_failed call) h x = x
agent_ended stamped source (agent_damaged at) h x = record { legal = x.legal; never = x.alive }
agent_ended stamped source agent_wanting h x = x

agent_legal : (stamped : List (List ℕ)) (source : List ℕ) (fault : AgentFault) (h : History)
    → AgentStarted stamped (agent source) (Err fault) h → Legal stamped h
agent_legal stamped source (agent_failed call) h x = x
agent_legal stamped source (agent_damaged at) h x = x.legal
agent_legal stamped source agent_wanting h x = x

module _ (stamped : List (List ℕ)) (source : List ℕ) (started acting : List Who) (run : AreBoth source started acting) where
  abbrev Go : (History → Type 0) → (History → Type 0) → Option History → Option History → Type 0
  Go A B old new = Adds old new (Leads (Together stamped started acting) A B)

  -- ---- the collector

  none_over : StaysOver stamped started (IsBy c1) (λ h. Unit {0})
  none_over = record { theirs = λ history step own legal outside h. tt; ours = λ history step own legal by h. tt }

  pub sinks_unmet : (fault : SinkFault) → IsLastStart {T = Sinks} (Err fault) → {old new : Option History}
      → Adds old new (Leads (As stamped c1) (Legal stamped) (SinksStarted stamped c1 (Err fault)))
      → Go (Legal stamped) (Met stamped (Err (of_sinks fault))) old new
  sinks_unmet fault last told =
      leads_as (λ h x. (x, tt)) (λ h x. sinks_ended stamped fault last h x.0)
      (acts_beside stamped started acting c1 (c1_started run) (c1_acts run) (λ h. Unit {0}) none_over
      (started_legal stamped c1 fault) told)

  module _ (s : Sinks) (c_is : s.collector ≡ codes "c1") where
    abbrev Alone : History → Type 0
    Alone h = SinksMatch stamped s h × (IsEmptyFor (process s) h × SinksKept s h)

    is_c1 : process s ≡ c1
    is_c1 = ap (λ n. record { role = Collector; name = n }) c_is

    alone : s.number ≡ 0 → s.abandoned ≡ false → (h : History) → AtTold stamped (process s) (Holds s) h × IsEmptyFor (process s) h
        → Alone h
    alone first settled h x =
        (x.0, (x.1, λ running. fresh_keeps stamped s h x.0.legal (x.0.alive running) first settled))

    pub sinks_met : s.number ≡ 0 → s.abandoned ≡ false → {old new : Option History}
        → Adds old new (Leads (As stamped c1) (Legal stamped) (SinksStarted stamped c1 (Ok s)))
        → Adds old new (HasStarted c1) → Go (Legal stamped) Alone old new
    sinks_met first settled told starts =
        leads_as (λ h x. x)
        (λ h x. alone first settled h (subst (λ w. AtTold stamped w (Holds s) h × IsEmptyFor w h) (sym is_c1) x))
        (start_empties stamped started acting c1 (c1_started run) (c1_acts run) refl (λ h x. x.legal) told starts)

    c_in : Contains started (process s)
    c_in = subst (Contains started) (sym is_c1) (c1_started run)

    -- ---- the agent

    pub agent_unmet : (fault : AgentFault) {old new : Option History}
        → Adds old new (Leads (As stamped (agent source)) (Legal stamped) (AgentStarted stamped (agent source) (Err fault)))
        → Go Alone (Met stamped (Err (of_agent fault))) old new
    agent_unmet fault told =
        leads_as (λ h x. (x.0.legal, x)) (λ h x. agent_ended stamped source fault h x.0)
        (agent_acts stamped started acting s source c_in (agent_started run) (agent_may_act run)
        (agent_legal stamped source fault) told)

    pub agent_met : (a : Agents) {old new : Option History}
        → Adds old new (Leads (As stamped (agent source)) (Legal stamped) (AgentStarted stamped (agent source) (Ok a)))
        → Go Alone (BothAt stamped s a) old new
    agent_met a told =
        leads_as (λ h x. (x.0.legal, x)) (λ h x. (x.1.0, (x.0, x.1.1)))
        (agent_acts stamped started acting s source c_in (agent_started run) (agent_may_act run) (λ h x. x.legal) told)

    -- ---- the time

    module _ (a : Agents) (a_is : a.source ≡ source) (sound : IsSound a) (ready : a.ready ≡ true) where
      told_clock : (given : Result ℕ CallFault) {old new : Option History}
          → Adds old new (Calls (asked (agent source) Clock [] 0 0) (answered sized given))
          → Go (BothAt stamped s a) (BothAt stamped s a) old new
      told_clock given {old = old} {new = new} call =
          agent_goes stamped started acting s a (are_in run s a c_is a_is) a
          (clock_leaves stamped a sound ready given
          (subst (λ n. Adds old new (Calls (asked (record { role = Agent; name = n }) Clock [] 0 0) (answered sized given))) (sym a_is) call))

      clock_met : (now : ℕ) {old new : Option History} → ClockGave (agent source) (Ok now) old new
          → Go (BothAt stamped s a) (BothAt stamped s a) old new
      clock_met now call = told_clock (Ok now) call

      clock_unmet : (fault : RoundFault) {old new : Option History}
          → ClockGave (agent source) (Err fault) old new
          → Go (BothAt stamped s a) (Met stamped (Err fault)) old new
      clock_unmet fault {old = old} {new = new} (given, call, inl (failed, is)) =
          subst (λ f. Go (BothAt stamped s a) (Met stamped (Err f)) old new) (sym is)
          (leads_as (λ h x. x) (λ h x. x.0.legal) (told_clock (Err given) call))
      clock_unmet fault {old = old} {new = new} (given, call, inr (wanting, is)) =
          subst (λ f. Go (BothAt stamped s a) (Met stamped (Err f)) old new) (sym is)
          (leads_as (λ h x. x) (λ h x. x.0.legal) (told_clock (Err given) call))

      pub clock_ends : (r : Result Pair RoundFault) {old new : Option History}
          → IfOk r (λ pair. pair ≡ pair_at s a pair.now)
          → ClockGave (agent source) (moment_of r) old new
          → Go (BothAt stamped s a) (Met stamped r) old new
      clock_ends (Ok pair) {old = old} {new = new} is call =
          subst (λ (p : Pair). Go (BothAt stamped s a) (BothAt stamped p.collector p.agent) old new)
          (sym is) (clock_met pair.now call)
      clock_ends (Err fault) is call = clock_unmet fault call

-- the time was asked for last, behind two other calls
pub ends_with_clock : (who : Who) (now : ℕ) {P Q : History → History → Type 0} {a b c d : Option History}
    → Adds a b P → Adds b c Q → ClockGave who (Ok now) c d → Adds a d (EndsWithClock who now)
ends_with_clock who now p q call =
    adds_then (EndsWithClock who now) p
    (adds_then (EndsWithClock who now) q call
    (λ a b history x y. record { later = b; earlier = a; split = refl; calls = y }))
    (λ a b history x y. record {
      later = y.later;
      earlier = y.earlier ++ a;
      split = ap (λ z. z ++ a) y.split ∙ append_assoc y.later y.earlier a;
      calls = subst (λ h. Calls (asked who Clock [] 0 0) (answered sized (Ok now)) y.later h) (sym (append_assoc y.earlier a history)) y.calls;
    })
