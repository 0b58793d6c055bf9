-- Parts of a round in turn, each from the states that the one before left.
use Rattle.std.proofs.Common.{◌≡◌, ℕ, false, List, Option, Result, Ok, Err, refl, sym, subst, ap, ◌∙◌}
use Rattle.std.specs.Prelude.{Contains}
use Rattle.chk_site.specs.declared.acts.Role.TheVariants.{Agent, Collector}
use Rattle.chk_site.specs.declared.acts.OutsideFault.{OutsideFault}
use Rattle.chk_site.specs.declared.acts.Who.{Who}
use Rattle.chk_site.specs.History.{History}
use Rattle.chk_site.specs.Site.{Adds}
use Rattle.chk_site.specs.Runs.{Leads}
use Rattle.chk_site.proofs.Leads.{leads_as, leads_none, leads_then}
use Rattle.chk_site.proofs.Runs.{adds_both}
use Rattle.chk_world.specs.Places.{As}
use Rattle.chk_world.specs.Together.{Together}
use Rattle.chk_world.specs.Works.{Works}
use Rattle.chk_sink.specs.declared.fault.SinkFault.{SinkFault}
use Rattle.chk_sink.specs.declared.fault.SinkFault.TheVariants.{Outside as sink_failed, Damaged as sink_damaged, Spent as sink_spent, NoMemory as sink_wanting}
use Rattle.chk_sink.specs.Closes.{IsOfTick, Ticked}
use Rattle.chk_sink.specs.Held.{Matches as SinksMatch}
use Rattle.chk_sink.specs.States.{State as Sinks, process, ticked_state}
use Rattle.chk_sink.specs.Works.{OfClose}
use Rattle.chk_agent.specs.Fits.{IsSound}
use Rattle.chk_agent.specs.States.{State as Agents}
use Rattle.chk_exchange.specs.declared.fault.ExchangeFault.{ExchangeFault}
use Rattle.chk_exchange.specs.declared.fault.ExchangeFault.TheVariants.{Outside, NoMemory, Damaged, Spent, Refused}
use Rattle.chk_exchange.specs.Legality.{BothAt as BothInside, Exchanged}
use Rattle.chk_round.specs.declared.faults.RoundFault.{RoundFault}
use Rattle.chk_round.specs.Faults.{of_exchange, of_sinks}
use Rattle.chk_round.specs.Joint.{AreIn, BothAt, GoesOn, IsSameAgent, JointTo}
use Rattle.chk_round.specs.Spent.{ToldSpent}
use Rattle.chk_round.proofs.KeptInside.{KeepsOver}
use Rattle.chk_round.proofs.KeptTicks.{tick_keeps}
use Rattle.chk_round.proofs.Sides.{collector_acts, collector_goes}
use Rattle.chk_round.proofs.Spending.{Tells, last_sink}

-- ---- the same pair

pub in_on : {started acting : List Who} (s t : Sinks) (a b : Agents) → t.collector ≡ s.collector → b.source ≡ a.source
    → AreIn started acting s a → AreIn started acting t b
in_on {started = started} {acting = acting} s t a b c_is a_is run = record {
  collector_started = subst (λ n. Contains started (record { role = Collector; name = n })) (sym c_is) run.collector_started;
  collector_acts = subst (λ n. Contains acting (record { role = Collector; name = n })) (sym c_is) run.collector_acts;
  agent_started = subst (λ n. Contains started (record { role = Agent; name = n })) (sym a_is) run.agent_started;
  agent_acts = subst (λ n. Contains acting (record { role = Agent; name = n })) (sym a_is) run.agent_acts;
}

-- it is still the process of the collector
pub still_c : (who : Who) (s t : Sinks) → who ≡ process s → t.collector ≡ s.collector → who ≡ process t
still_c who s t is same = is ∙ ap (λ n. record { role = Collector; name = n }) (sym same)

pub same_none : (a : Agents) → IsSameAgent a a
same_none a = record { source = refl; cluster = refl; ready = refl; rest = record { adaptors = refl; addresses = refl; room = refl } }

pub same_then : (a b c : Agents) → IsSameAgent a b → IsSameAgent b c → IsSameAgent a c
same_then a b c p q = record {
  source = q.source ∙ p.source;
  cluster = q.cluster ∙ p.cluster;
  ready = q.ready ∙ p.ready;
  rest = record {
    adaptors = q.rest.adaptors ∙ p.rest.adaptors;
    addresses = q.rest.addresses ∙ p.rest.addresses;
    room = q.rest.room ∙ p.rest.room;
  };
}

-- ---- in turn

pub joint_none : (s : Sinks) (a : Agents) (now : Option History) → JointTo s a s a (Ok tt) now now
joint_none s a now stamped started acting run = leads_none now (λ h x. x)

pub joint_then : (s t u : Sinks) (a b c : Agents) (r : Result (Unit {0}) RoundFault) → t.collector ≡ s.collector
    → b.source ≡ a.source → {old mid new : Option History}
    → JointTo s a t b (Ok tt) old mid → JointTo t b u c r mid new → JointTo s a u c r old new
joint_then s t u a b c r c_is a_is p q stamped started acting run =
    leads_then (p stamped started acting run) (q stamped started acting (in_on s t a b c_is a_is run))

-- ---- a tick

ticked : (stamped : List (List ℕ)) (s t : Sinks) (a : Agents) (fault : SinkFault) → IsOfTick fault → (h : History)
    → Ticked stamped s t (Err fault) h → GoesOn stamped t a (Err (of_sinks fault)) h
ticked stamped s t a (sink_failed call) only h x = x.legal
ticked stamped s t a (sink_damaged name at) only h x =
    record { legal = x.legal; never = λ running. (x.alive running).sound name at refl }
ticked stamped s t a (sink_spent born) only h x = absurd only
ticked stamped s t a sink_wanting only h x = x.legal

module _ (s t : Sinks) (a : Agents) (sound : IsSound a) (same : t.collector ≡ s.collector) where
  pub tick_goes : (now : ℕ) {fault : Option OutsideFault} {old new : Option History} → t ≡ ticked_state now s
      → (s.abandoned ≡ false → Works (process s) (OfClose s) fault old new)
      → ((stamped : List (List ℕ)) → Adds old new (Leads (As stamped (process s)) (SinksMatch stamped s) (Ticked stamped s t (Ok tt))))
      → JointTo s a t a (Ok tt) old new
  tick_goes now is closes told stamped started acting run =
      collector_goes stamped started acting s a run sound t same
      (leads_as (λ h x. x)
      (λ h x. record { legal = x.legal; may_act = x.may_act; alive = λ running. (x.alive running).holds }) (told stamped))
      (tick_keeps now s t (told stamped) closes is)

  pub tick_ends : (fault : SinkFault) → IsOfTick fault → {old new : Option History}
      → ((stamped : List (List ℕ)) → Adds old new (Leads (As stamped (process s)) (SinksMatch stamped s) (Ticked stamped s t (Err fault))))
      → JointTo s a t a (Err (of_sinks fault)) old new
  tick_ends fault only told stamped started acting run =
      leads_as (λ h x. (x.0, (x.1.0, x.1.1.0))) (λ h x. ticked stamped s t a fault only h x.0)
      (collector_acts stamped started acting s.collector a sound run.collector_started run.collector_acts run.agent_started
      (λ h x. x.legal) (told stamped))

-- ---- an exchange

-- the fault tells no number spent
abbrev IsUnspent : ExchangeFault → Type 0
IsUnspent (Spent n) = ⊥
IsUnspent fault = Unit {0}

exchanged : (T : Type 0) (stamped : List (List ℕ)) (s : Sinks) (a : Agents) (fault : ExchangeFault) → IsUnspent fault → (h : History)
    → Exchanged {T = T} stamped s a (Err fault) h → GoesOn stamped s a (Err (of_exchange fault)) h
exchanged T stamped s a (Outside call) un h x = x
exchanged T stamped s a NoMemory un h x = x
exchanged T stamped s a (Damaged name at) un h x = record { legal = x.legal; never = x.alive }
exchanged T stamped s a (Spent number) un h x = absurd un
exchanged T stamped s a (Refused code) un h x = record { legal = x.legal; never = x.alive }

-- what an exchange leads to
abbrev pub ExchangeTo : {T : Type 0} → Who → Sinks → Agents → Sinks → Agents → Result T ExchangeFault → Option History
    → Option History → Type 0
ExchangeTo who s a t b result old new =
    (stamped : List (List ℕ)) (started acting : List Who)
    → Contains started who → Contains started (record { role = Agent; name = a.source })
    → Contains acting who → Contains acting (record { role = Agent; name = a.source })
    → Adds old new (Leads (Together stamped started acting) (BothInside stamped s a) (Exchanged stamped t b result))

module _ (who : Who) (s t : Sinks) (a b : Agents) (is : who ≡ process s) where
  -- it, of the collector itself
  told_of : (T : Type 0) (result : Result T ExchangeFault) {old new : Option History} → ExchangeTo who s a t b result old new
      → (stamped : List (List ℕ)) (started acting : List Who) → AreIn started acting s a
      → Adds old new (Leads (Together stamped started acting) (BothAt stamped s a) (Exchanged stamped t b result))
  told_of T result told stamped started acting run =
      leads_as (λ h x. (x.0, (x.1.0, x.1.1.0))) (λ h x. x)
      (told stamped started acting (subst (Contains started) (sym is) run.collector_started) run.agent_started
      (subst (Contains acting) (sym is) run.collector_acts) run.agent_acts)

  pub exchange_goes : (T : Type 0) (value : T) {old new : Option History} → ExchangeTo who s a t b (Ok value) old new
      → KeepsOver s t old new → JointTo s a t b (Ok tt) old new
  exchange_goes T value told keeps stamped started acting run =
      adds_both (Leads (Together stamped started acting) (BothAt stamped s a) (BothAt stamped t b))
      (told_of T (Ok value) told stamped started acting run) (keeps stamped started acting run.collector_started)
      (λ added history x y. record {
        leads = λ others h.
            let end = x.leads others h in
            (end.0, (end.1.0, (end.1.1, y end.0.legal others x.own (h.0, h.1.1.1))));
        own = x.own;
      })

  pub exchange_ends : (T : Type 0) (fault : ExchangeFault) {old new : Option History}
      → ExchangeTo {T = T} who s a t b (Err fault) old new → Tells {T = T} who s t (Err fault) old new
      → t.collector ≡ s.collector → JointTo s a t b (Err (of_exchange fault)) old new
  exchange_ends T (Spent n) {old = old} {new = new} told tells same stamped started acting run =
      last_sink stamped started acting s t a n (told_of T (Err (Spent n)) told stamped started acting run)
      (subst (λ w. ToldSpent w n s t old new) is tells) same
  exchange_ends T fault told tells same stamped started acting run =
      leads_as (λ h x. x) (exchanged T stamped t b fault tt) (told_of T (Err fault) told stamped started acting run)
