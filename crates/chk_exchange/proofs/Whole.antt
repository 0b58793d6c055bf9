-- The first part of an exchange, beside what the collector knows, and what stays of the agent.
use Rattle.std.proofs.Common.{◌≡◌, ℕ, List, [], ◌∷◌, Option, Result, Ok, Err, sym, subst}
use Rattle.std.specs.Prelude.{Contains, OnOk}
use Rattle.chk_site.specs.declared.acts.Who.{Who}
use Rattle.chk_site.specs.declared.acts.Call.TheVariants.{Send}
use Rattle.chk_site.specs.History.{History}
use Rattle.chk_site.specs.Messages.{self_address}
use Rattle.chk_site.specs.Site.{Adds, asked, sized}
use Rattle.chk_site.specs.Runs.{Leads}
use Rattle.chk_site.proofs.Leads.{leads_then, leads_as}
use Rattle.chk_world.specs.Mailbox.{IsEmptyFor}
use Rattle.chk_world.specs.Places.{As, Making}
use Rattle.chk_world.specs.Together.{Together}
use Rattle.chk_world.specs.Works.{NoneFailed}
use Rattle.chk_sink.specs.Held.{Matches as SinksMatch}
use Rattle.chk_sink.specs.States.{State as Sinks, IsSameStart, process}
use Rattle.chk_collector_run.proofs.Turning.{same_process}
use Rattle.chk_agent_delivery.specs.Scripts.{Sends}
use Rattle.chk_agent_delivery.specs.States.{address_now}
use Rattle.chk_agent.specs.States.{State as Agents, process as agent_of}
use Rattle.chk_agent.specs.Facts.{Matches as AgentMatches}
use Rattle.chk_agent.specs.Fits.{IsSound}
use Rattle.chk_exchange.specs.declared.fault.ExchangeFault.{ExchangeFault}
use Rattle.chk_exchange.specs.Exchanges.{Serves}
use Rattle.chk_exchange.specs.Faults.{FailsLast}
use Rattle.chk_exchange.specs.Legality.{BothAt, Exchanged, AllWaiting, Served}
use Rattle.chk_exchange.proofs.Ending.{IsOutside, at_self, legal_ends}
use Rattle.chk_exchange.proofs.Closing.{Closes, closes_last, closes_fine, closes_told}
use Rattle.chk_exchange.proofs.Keeping.{KeepsAgent, SentMessage, same_agent}
use Rattle.chk_exchange.proofs.Lasting.{last_then, fine_some, fine_then}
use Rattle.chk_exchange.proofs.Joint.{sent_all, send_failed}

module _ (stamped : List (List ℕ)) (started acting : List Who) (s : Sinks) (a b : Agents)
    (in_c : Contains started (process s)) (in_a : Contains started (agent_of a))
    (acts_a : Contains acting (agent_of a))
    {old new : Option History}
    (told : Adds old new
    (Leads (Making stamped (agent_of a) Send) (AgentMatches stamped a)
    (AgentMatches stamped b))) where
  pub unsent_told : (T : Type 0) (fault : ExchangeFault) → IsOutside fault
      → Adds old new
      (Leads (Together stamped started acting) (BothAt stamped s a)
      (Exchanged {T = T} stamped s b (Err fault)))
  unsent_told T fault is =
      leads_as (λ h x. (x.1.0, (x.0, x.1.1))) (legal_ends T stamped s b fault is)
      (send_failed stamped started acting s a in_c in_a acts_a b
      (λ h. SinksMatch stamped s h × IsEmptyFor (process s) h) told)

  pub waits_told : (m : ℕ) (address bytes : List ℕ) → address ≡ self_address
      → Sends (agent_of a) address bytes (Ok m) old new
      → Adds old new
      (Leads (Together stamped started acting) (BothAt stamped s a)
      (AllWaiting stamped s b m bytes))
  waits_told m address bytes is sends =
      leads_as (λ h x. (x.1.0, (x.0, x.1.1))) (λ h x. x)
      (sent_all stamped started acting s a in_c in_a acts_a b m bytes told
      (subst (λ w. Sends (agent_of a) w bytes (Ok m) old new) is sends))

pub of_later : (started : List Who) (s u : Sinks) → IsSameStart s u → Contains started (process s)
    → Contains started (process u)
of_later started s u same = subst (Contains started) (sym (same_process s u same))

pub of_agent : (started : List Who) (a b : Agents) → KeepsAgent a b → Contains started (agent_of a)
    → Contains started (agent_of b)
of_agent started a b keeps = subst (Contains started) (sym (same_agent keeps))

-- ---- the first two parts

pub sent_fine : {a b : Agents} {old new : Option History} → SentMessage a b old new
    → Adds old new NoneFailed
sent_fine {a = a} sent =
    fine_some
    (λ n. asked (agent_of a) Send (address_now a.delivery.ring ∷ sent.bytes ∷ []) n 0)
    (λ n. sized sent.message) (λ n. tt) sent.sends

module _ (stamped : List (List ℕ)) (started acting : List Who) (s u : Sinks) (a b : Agents)
    (one : a.delivery.ring.addresses ≡ self_address ∷ []) (in_c : Contains started (process s))
    (in_a : Contains started (agent_of a)) (acts_c : Contains acting (process s))
    (acts_a : Contains acting (agent_of a)) (sound : IsSound b) {old mid new : Option History}
    (sent : SentMessage a b old mid)
    (send_told : Adds old mid
    (Leads (Making stamped (agent_of a) Send) (AgentMatches stamped a) (AgentMatches stamped b)))
    (Such : List ℕ → List ℕ → Type 0) (served : Result (Option ExchangeFault) ExchangeFault)
    (serve_told : (m : ℕ) (bytes : List ℕ) → IsSound b → Contains started (process s)
    → Contains started (agent_of b) → Contains acting (process s)
    → Adds mid new (Leads (Together stamped started acting) (AllWaiting stamped s b m bytes)
    (Served stamped u b m bytes Such served))) where
  pub served_told : Adds old new (Leads (Together stamped started acting) (BothAt stamped s a)
      (Served stamped u b sent.message sent.bytes Such served))
  served_told =
      leads_then
      (waits_told stamped started acting s a b in_c in_a acts_a send_told sent.message
      (address_now a.delivery.ring) sent.bytes (at_self a.delivery.ring one sent.word) sent.sends)
      (serve_told sent.message sent.bytes sound in_c (of_agent started a b sent.keeps in_a) acts_c)

  -- an exchange that the serving ended
  pub unserved_told : (T : Type 0) (fault : ExchangeFault) → served ≡ Err fault → IsOutside fault
      → Adds old new (Leads (Together stamped started acting) (BothAt stamped s a)
      (Exchanged {T = T} stamped u b (Err fault)))
  unserved_told T fault is outside =
      leads_as (λ h x. x)
      (λ h x.
      legal_ends T stamped u b fault outside h
      (subst (λ r. Served stamped u b sent.message sent.bytes Such r h) is x)) served_told

-- ---- the whole exchange

module _ (T : Type 0) (who : Who) (s u : Sinks) (a b c : Agents) (made : Option ExchangeFault)
    (result : Result T ExchangeFault) {old mid next new : Option History}
    (sent : SentMessage a b old mid)
    (closes : Closes T b sent.message sent.bytes made result next new) where
  pub last_so : {P : History → History → Type 0} → Serves who s (Ok made) u mid next
      → Adds next new P → Adds old new (FailsLast result)
  last_so serves reply_told =
      last_then result sent.sends
      (closes_last T who s u b sent.message sent.bytes made serves reply_told result closes)

  pub fine_so : {P : History → History → Type 0} → Serves who s (Ok made) u mid next
      → Adds next new P → OnOk result (Adds old new NoneFailed)
  fine_so serves reply_told =
      go result
      (closes_fine T who s u b sent.message sent.bytes made serves reply_told result closes)
    where
      go : (r : Result T ExchangeFault) → OnOk r (Adds mid new NoneFailed)
          → OnOk r (Adds old new NoneFailed)
      go (Ok value) rest = fine_then (sent_fine sent) rest
      go (Err fault) rest = tt

  pub told_so : (stamped : List (List ℕ)) (started acting : List Who)
      → Contains started (process u) → Contains started (agent_of b) → Contains acting (agent_of b)
      → {P : History → Type 0} {Such : List ℕ → List ℕ → Type 0}
      → Adds old next (Leads (Together stamped started acting) P
      (Served stamped u b sent.message sent.bytes Such (Ok made)))
      → Adds next new
      (Leads (As stamped (agent_of b)) (AgentMatches stamped b) (AgentMatches stamped c))
      → Adds old new (Leads (Together stamped started acting) P (Exchanged stamped u c result))
  told_so stamped started acting in_c in_b acts_b served reply_told =
      leads_then served
      (closes_told stamped started acting u b c sent.message sent.bytes made in_c in_b acts_b
      reply_told
      T result closes)
