-- What the collector's part leads to.
use Rattle.std.proofs.Common.{◌≡◌, ℕ, List, Option, Some, None, Result, Ok, Err, subst}
use Rattle.std.specs.Prelude.{IsTrue, Contains}
use Rattle.chk_bytes.specs.Stems.{is_collector}
use Rattle.chk_site.specs.declared.acts.Who.{Who}
use Rattle.chk_site.specs.declared.acts.CallFault.{CallFault}
use Rattle.chk_site.specs.declared.suffixes.Taking.{Taking}
use Rattle.chk_site.specs.History.{History}
use Rattle.chk_site.specs.Site.{Adds}
use Rattle.chk_site.specs.Runs.{Leads}
use Rattle.chk_site.proofs.Leads.{leads_then, leads_as, leads_frame}
use Rattle.chk_world.specs.Rules.{Legal}
use Rattle.chk_world.specs.Together.{Together}
use Rattle.chk_sink.specs.States.{State as Sinks, process}
use Rattle.chk_agent.specs.States.{State as Agents, process as agent_of}
use Rattle.chk_agent.specs.Fits.{IsSound}
use Rattle.chk_exchange.specs.declared.fault.ExchangeFault.{ExchangeFault}
use Rattle.chk_exchange.specs.Exchanges.{Takes}
use Rattle.chk_exchange.specs.Legality.{AllTaken, AllWaiting, Served}
use Rattle.chk_exchange.proofs.Joint.{taken_all, none_taken, take_failed}

pub named_at : (s : Sinks) (who : Who) → who ≡ process s → IsTrue (is_collector who.name)
    → IsTrue (is_collector s.collector)
named_at s who is named = subst (λ (w : Who). IsTrue (is_collector w.name)) is named

module _ (stamped : List (List ℕ)) (started acting : List Who) (s : Sinks) (a : Agents) (m : ℕ)
    (bytes : List ℕ)
    (in_c : Contains started (process s)) (in_a : Contains started (agent_of a))
    (acts_c : Contains acting (process s))
    (sound : IsSound a) (who : Who) (is : who ≡ process s)
    (named : IsTrue (is_collector who.name)) where
  -- from a message that waits
  abbrev Leading : (History → Type 0) → Option History → Option History → Type 0
  Leading B old new =
      Adds old new (Leads (Together stamped started acting) (AllWaiting stamped s a m bytes) B)

  by_s : (given : Result (Option Taking) CallFault) {old new : Option History}
      → Takes who given old new
      → Takes (process s) given old new
  by_s given {old = old} {new = new} = subst (λ w. Takes w given old new) is

  pub untaken_so : (given : Result (Option Taking) CallFault) {old new : Option History}
      → Takes who given old new
      → Leading (Legal stamped) old new
  untaken_so given call =
      take_failed stamped started acting s a in_c in_a acts_c sound
      (named_at s who is named) m bytes given (by_s given call)

  pub none_so : (Such : List ℕ → List ℕ → Type 0) {old new : Option History}
      → Takes who (Ok None) old new
      → Leading (Served stamped s a m bytes Such (Ok None)) old new
  none_so Such call =
      none_taken stamped started acting s a in_c in_a acts_c sound (named_at s who is named) m bytes
      (Served stamped s a m bytes Such (Ok None)) (by_s (Ok None) call)

  pub taken_so : (taking : Taking) (u : Sinks)
      (result : Result (Option ExchangeFault) ExchangeFault)
      (Such There : List ℕ → List ℕ → Type 0)
      → ((request reply : List ℕ) → There request reply → Such request reply)
      → {old mid new : Option History} → Takes who (Ok (Some taking)) old mid
      → Adds mid new
      (Leads (Together stamped started acting)
      (AllTaken stamped s a m taking.number taking.bytes)
      (Served stamped u a m taking.bytes There result))
      → Leading (Served stamped u a m bytes Such result) old new
  taken_so taking u result Such There more call told =
      leads_then
      (taken_all stamped started acting s a in_c in_a acts_c sound
      (named_at s who is named) m bytes taking
      (by_s (Ok (Some taking)) call))
      (leads_as (λ h x. x) (λ h x. subst (λ b. Served stamped u a m b Such result h) x.1 (such result h x.0))
      (leads_frame (λ h. taking.bytes ≡ bytes) (λ h step e. e) told))
    where
      such : (r : Result (Option ExchangeFault) ExchangeFault) (h : History)
          → Served stamped u a m taking.bytes There r h
          → Served stamped u a m taking.bytes Such r h
      such (Ok made) h x = record {
        agent = x.agent;
        reply = x.reply;
        taking = x.taking;
        sinks = x.sinks;
        in_hand = x.in_hand;
        such = more taking.bytes x.reply x.such;
      }
      such (Err fault) h x = x
