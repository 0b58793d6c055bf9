-- The end of an exchange, of a post or of a poll: which call failed last, that none did, and what
-- it leads to.
use Rattle.std.proofs.Common.{◌≡◌, ℕ, List, [], Option, Some, None, Result, Ok, Err, refl, subst}
use Rattle.std.specs.Prelude.{Contains, OnOk}
use Rattle.chk_site.specs.declared.acts.Who.{Who}
use Rattle.chk_site.specs.declared.acts.Call.TheVariants.{Got}
use Rattle.chk_site.specs.declared.acts.CallFault.TheVariants.{Failed}
use Rattle.chk_site.specs.History.{History}
use Rattle.chk_site.specs.Site.{Adds, asked, bytes_given}
use Rattle.chk_site.specs.Runs.{Leads}
use Rattle.chk_site.proofs.Runs.{adds_as}
use Rattle.chk_world.specs.Places.{As}
use Rattle.chk_world.specs.Rules.{Legal}
use Rattle.chk_world.specs.Together.{Together}
use Rattle.chk_world.specs.Works.{NoneFailed}
use Rattle.chk_sink.specs.States.{State as Sinks, process}
use Rattle.chk_agent_delivery.specs.Scripts.{AsksReply}
use Rattle.chk_agent.specs.States.{State as Agents, process as agent_of}
use Rattle.chk_agent.specs.Facts.{Matches as AgentMatches}
use Rattle.chk_exchange.specs.declared.fault.ExchangeFault.{ExchangeFault}
use Rattle.chk_exchange.specs.declared.fault.ExchangeFault.TheVariants.{Outside, NoMemory, Refused}
use Rattle.chk_exchange.specs.Exchanges.{Serves}
use Rattle.chk_exchange.specs.Faults.{FailsLast}
use Rattle.chk_exchange.specs.Legality.{Exchanged, IsReplyTo, IsServed}
use Rattle.chk_exchange.proofs.Ending.{never_told, got_so, ungot_so}
use Rattle.chk_exchange.proofs.Lasting.{last_then, ended, fine, fine_then}
use Rattle.chk_exchange.proofs.Ways.{Any, any, any_then, wanting_last, serves_any, told_last, serves_fine}

-- The reply to the message was asked for, and the exchange ended so. What was got as another reply
-- isn't what the collector made of the bytes that were sent.
pub data Closes (T : Type 0) (b : Agents) (m : ℕ) (bytes : List ℕ) (made : Option ExchangeFault)
    : Result T ExchangeFault → Option History → Option History → Type 0 where
  ungot : {old new : Option History} → Closes T b m bytes made (Err NoMemory) old new
  silent : {old new : Option History} → AsksReply (agent_of b) m (Err Failed) old new
      → Closes T b m bytes made (Err (Outside Got)) old new
  taken : {old new : Option History} (value : T) (got : List ℕ) → made ≡ None
      → AsksReply (agent_of b) m (Ok got) old new → Closes T b m bytes made (Ok value) old new
  told : {old new : Option History} (fault : ExchangeFault) (got : List ℕ) → made ≡ Some fault
      → AsksReply (agent_of b) m (Ok got) old new → Closes T b m bytes made (Err fault) old new
  refused : {old new : Option History} (code : ℕ) (got : List ℕ)
      → AsksReply (agent_of b) m (Ok got) old new
      → ((reply : List ℕ) → IsReplyTo bytes reply made → got ≡ reply → ⊥)
      → Closes T b m bytes made (Err (Refused code)) old new

-- ---- behind the serving

module _ (T : Type 0) (who : Who) (s u : Sinks) (b : Agents) (m : ℕ) (bytes : List ℕ)
    (made : Option ExchangeFault) {P : History → History → Type 0} {mid next new : Option History}
    (serves : Serves who s (Ok made) u mid next) (reply_told : Adds next new P) where
  every : Any mid new
  every = any_then (serves_any serves) (any reply_told)

  pub closes_last : (result : Result T ExchangeFault) → Closes T b m bytes made result next new
      → Adds mid new (FailsLast result)
  closes_last result ungot = wanting_last T every
  closes_last result (silent asks) =
      last_then {T = T} (Err (Outside Got)) (serves_any serves)
      (ended T (asked (agent_of b) Got [] m 0) bytes_given (Err Failed) (Outside Got) refl asks)
  closes_last result (taken value got none asks) =
      adds_as (FailsLast {T = T} (Ok value)) every (λ added history x. tt)
  closes_last result (told fault got some asks) =
      told_last T (asked (agent_of b) Got [] m 0) refl (bytes_given got) fault
      (subst (λ o. Serves who s (Ok o) u mid next) some serves) asks
  closes_last result (refused code got asks never) =
      adds_as (FailsLast {T = T} (Err (Refused code))) every (λ added history x. tt)

  pub closes_fine : (result : Result T ExchangeFault) → Closes T b m bytes made result next new
      → OnOk result (Adds mid new NoneFailed)
  closes_fine result ungot = tt
  closes_fine result (silent asks) = tt
  closes_fine result (taken value got none asks) =
      fine_then (serves_fine (subst (λ o. Serves who s (Ok o) u mid next) none serves))
      (fine (asked (agent_of b) Got [] m 0) (bytes_given got) tt asks)
  closes_fine result (told fault got some asks) = tt
  closes_fine result (refused code got asks never) = tt

-- ---- from a served message

module _ (stamped : List (List ℕ)) (started acting : List Who) (u : Sinks) (b c : Agents) (m : ℕ)
    (bytes : List ℕ) (made : Option ExchangeFault) (in_c : Contains started (process u))
    (in_b : Contains started (agent_of b)) (acts_b : Contains acting (agent_of b))
    {Such : List ℕ → List ℕ → Type 0} {old new : Option History}
    (reply_told : Adds old new
    (Leads (As stamped (agent_of b)) (AgentMatches stamped b) (AgentMatches stamped c))) where
  not_got : Adds old new (Leads (Together stamped started acting)
      (IsServed stamped u b m bytes Such made) (Legal stamped))
  not_got = ungot_so stamped started acting u b c m bytes made in_c in_b acts_b reply_told

  pub closes_told : (T : Type 0) (result : Result T ExchangeFault)
      → Closes T b m bytes made result old new
      → Adds old new
      (Leads (Together stamped started acting) (IsServed stamped u b m bytes Such made)
      (Exchanged stamped u c result))
  closes_told T result ungot = not_got
  closes_told T result (silent asks) = not_got
  closes_told T result (taken value got none asks) =
      got_so stamped started acting u b c m bytes made in_c in_b acts_b {T = T} got (Ok value) tt
      reply_told asks
  closes_told T result (told fault got some asks) =
      got_so stamped started acting u b c m bytes made in_c in_b acts_b {T = T} got (Err fault)
      (never_told T bytes got made fault some) reply_told asks
  closes_told T result (refused code got asks never) =
      got_so stamped started acting u b c m bytes made in_c in_b acts_b {T = T} got
      (Err (Refused code)) never reply_told asks
