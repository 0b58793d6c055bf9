-- The sending of a poll obeys the agent's rule, and what the history holds of the state goes on.
use Rattle.std.proofs.Common.{◌≡◌, inr, ℕ, List, [], ◌∷◌, Option, Some, Result, Ok, Err, sym, subst, refl}
use Rattle.std.specs.Prelude.{IsTrue}
use Rattle.chk_bytes.specs.declared.NoMemory.{NoMemory}
use Rattle.chk_site.specs.declared.acts.Who.{Who}
use Rattle.chk_site.specs.declared.acts.Call.TheVariants.{Send}
use Rattle.chk_site.specs.declared.acts.CallFault.{CallFault}
use Rattle.chk_site.specs.declared.acts.CallFault.TheVariants.{Failed, NoMemory as no_memory}
use Rattle.chk_site.specs.declared.acts.OutsideFault.{OutsideFault}
use Rattle.chk_site.specs.declared.acts.OutsideFault.TheVariants.{Outside, NoMemory as wanting}
use Rattle.chk_site.specs.History.{History, since_start}
use Rattle.chk_site.specs.Site.{Adds, asked, answered, Ends, sized}
use Rattle.chk_site.specs.Runs.{Leads}
use Rattle.chk_site.proofs.Leads.{leads_as, leads_none}
use Rattle.chk_chunk.specs.Lent.{AreValid}
use Rattle.chk_http_grammar.specs.Messages.{WrittenPoll}
use Rattle.chk_world.specs.Names.{is_source}
use Rattle.chk_world.specs.Agents.{Sent}
use Rattle.chk_world.specs.Places.{Making}
use Rattle.chk_world.specs.Knowing.{agent, Both}
use Rattle.chk_world.proofs.AgentDoes.{Gained, poll_told}
use Rattle.chk_world.proofs.AgentKnows.{agent_ends}
use Rattle.chk_world.proofs.ToldCalls.{told_some}
use Rattle.chk_agent_delivery.specs.declared.answers.Polled.{Polled}
use Rattle.chk_agent_delivery.specs.States.{State, address_now}
use Rattle.chk_agent_delivery.specs.Turns.{asked_stems, without_poll, asked_for, poll_refused}
use Rattle.chk_agent_delivery.specs.Scripts.{Sends, IsPolled, none, sent, failed, unsent, refused}
use Rattle.chk_agent_delivery.specs.Basis.{Basis, Fits}
use Rattle.chk_agent_delivery.specs.Facts.{Holds, Matches}
use Rattle.chk_agent_delivery.proofs.Growing.{holds_grows}
use Rattle.chk_agent_delivery.proofs.PostTold.{matches_as}

-- a state without its poll is held
holds_without_poll : (b : Basis) (s : State) (h : History) → Holds b s h → Holds b (without_poll s) h
holds_without_poll b s h x = record { queue = x.queue; rows = x.rows; ends = x.ends; post = x.post; poll = tt }

pub holds_poll_refused : (b : Basis) (s : State) (h : History) → Holds b s h → Holds b (poll_refused s) h
holds_poll_refused b s h x = record { queue = x.queue; rows = x.rows; ends = x.ends; post = x.post; poll = tt }

module _ (stamped : List (List ℕ)) (b : Basis) (s : State) (known : IsTrue (is_source b.source)) (fits : Fits b s)
    (valid : AreValid s.queue.chunks) where
  abbrev Me : Who
  Me = agent b.source

  module _ (bytes : List ℕ) (written : WrittenPoll (address_now s.ring) (asked_stems s.table) bytes) where
    sent_told : (m : ℕ) {old new : Option History} → Sends Me (address_now s.ring) bytes (Ok m) old new
        → Adds old new (Leads (Making stamped Me Send) (Matches stamped b s) (Matches stamped b (asked_for m (asked_stems s.table) s)))
    sent_told m call =
        leads_as (λ h x. x)
        (matches_as stamped b (Both (Holds b s) (Gained (λ m h. Sent (since_start Me h) m (address_now s.ring) bytes) (Some m)))
        (asked_for m (asked_stems s.table) s)
        (λ h x. record {
          queue = x.one.queue;
          rows = x.one.rows;
          ends = x.one.ends;
          post = x.one.post;
          poll = (address_now s.ring, bytes, x.two, written);
        }))
        (poll_told stamped b.source known b.cluster b.lines (Holds b s) (holds_grows stamped b s known fits valid) (address_now s.ring) bytes
        (asked_stems s.table, written) (Ok m) (Some m) refl call)

    unsent_told : (given : Result ℕ CallFault) (fault : OutsideFault) {old new : Option History} → Ends Send given fault
        → Sends Me (address_now s.ring) bytes given old new
        → Adds old new (Leads (Making stamped Me Send) (Matches stamped b s) (Matches stamped b s))
    unsent_told given fault ends call =
        told_some (λ n. asked Me Send (address_now s.ring ∷ bytes ∷ []) n 0) (λ n. answered sized given)
        (λ n before after one.
        agent_ends stamped b.source known b.cluster b.lines (Holds b s) (holds_grows stamped b s known fits valid)
        (asked Me Send (address_now s.ring ∷ bytes ∷ []) n 0) refl (λ answer files logs. refl)
        (λ answer files logs. inr (asked_stems s.table, written)) sized given fault
        (λ before answer files logs legal k. inr (asked_stems s.table, written)) ends one) call

  polled_told : {result : Result Polled NoMemory} {t : State} {old new : Option History} → IsPolled Me s result t old new
      → Adds old new (Leads (Making stamped Me Send) (Matches stamped b s) (Matches stamped b t))
  polled_told (none {now} is) = leads_none now (matches_as stamped b (Holds b s) (without_poll s) (holds_without_poll b s))
  polled_told (sent bytes m written call) = sent_told bytes written m call
  polled_told (failed bytes written call) =
      leads_as (λ h x. x) (matches_as stamped b (Holds b s) (poll_refused s) (holds_poll_refused b s))
      (unsent_told bytes written (Err Failed) (Outside Send) refl call)
  polled_told (unsent {now} fault) = leads_none now (λ h x. x)
  polled_told (refused fault bytes written call) = unsent_told bytes written (Err no_memory) wanting refl call

pub poll_leads : (stamped : List (List ℕ)) (b : Basis) (who : Who) (s : State) → AreValid s.queue.chunks
    → who ≡ agent b.source → IsTrue (is_source b.source) → Fits b s
    → {result : Result Polled NoMemory} {t : State} {old new : Option History} → IsPolled who s result t old new
    → Adds old new (Leads (Making stamped who Send) (Matches stamped b s) (Matches stamped b t))
poll_leads stamped b who s valid is known fits {result = result} {t = t} {old = old} {new = new} =
    subst (λ w. IsPolled w s result t old new → Adds old new (Leads (Making stamped w Send) (Matches stamped b s) (Matches stamped b t)))
    (sym is) (polled_told stamped b s known fits valid)
