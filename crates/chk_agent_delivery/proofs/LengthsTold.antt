-- The reply to a poll: what the history holds of the state goes on.
use Rattle.std.proofs.Common.{◌≡◌, ℕ, List, Option, Some, Result, Err, sym, subst, refl}
use Rattle.std.specs.Prelude.{IsTrue}
use Rattle.chk_bytes.specs.declared.NoMemory.{NoMemory}
use Rattle.chk_site.specs.declared.acts.Who.{Who}
use Rattle.chk_site.specs.declared.acts.Call.TheVariants.{Got}
use Rattle.chk_site.specs.declared.acts.CallFault.TheVariants.{Failed, NoMemory as no_memory}
use Rattle.chk_site.specs.declared.acts.OutsideFault.TheVariants.{Outside, NoMemory as wanting_memory}
use Rattle.chk_site.specs.History.{History, since_start}
use Rattle.chk_site.specs.Site.{Adds}
use Rattle.chk_site.specs.Runs.{Leads}
use Rattle.chk_site.proofs.Leads.{leads_as, leads_none}
use Rattle.chk_chunk.specs.Lent.{AreValid}
use Rattle.chk_http_grammar.specs.Messages.{Ack, IsGoodReply}
use Rattle.chk_acks.specs.Table.{Table}
use Rattle.chk_world.specs.Names.{is_source}
use Rattle.chk_world.specs.Agents.{GotFor, AreFor}
use Rattle.chk_world.specs.Places.{As}
use Rattle.chk_world.specs.Answering.{IsPolled}
use Rattle.chk_world.specs.Knowing.{agent}
use Rattle.chk_agent_delivery.specs.declared.answers.PollAnswer.{PollAnswer}
use Rattle.chk_agent_delivery.specs.States.{Poll, State}
use Rattle.chk_agent_delivery.specs.Turns.{SeesAll, poll_taken, poll_refused}
use Rattle.chk_agent_delivery.specs.Scripts.{TakesPollReply, good, bad, IsPollReplied, nothing, got, silent, wanting}
use Rattle.chk_agent_delivery.specs.Basis.{Basis, Fits}
use Rattle.chk_agent_delivery.specs.Facts.{PollStands, Holds, Matches}
use Rattle.chk_agent_delivery.proofs.Acknowledging.{all_seen}
use Rattle.chk_agent_delivery.proofs.PostTold.{matches_as}
use Rattle.chk_agent_delivery.proofs.PollTold.{holds_poll_refused}
use Rattle.chk_agent_delivery.proofs.ReplyTold.{got_leads, ungot_leads}

module _ (stamped : List (List ℕ)) (b : Basis) (s : State) (known : IsTrue (is_source b.source)) (fits : Fits b s)
    (valid : AreValid s.queue.chunks) where
  abbrev Me : Who
  Me = agent b.source

  -- the rows that are marked are of acknowledged chunks, and the committed ends went on over them
  holds_seen : (p : Poll) (lengths : List Ack) (reply : List ℕ) (t : Table) → s.poll ≡ Some p → IsGoodReply lengths reply
      → AreFor p.stems lengths → SeesAll lengths s.table t → (h : History) → Holds b s h → GotFor (since_start Me h) p.message reply
      → Holds b (poll_taken t s) h
  holds_seen p lengths reply t out is_good asked sees h x replied =
      let o = subst (λ o. PollStands b.source o h) out x.poll in
      let polled : IsPolled (since_start Me h) lengths = record {
        poll = p.message;
        address = o.0;
        sent_bytes = o.1;
        stems = p.stems;
        polled = o.2;
        is_poll = o.3;
        reply = reply;
        replied = replied;
        is_good = is_good;
        asked = asked;
      } in
      let r = all_seen b.source b.streams h lengths polled lengths (λ k c. c) s.table t sees x.rows fits.known in
      record {
        queue = x.queue;
        rows = r.0;
        ends = λ i u saved there found. r.1 i u saved there (x.ends i u saved there found);
        post = x.post;
        poll = tt;
      }

  lengths_taken : (p : Poll) (reply : List ℕ) (answer : PollAnswer) (t : State) → s.poll ≡ Some p
      → TakesPollReply p.stems reply s answer t → (h : History) → Holds b s h → GotFor (since_start Me h) p.message reply → Holds b t h
  lengths_taken p reply answer t out (good {t = table} lengths is_good asked sees) h x replied =
      holds_seen p lengths reply table out is_good asked sees h x replied
  lengths_taken p reply answer t out (bad code none is) h x replied = holds_poll_refused b s h x

  replied_told : {result : Result PollAnswer NoMemory} {t : State} {old new : Option History} → IsPollReplied Me s result t old new
      → Adds old new (Leads (As stamped Me) (Matches stamped b s) (Matches stamped b t))
  replied_told (nothing {at} none) = leads_none at (λ h x. x)
  replied_told (got {answer = answer} {t = t} p bytes out call takes) =
      got_leads stamped b s known fits valid p.message bytes t (lengths_taken p bytes answer t out takes) call
  replied_told (silent p out call) =
      leads_as (λ h x. x) (matches_as stamped b (Holds b s) (poll_refused s) (holds_poll_refused b s))
      (ungot_leads stamped b s known fits valid p.message (Err Failed) (Outside Got) refl call)
  replied_told (wanting fault p out call) = ungot_leads stamped b s known fits valid p.message (Err no_memory) wanting_memory refl call

pub lengths_lead : (stamped : List (List ℕ)) (b : Basis) (who : Who) (s : State) → AreValid s.queue.chunks
    → who ≡ agent b.source → IsTrue (is_source b.source) → Fits b s
    → {result : Result PollAnswer NoMemory} {t : State} {old new : Option History} → IsPollReplied who s result t old new
    → Adds old new (Leads (As stamped who) (Matches stamped b s) (Matches stamped b t))
lengths_lead stamped b who s valid is known fits {result = result} {t = t} {old = old} {new = new} =
    subst (λ w. IsPollReplied w s result t old new → Adds old new (Leads (As stamped w) (Matches stamped b s) (Matches stamped b t)))
    (sym is) (replied_told stamped b s known fits valid)
