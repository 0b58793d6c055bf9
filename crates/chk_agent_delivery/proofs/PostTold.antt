-- The sending of a post obeys the agent's rule, and what the history holds of the state goes on.
use Rattle.std.proofs.Common.{◌≡◌, inl, ℕ, List, [], ◌∷◌, length, Option, Some, Result, Ok, Err, ap, sym, subst, ◌∙◌, refl}
use Rattle.std.specs.Prelude.{IsTrue, Contains, find}
use Rattle.chk_bytes.specs.declared.NoMemory.{NoMemory}
use Rattle.chk_site.specs.declared.acts.Who.{Who}
use Rattle.chk_site.specs.declared.acts.Call.TheVariants.{Send}
use Rattle.chk_site.specs.declared.acts.CallFault.{CallFault}
use Rattle.chk_site.specs.declared.acts.CallFault.TheVariants.{Failed, NoMemory as no_memory}
use Rattle.chk_site.specs.declared.acts.OutsideFault.{OutsideFault}
use Rattle.chk_site.specs.declared.acts.OutsideFault.TheVariants.{Outside, NoMemory as wanting}
use Rattle.chk_site.specs.History.{History, since_start}
use Rattle.chk_site.specs.Site.{Adds, asked, answered, Ends, sized}
use Rattle.chk_site.specs.Runs.{Leads}
use Rattle.chk_site.proofs.Leads.{leads_as, leads_none}
use Rattle.chk_chunk.specs.Keys.{Chunk}
use Rattle.chk_chunk.specs.declared.Chunk.{Chunk as OwnedChunk}
use Rattle.chk_chunk.specs.Lent.{chunk_of, chunks_of, AreValid}
use Rattle.chk_http_grammar.specs.Messages.{WrittenPost}
use Rattle.chk_world.specs.Names.{is_source}
use Rattle.chk_world.specs.Checkpoints.{Line, is_line_of, checkpoint_lines}
use Rattle.chk_site.specs.History.{files_after}
use Rattle.chk_world.specs.Agents.{Sent}
use Rattle.chk_world.specs.Places.{Making}
use Rattle.chk_world.specs.Reading.{ChunkStands}
use Rattle.chk_world.specs.Knowing.{agent, Both, Told}
use Rattle.chk_world.proofs.AgentDoes.{Gained, post_told}
use Rattle.chk_world.proofs.AgentFacts.{may_send}
use Rattle.chk_world.proofs.AgentKnows.{agent_ends}
use Rattle.chk_world.proofs.ToldCalls.{told_some}
use Rattle.chk_agent_delivery.specs.declared.answers.Posted.{Posted}
use Rattle.chk_agent_delivery.specs.States.{State, address_now}
use Rattle.chk_agent_delivery.specs.Turns.{IsFrontToSend, without_post, posted, post_refused}
use Rattle.chk_agent_delivery.specs.Scripts.{Sends, IsPosted, empty, no_rows, sent, failed, unsent, refused}
use Rattle.chk_agent_delivery.specs.Basis.{Basis, Fits, stream_of_chunk}
use Rattle.chk_agent_delivery.specs.Facts.{Holds, Matches}
use Rattle.chk_agent_delivery.proofs.Members.{in_map, in_take, owned_in}
use Rattle.chk_agent_delivery.proofs.Growing.{holds_grows}

-- what is held may be taken as less
pub matches_as : (stamped : List (List ℕ)) (b : Basis) (F : History → Type 0) (t : State) → ((h : History) → F h → Holds b t h)
    → (h : History) → Told stamped b.source b.cluster b.lines F h → Matches stamped b t h
matches_as stamped b F t as_held h x = record {
  legal = x.legal;
  may_act = x.may_act;
  alive = λ r.
      let k = x.alive r in
      record { one_cluster = k.one_cluster; lines_are = k.lines_are; holds = as_held h k.holds };
}

-- a state without its post is held
pub holds_without_post : (b : Basis) (s : State) (h : History) → Holds b s h → Holds b (without_post s) h
holds_without_post b s h x = record { queue = x.queue; rows = x.rows; ends = x.ends; post = tt; poll = x.poll }

pub holds_refused : (b : Basis) (s : State) (h : History) → Holds b s h → Holds b (post_refused s) h
holds_refused b s h x = record { queue = x.queue; rows = x.rows; ends = x.ends; post = tt; poll = x.poll }

module _ (stamped : List (List ℕ)) (b : Basis) (s : State) (known : IsTrue (is_source b.source)) (fits : Fits b s)
    (valid : AreValid s.queue.chunks) where
  abbrev Me : Who
  Me = agent b.source

  module _ (front : List OwnedChunk) (is : IsFrontToSend s front) (bytes : List ℕ)
      (written : WrittenPost (address_now s.ring) (chunks_of front) bytes) where
    owned : (c : Chunk) → Contains (chunks_of front) c → (o : OwnedChunk) × Contains s.queue.chunks o × (chunk_of o ≡ c)
    owned c one =
        let r = in_map chunk_of front c one in
        (r.0, in_take (length front) s.queue.chunks r.0 (subst (λ cs. Contains cs r.0) is.longest.is r.1), r.2)

    of_cluster : (c : Chunk) → Contains (chunks_of front) c → c.key.cluster ≡ b.cluster
    of_cluster c one =
        let o = owned c one in
        ap (λ (c : Chunk). c.key.cluster) (sym o.2) ∙ (owned_in b s.owners s.queue.chunks fits.owned o.0 o.1).cluster

    of_line : (c : Chunk) → Contains (chunks_of front) c
        → (c.key.stream.source ≡ b.source) × ((k : Line) × (find (is_line_of c.key.stream) b.lines ≡ Some k))
    of_line c one =
        let o = owned c one in
        let w = owned_in b s.owners s.queue.chunks fits.owned o.0 o.1 in
        let saved = fits.saved w.owner (stream_of_chunk o.0) w.there in
        subst (λ (c : Chunk). (c.key.stream.source ≡ b.source) × ((k : Line) × (find (is_line_of c.key.stream) b.lines ≡ Some k)))
        o.2 (saved.source, (saved.line, saved.there))

    stand : (h : History) → Holds b s h → (c : Chunk) → Contains (chunks_of front) c → ChunkStands h c
    stand h holds c one = let o = owned c one in subst (ChunkStands h) o.2 (holds.queue o.0 o.1)

    -- it is out
    sent_told : (m : ℕ) {old new : Option History} → Sends Me (address_now s.ring) bytes (Ok m) old new
        → Adds old new (Leads (Making stamped Me Send) (Matches stamped b s) (Matches stamped b (posted m (length front) s)))
    sent_told m call =
        leads_as (λ h x. x)
        (matches_as stamped b (Both (Holds b s) (Gained (λ m h. Sent (since_start Me h) m (address_now s.ring) bytes) (Some m)))
        (posted m (length front) s)
        (λ h x. record {
          queue = x.one.queue;
          rows = x.one.rows;
          ends = x.one.ends;
          post = (
            address_now s.ring,
            bytes,
            x.two,
            subst (λ cs. WrittenPost (address_now s.ring) (chunks_of cs) bytes) is.longest.is written,
          );
          poll = x.one.poll;
        }))
        (post_told stamped b.source known b.cluster b.lines (Holds b s) (holds_grows stamped b s known fits valid) (address_now s.ring) bytes
        (chunks_of front) written of_cluster of_line stand (Ok m) (Some m) refl call)

    -- the call failed
    unsent_told : (given : Result ℕ CallFault) (fault : OutsideFault) {old new : Option History} → Ends Send given fault
        → Sends Me (address_now s.ring) bytes given old new
        → Adds old new (Leads (Making stamped Me Send) (Matches stamped b s) (Matches stamped b s))
    unsent_told given fault ends call =
        told_some (λ n. asked Me Send (address_now s.ring ∷ bytes ∷ []) n 0) (λ n. answered sized given)
        (λ n before after one.
        agent_ends stamped b.source known b.cluster b.lines (Holds b s) (holds_grows stamped b s known fits valid)
        (asked Me Send (address_now s.ring ∷ bytes ∷ []) n 0) refl (λ answer files logs. refl)
        (λ answer files logs. inl (chunks_of front, written, of_cluster)) sized given fault
        (λ before answer files logs legal k. inl (record {
          chunks = chunks_of front;
          is_post = written;
          each = λ c one.
              let o = of_line c one in
              may_send Me before c o.1.0 o.0
              (ap (find (is_line_of c.key.stream)) (ap (checkpoint_lines (files_after before)) o.0 ∙ k.lines_are) ∙ o.1.1)
              (stand before k.holds c one);
          cluster = b.cluster;
          here = of_cluster;
          before = k.one_cluster;
        })) ends one) call

  -- the whole call
  posted_told : {result : Result Posted NoMemory} {t : State} {old new : Option History} → IsPosted Me s result t old new
      → Adds old new (Leads (Making stamped Me Send) (Matches stamped b s) (Matches stamped b t))
  posted_told (empty {now} none) = leads_none now (matches_as stamped b (Holds b s) (without_post s) (holds_without_post b s))
  posted_told (no_rows {now} some free) = leads_none now (matches_as stamped b (Holds b s) (without_post s) (holds_without_post b s))
  posted_told (sent front bytes m is written call) = sent_told front is bytes written m call
  posted_told (failed front bytes is written call) =
      leads_as (λ h x. x) (matches_as stamped b (Holds b s) (post_refused s) (holds_refused b s))
      (unsent_told front is bytes written (Err Failed) (Outside Send) refl call)
  posted_told (unsent {now} fault) = leads_none now (λ h x. x)
  posted_told (refused fault front bytes is written call) = unsent_told front is bytes written (Err no_memory) wanting refl call

-- the same, whoever makes it
pub post_leads : (stamped : List (List ℕ)) (b : Basis) (who : Who) (s : State) → AreValid s.queue.chunks
    → who ≡ agent b.source → IsTrue (is_source b.source) → Fits b s
    → {result : Result Posted NoMemory} {t : State} {old new : Option History} → IsPosted who s result t old new
    → Adds old new (Leads (Making stamped who Send) (Matches stamped b s) (Matches stamped b t))
post_leads stamped b who s valid is known fits {result = result} {t = t} {old = old} {new = new} =
    subst (λ w. IsPosted w s result t old new → Adds old new (Leads (Making stamped w Send) (Matches stamped b s) (Matches stamped b t)))
    (sym is) (posted_told stamped b s known fits valid)
