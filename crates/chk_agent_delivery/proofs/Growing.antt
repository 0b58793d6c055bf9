-- What the history holds of a state grows.
use Rattle.std.proofs.Common.{◌≡◌, ℕ, List, Option, Some, None, ap, sym, subst, ◌∙◌}
use Rattle.std.specs.Prelude.{IsTrue, Contains, slice_index}
use Rattle.chk_site.specs.History.{History, since_start}
use Rattle.chk_chunk.specs.Keys.{Stream}
use Rattle.chk_chunk.specs.declared.Chunk.{Chunk as OwnedChunk}
use Rattle.chk_chunk.specs.Lent.{chunk_of, AreValid}
use Rattle.chk_http_grammar.specs.Messages.{ack_of}
use Rattle.chk_acks.specs.declared.row.Row.{Row}
use Rattle.chk_world.specs.Names.{is_source}
use Rattle.chk_world.specs.Agents.{Sent, Acknowledged}
use Rattle.chk_world.specs.Answering.{IsAnswered, AllAcknowledged}
use Rattle.chk_world.specs.Knowing.{agent, Grows}
use Rattle.chk_world.proofs.AgentFacts.{answered_more, acknowledged_more, sent_more}
use Rattle.chk_world.proofs.AgentKnows.{steps_grow}
use Rattle.chk_world.proofs.CutsStay.{cut_on}
use Rattle.chk_world.proofs.LinesRead.{chunk_on}
use Rattle.chk_agent_delivery.specs.States.{Post, Poll, State}
use Rattle.chk_agent_delivery.specs.Basis.{Basis, Fits, stream_of_chunk}
use Rattle.chk_agent_delivery.specs.Facts.{RowStands, PostStands, PollStands, Holds}
use Rattle.chk_agent_delivery.proofs.Members.{valid_in, owned_in}

module _ (stamped : List (List ℕ)) (source : List ℕ) (known : IsTrue (is_source source)) where
  abbrev Grow : (History → Type 0) → Type 0
  Grow F = Grows stamped (agent source) F

  row_grows : (streams : List Stream) (row : Row) → Grow (RowStands source streams row)
  row_grows streams row history step legal no_start h = record {
    t = h.t;
    known = h.known;
    c = h.c;
    valid = h.valid;
    stream = h.stream;
    of = h.of;
    begin = h.begin;
    end = h.end;
    stands = chunk_on stamped history step legal h.c
        (subst (λ s. IsTrue (is_source s)) (sym (ap (λ (t : Stream). t.source) h.stream ∙ h.of)) known) h.valid h.stands;
    answered = steps_grow stamped (agent source) (λ mine. IsAnswered mine h.c (ack_of row.stem row.offset))
        (λ k mine x. answered_more k mine h.c (ack_of row.stem row.offset) x) history step legal no_start h.answered;
    marked = λ m. steps_grow stamped (agent source) (λ mine. Acknowledged mine h.c) (λ k mine x. acknowledged_more k mine h.c x)
        history step legal no_start (h.marked m);
  }

  all_grow : (t : Stream) (from to : ℕ) → Grow (λ h. AllAcknowledged (since_start (agent source) h) t from to)
  all_grow t from to history step legal no_start h o low high =
      let a = h o low high in (
        a.0,
        a.1,
        steps_grow stamped (agent source) (λ mine. Acknowledged mine a.0) (λ k mine x. acknowledged_more k mine a.0 x)
            history step legal no_start a.2,
      )

  sent_grows : (m : ℕ) (address bytes : List ℕ) → Grow (λ h. Sent (since_start (agent source) h) m address bytes)
  sent_grows m address bytes =
      steps_grow stamped (agent source) (λ mine. Sent mine m address bytes) (λ k mine x. sent_more k mine m address bytes x)

  post_grows : (chunks : List OwnedChunk) (p : Option Post) → Grow (PostStands source chunks p)
  post_grows chunks None history step legal no_start h = tt
  post_grows chunks (Some p) history step legal no_start (address, bytes, sent, written) =
      (address, bytes, sent_grows p.message address bytes history step legal no_start sent, written)

  poll_grows : (p : Option Poll) → Grow (PollStands source p)
  poll_grows None history step legal no_start h = tt
  poll_grows (Some p) history step legal no_start (address, bytes, sent, written) =
      (address, bytes, sent_grows p.message address bytes history step legal no_start sent, written)

-- the source of a chunk that waits
pub source_in : (b : Basis) (s : State) → Fits b s → (c : OwnedChunk) → Contains s.queue.chunks c → c.source ≡ b.source
source_in b s fits c one =
    let o = owned_in b s.owners s.queue.chunks fits.owned c one in
    (fits.saved o.owner (stream_of_chunk c) o.there).source

pub holds_grows : (stamped : List (List ℕ)) (b : Basis) (s : State) → IsTrue (is_source b.source) → Fits b s → AreValid s.queue.chunks
    → Grows stamped (agent b.source) (Holds b s)
holds_grows stamped b s known fits valid history step legal no_start h = record {
  queue = λ c one. chunk_on stamped history step legal (chunk_of c)
      (subst (λ k. IsTrue (is_source k)) (sym (source_in b s fits c one)) known) (valid_in s.queue.chunks valid c one) (h.queue c one);
  rows = λ row one. row_grows stamped b.source known b.streams row history step legal no_start (h.rows row one);
  ends = λ i t saved there found.
      let e = h.ends i t saved there found in
      let of_source = subst (λ k. IsTrue (is_source k)) (sym (fits.saved i t there).source) known in
      let c = cut_on stamped history step legal t of_source (slice_index s.table.committed i)
      (record { first = e.first; founded = e.founded; cut = e.cut }) in
      record {
        acknowledged = all_grow stamped b.source known t saved.offset (slice_index s.table.committed i) history step legal no_start e.acknowledged;
        first = c.first;
        founded = c.founded;
        cut = c.cut;
      };
  post = post_grows stamped b.source known s.queue.chunks s.post history step legal no_start h.post;
  poll = poll_grows stamped b.source known s.poll history step legal no_start h.poll;
}
