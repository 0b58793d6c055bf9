-- What is acknowledged to the agent of a stream is kept or archived.
use Rattle.std.proofs.Common.{◌≡◌, inl, inr, ℕ, zero, suc, ◌≤◌, ◌<◌, List, [], ◌∷◌, length, ap, sym, subst, ◌∙◌, arith}
use Rattle.std.specs.Prelude.{Any, slice_index_or}
use Rattle.std.proofs.lemmas.Option.{same_Some}
use Rattle.chk_bytes.specs.Stems.{Stem}
use Rattle.chk_site.specs.declared.acts.Who.{Who}
use Rattle.chk_site.specs.History.{History, Ever, files_after, since_start}
use Rattle.chk_site.specs.Messages.{Message}
use Rattle.chk_chunk.specs.Keys.{Chunk}
use Rattle.chk_http_grammar.specs.Messages.{Ack, WrittenPost, WrittenPoll}
use Rattle.chk_world.specs.Agents.{Acknowledged, Sent}
use Rattle.chk_world.specs.Committed.{committed_length}
use Rattle.chk_world.specs.Rules.{Legal}
use Rattle.chk_world.specs.Laws.{AcknowledgedIsSaved, CheckpointsAreSaved, RunsCoverCheckpoints, agent_of}
use Rattle.chk_world.proofs.SentMessages.{IsSentAs, sent_as}
use Rattle.chk_world.proofs.RepliesTell.{AnswerTells, LineStands, AllCommitted, WasCommitted}
use Rattle.chk_world.proofs.GotReplies.{got_tells}
use Rattle.chk_world.proofs.CommittedSaved.{reached_is_saved}
use Rattle.chk_world.proofs.RunsCover.{passed_saved, runs_cover}

ever_less : (history : History) (x y : Stem) (m n : ℕ) → y ≡ x → m ≤ n → Ever (λ front. n ≤ committed_length (files_after front) y) history
    → Ever (λ front. m ≤ committed_length (files_after front) x) history
ever_less [] x y m n e less h = lesser (subst (λ z. n ≤ committed_length (files_after []) z) e h)
  where
    lesser : n ≤ committed_length (files_after []) x → m ≤ committed_length (files_after []) x
    lesser h = omega (arith, h, less)
ever_less (step ∷ history) x y m n e less (inl h) = inl (lesser (subst (λ z. n ≤ committed_length step.files z) e h))
  where
    lesser : n ≤ committed_length step.files x → m ≤ committed_length step.files x
    lesser h = omega (arith, h, less)
ever_less (step ∷ history) x y m n e less (inr h) = inr (ever_less history x y m n e less h)

-- one of the lines is of the sink, and of this length or more
reached : (history : History) (x : Stem) (m : ℕ) (acks : List Ack) → AllCommitted history acks → Any (λ n. (n.stem ≡ x) × (m ≤ n.number)) acks
    → Ever (λ front. m ≤ committed_length (files_after front) x) history
reached history x m acks all h = go acks all h.0 h.2 h.3
  where
    go : (acks : List Ack) → AllCommitted history acks → (k : ℕ) → k < length acks → slice_index_or acks k h.1 ≡ h.1
        → Ever (λ front. m ≤ committed_length (files_after front) x) history
    go [] all k low at = absurd (let z : ⊥ = omega arith in z)
    go (a ∷ acks) all zero low at =
        let more : m ≤ a.number = omega (arith, h.4.1, ap (λ (a : Ack). a.number) at) in
        ever_less history x a.stem m a.number (ap (λ (a : Ack). a.stem) at ∙ h.4.0) more all.0
    go (a ∷ acks) all (suc k) low at = go acks all.1 k (omega arith) at

module _ (stamped : List (List ℕ)) (history : History) (legal : Legal stamped history) (who : Who) (c : Chunk) (a : Acknowledged (since_start who history) c) where
  -- the message that was sent is the one that was answered
  same_message : (n : ℕ) (address bytes : List ℕ) → Sent (since_start who history) n address bytes → (reply : List ℕ)
      → (t : AnswerTells history n reply) → bytes ≡ t.m.bytes
  same_message n address bytes sent reply t =
      let s : IsSentAs history n bytes = sent_as stamped history legal who sent.step sent.one n address bytes sent.call in
      sym s.same ∙ ap (λ (m : Message). m.bytes) (same_Some s.m t.m (sym s.is ∙ t.is))

  pub chunk_stands : LineStands history c a.ack
  chunk_stands =
      let t = got_tells stamped history legal who a.post a.acks a.reply a.is_good a.replied in
      t.of_post a.acks a.is_good a.address a.chunks
      (subst (WrittenPost a.address a.chunks) (same_message a.post a.address a.sent_bytes a.posted a.reply t) a.is_post) c a.ack a.line

  pub end_reached : WasCommitted history a.ack
  end_reached =
      let t = got_tells stamped history legal who a.poll a.lengths a.poll_reply a.is_good_poll a.poll_replied in
      reached history a.ack.stem a.ack.number a.lengths
      (t.of_poll a.lengths a.is_good_poll a.poll_address a.stems
      (subst (WrittenPoll a.poll_address a.stems) (same_message a.poll a.poll_address a.poll_bytes a.polled a.poll_reply t) a.is_poll)) a.committed

pub acknowledged_is_saved : AcknowledgedIsSaved
acknowledged_is_saved stamped history legal s known c a o covers =
    let l : LineStands history c a.ack = chunk_stands stamped history legal (agent_of s) c a in
    reached_is_saved stamped history legal a.ack.stem l.stem a.ack.number c l.stands (end_reached stamped history legal (agent_of s) c a) s o covers

pub law_covered : RunsCoverCheckpoints
law_covered = runs_cover acknowledged_is_saved

pub checkpoints_are_saved : CheckpointsAreSaved
checkpoints_are_saved = passed_saved acknowledged_is_saved
