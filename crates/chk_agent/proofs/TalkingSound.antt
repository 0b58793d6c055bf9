-- A post, a poll or a reply leaves the state sound.
use Rattle.std.proofs.Common.{◌≡◌, ℕ, zero, suc, ◌-◌, ◌≤◌, ◌<◌, List, [], ◌∷◌, length, take, drop}
use Rattle.std.proofs.Common.{Option, Some, None, Result, ap, subst, ◌∙◌, refl, arith}
use Rattle.std.specs.Prelude.{slice_get, slice_set, slice_index}
use Rattle.std.proofs.lemmas.Option.{same_Some, none-some}
use Rattle.chk_bytes.specs.declared.NoMemory.{NoMemory}
use Rattle.chk_site.specs.declared.acts.Who.{Who}
use Rattle.chk_site.specs.History.{History}
use Rattle.chk_chunk.specs.declared.Chunk.{Chunk}
use Rattle.chk_http_grammar.specs.Messages.{Ack}
use Rattle.chk_failover.specs.Turns.{Turns}
use Rattle.chk_acks.specs.Table.{Table, answer_row, added}
use Rattle.chk_acks.specs.Sound.{IsSound as IsSoundTable}
use Rattle.chk_acks.proofs.Turns.{turn_on}
use Rattle.chk_agent_adaptor.specs.Adaptors.{Adaptor}
use Rattle.chk_agent_delivery.specs.declared.answers.Posted.{Posted}
use Rattle.chk_agent_delivery.specs.declared.answers.Answered.{Answered}
use Rattle.chk_agent_delivery.specs.declared.answers.Polled.{Polled}
use Rattle.chk_agent_delivery.specs.declared.answers.PollAnswer.{PollAnswer}
use Rattle.chk_agent_delivery.specs.States.{Post, Poll, State as Delivery}
use Rattle.chk_agent_delivery.specs.Basis.{Basis, AreOwned}
use Rattle.chk_agent_delivery.specs.Sound.{InTurn, ends_after, PostFits, IsSound as IsSoundDelivery}
use Rattle.chk_agent_delivery.specs.Turns.{answered_rows, SeesAll, post_taken, poll_taken}
use Rattle.chk_agent_delivery.specs.Scripts.{IsPosted, empty, no_rows, none, sent, failed, unsent}
use Rattle.chk_agent_delivery.specs.Scripts.{refused, IsPostReplied, nothing, got, silent, wanting, good}
use Rattle.chk_agent_delivery.specs.Scripts.{bad}
use Rattle.chk_agent_delivery.specs.Scripts.{IsPolled, IsPollReplied}
use Rattle.chk_agent_delivery.proofs.Rows.{answered_same}
use Rattle.chk_agent_delivery.proofs.LengthStates.{seen_less}
use Rattle.chk_agent.specs.States.{State, committed_at, basis_of}
use Rattle.chk_agent.specs.Turns.{with_delivery}
use Rattle.chk_agent.specs.Fits.{IsSound}
use Rattle.chk_agent.proofs.Soundness.{below_at, sound_delivered}

-- ---- only messages change

-- what is to be delivered, with other messages out and another address in use
abbrev pub with_messages : Delivery → Turns → Option Post → Option Poll → Option ℕ → Delivery
with_messages d ring post poll polled = record d {
  ring = ring;
  post = post;
  poll = poll;
  polled =
      polled;
}

pub messages_sound : (s : State) (ring : Turns) (post : Option Post) (poll : Option Poll)
    (polled : Option ℕ) → IsSound s
    → IsSoundDelivery (with_messages s.delivery ring post poll polled)
    → IsSound (with_delivery s (with_messages s.delivery ring post poll polled))
messages_sound s ring post poll polled sound d = record {
  source = sound.source;
  delivery = d;
  enough = sound.enough;
  known = sound.known;
  few = sound.few;
  each = sound.each;
  owned = sound.owned;
  none_lost = sound.none_lost;
  apart = sound.apart;
}

module _ (who : Who) (s : State) (sound : IsSound s) where
  pub posted_sound : {given : Result Posted NoMemory} {d : Delivery} {old new : Option History}
      → IsPosted who s.delivery given d old new
      → IsSoundDelivery d → IsSound (with_delivery s d)
  posted_sound (empty is) d = messages_sound s _ _ _ _ sound d
  posted_sound (no_rows some is) d = messages_sound s _ _ _ _ sound d
  posted_sound (sent front bytes m is written call) d = messages_sound s _ _ _ _ sound d
  posted_sound (failed front bytes is written call) d = messages_sound s _ _ _ _ sound d
  posted_sound (unsent fault) d = sound
  posted_sound (refused fault front bytes is written call) d = sound

  pub polled_sound : {given : Result Polled NoMemory} {d : Delivery} {old new : Option History}
      → IsPolled who s.delivery given d old new
      → IsSoundDelivery d → IsSound (with_delivery s d)
  polled_sound (none is) d = messages_sound s _ _ _ _ sound d
  polled_sound (sent bytes m written call) d = messages_sound s _ _ _ _ sound d
  polled_sound (failed bytes written call) d = messages_sound s _ _ _ _ sound d
  polled_sound (unsent fault) d = sound
  polled_sound (refused fault bytes written call) d = sound

-- ---- the table and the queue change

-- each chunk that waits ends at or past where it begins, so the ends only rise
ends_on : (last owners : List ℕ) (chunks : List Chunk) → InTurn last owners chunks → (i : ℕ)
    → slice_index last i ≤ slice_index (ends_after last owners chunks) i
ends_on last [] [] turn i = omega arith
ends_on last (j ∷ owners) [] turn i = omega arith
ends_on last [] (c ∷ chunks) turn i = absurd turn
ends_on last (j ∷ owners) (c ∷ chunks) turn i =
    let later = ends_on (slice_set last j c.seq) owners chunks turn.3 i in
    let set = set_on last j c.seq i (let seq = turn.1 in omega (arith, seq)) in
    omega (arith, later, set)
  where
    set_on : (xs : List ℕ) (j x i : ℕ) → slice_index xs j ≤ x
        → slice_index xs i ≤ slice_index (slice_set xs j x) i
    set_on [] j x i on = omega arith
    set_on (y ∷ xs) zero x zero on = on
    set_on (y ∷ xs) zero x (suc i) on = omega arith
    set_on (y ∷ xs) (suc j) x zero on = omega arith
    set_on (y ∷ xs) (suc j) x (suc i) on = set_on xs j x i on

-- what the front's rows leave of the ends
ends_behind : (now n : ℕ) (owners : List ℕ) (chunks : List Chunk) (acks : List Ack) (t : Table)
    → length acks ≡ n → n ≤ length chunks
    → length owners ≡ length chunks
    → ends_after (answered_rows now owners (take n chunks) acks t).last (drop n owners)
    (drop n chunks) ≡ ends_after t.last owners chunks
ends_behind now zero [] chunks acks t many few same = refl
ends_behind now zero (i ∷ owners) chunks acks t many few same = refl
ends_behind now (suc n) owners [] acks t many few same = absurd (let z : ⊥ = omega
    (arith, few) in z)
ends_behind now (suc n) [] (c ∷ chunks) acks t many few same = absurd (let z : ⊥ = omega
    (arith, same) in z)
ends_behind now (suc n) (i ∷ owners) (c ∷ chunks) [] t many few same = absurd (let z : ⊥ = omega
    (arith, many) in z)
ends_behind now (suc n) (i ∷ owners) (c ∷ chunks) (k ∷ acks) t many few same =
    ends_behind now n owners chunks acks (added (answer_row i
    (c.seq - length c.body) c.seq k.stem k.number now) t)
    (omega (arith, many)) (omega (arith, few)) (omega (arith, same))

owned_behind : (b : Basis) (n : ℕ) (owners : List ℕ) (chunks : List Chunk)
    → AreOwned b owners chunks → AreOwned b (drop n owners) (drop n chunks)
owned_behind b zero owners chunks owned = owned
owned_behind b (suc n) [] [] owned = tt
owned_behind b (suc n) [] (c ∷ chunks) owned = absurd owned
owned_behind b (suc n) (i ∷ owners) [] owned = absurd owned
owned_behind b (suc n) (i ∷ owners) (c ∷ chunks) owned = owned_behind b n owners chunks owned.2

-- the lengths that are seen let the committed ends go on
seen_on : (lengths : List Ack) (old new : Table) → SeesAll lengths old new
    → (length new.committed ≡ length old.committed)
    × ((i : ℕ) → i < length old.committed
    → slice_index old.committed i ≤ slice_index new.committed i)
seen_on [] old new same = (
  ap (λ (t : Table). length t.committed) same,
  λ i inside. let is = ap (λ (t : Table). slice_index t.committed i) same in omega (arith, is),
)
seen_on (k ∷ lengths) old new (mid, sees, rest) =
    let r = seen_on lengths mid new rest in
    let first = sees.committed in
    let size = first.as_many in (
      r.0 ∙ size,
      λ i inside.
          let one = (first.ends i inside).on in
          let more = r.1 i (omega (arith, inside, size)) in
          omega (arith, one, more),
    )

module _ (who : Who) (s : State) (sound : IsSound s) where
  -- a post that is out has no more chunks than wait
  there : (p : Post) (o : Option Post) → PostFits s.delivery o → o ≡ Some p
      → p.count ≤ length s.delivery.queue.chunks
  there p None fits is = absurd (none-some p is)
  there p (Some q) fits is = subst (λ (k : Post). k.count ≤ length s.delivery.queue.chunks)
      (same_Some q p is) fits.there

  taken_sound : (now : ℕ) (p : Post) → s.delivery.post ≡ Some p → (acks : List Ack)
      → length acks ≡ p.count
      → IsSoundDelivery (post_taken now p.count acks s.delivery)
      → IsSound (with_delivery s (post_taken now p.count acks s.delivery))
  taken_sound now p out acks many d =
      let old = s.delivery in
      let ends = (answered_same now old.owners (take p.count old.queue.chunks) acks old.table).0 in
      let same : (i : ℕ) → slice_index
      (post_taken now p.count acks old).table.committed i ≡ committed_at s i =
      λ i. ap (λ xs. slice_index xs i) ends in
      sound_delivered s sound (post_taken now p.count acks old) (record {
        delivery = d;
        rules = refl;
        known = ap length ends;
        begins = λ i a at. ap (λ xs. slice_index xs i)
            (ends_behind now p.count old.owners old.queue.chunks acks old.table many
            (there p old.post sound.delivery.post out)
            sound.delivery.as_many);
        on = λ i a at. let is = same i in omega (arith, is);
        to = λ i a at. let is = same i in let to = (sound.each i a at).place.to in omega
            (arith, is, to);
        owned = owned_behind (basis_of s) p.count old.owners old.queue.chunks sound.owned;
      })

  pub replied_sound : {now : ℕ} {given : Result Answered NoMemory} {d : Delivery} {old new : Option
      History}
      → IsPostReplied who now s.delivery given d old new → IsSoundDelivery d
      → IsSound (with_delivery s d)
  replied_sound (nothing none_out) d = sound
  replied_sound (got p bytes out call (good acks is many)) d = taken_sound _ p out acks many d
  replied_sound (got p bytes out call (bad code none_good is)) d = messages_sound s _ _ _ _ sound d
  replied_sound (silent p out call) d = messages_sound s _ _ _ _ sound d
  replied_sound (wanting fault p out call) d = sound

  seen_sound : (lengths : List Ack) (t : Table) → SeesAll lengths s.delivery.table t
      → IsSoundTable t
      → IsSoundDelivery (poll_taken t s.delivery)
      → IsSound (with_delivery s (poll_taken t s.delivery))
  seen_sound lengths t sees table d =
      let old = s.delivery in
      let on = seen_on lengths old.table t sees in
      let last = (seen_less lengths old.table t sees).last in
      let inside : (i : ℕ) (a : Adaptor) → slice_get s.adaptors i ≡ Some a
      → i < length old.table.committed =
      λ i a at.
      let below = below_at s.adaptors i a at in
      let few = sound.few in
      let known = sound.known in omega (arith, below, few, known) in
      sound_delivered s sound (poll_taken t old) (record {
        delivery = d;
        rules = refl;
        known = on.0;
        begins = λ i a at. ap (λ xs. slice_index
            (ends_after xs old.owners old.queue.chunks) i) last;
        on = λ i a at. on.1 i (inside i a at);
        to = λ i a at.
            let known = inside i a at in
            let size = on.0 in
            let end = turn_on _ _ _ (table.turn i (omega (arith, known, size))) in
            let same = ap (λ xs. slice_index xs i) last in
            let next = ends_on old.table.last old.owners old.queue.chunks sound.delivery.turn i in
            let read = (sound.each i a at).place.queued in omega (arith, end, same, next, read);
        owned = sound.owned;
      })

  pub lengths_sound : {given : Result PollAnswer NoMemory} {d : Delivery} {old new : Option History}
      → IsPollReplied who s.delivery given d old new → IsSoundDelivery d → IsSoundTable d.table
      → IsSound (with_delivery s d)
  lengths_sound (nothing none_out) d t = sound
  lengths_sound (got p bytes out call
      (good {t = table} lengths is asked sees)) d t = seen_sound lengths table sees t d
  lengths_sound (got p bytes out call
      (bad code none_good is)) d t = messages_sound s _ _ _ _ sound d
  lengths_sound (silent p out call) d t = messages_sound s _ _ _ _ sound d
  lengths_sound (wanting fault p out call) d t = sound
