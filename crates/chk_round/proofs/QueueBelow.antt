-- What waits of an adaptor's stream ends where it was read to, or before.
use Rattle.std.proofs.Common.{◌≡◌, ℕ, zero, suc, ◌≤◌, ◌<◌, List, [], ◌∷◌, length, drop, inl, inr, Option, Some, Result, ap, sym, subst, ◌∙◌, arith}
use Rattle.std.specs.Prelude.{Contains, find, slice_get, slice_index, slice_set}
use Rattle.std.proofs.lemmas.Bool.{cases_eq}
use Rattle.std.proofs.lemmas.List.{get_or-set_same, get_or-set_other}
use Rattle.std.proofs.lemmas.Option.{same_Some}
use Rattle.chk_bytes.specs.Stems.{Stem}
use Rattle.chk_bytes.specs.declared.NoMemory.{NoMemory as Wanting}
use Rattle.chk_site.specs.declared.acts.Who.{Who}
use Rattle.chk_site.specs.History.{History}
use Rattle.chk_chunk.specs.Keys.{Stream}
use Rattle.chk_chunk.specs.declared.Chunk.{Chunk}
use Rattle.chk_world.specs.Checkpoints.{Line, is_line_of}
use Rattle.chk_world.proofs.NameTests.{streams_same}
use Rattle.chk_agent_adaptor.specs.Adaptors.{Adaptor, line_at, stream_at}
use Rattle.chk_agent_delivery.specs.declared.answers.Answered.{Answered}
use Rattle.chk_agent_delivery.specs.declared.answers.Polled.{Polled}
use Rattle.chk_agent_delivery.specs.declared.answers.PollAnswer.{PollAnswer}
use Rattle.chk_agent_delivery.specs.declared.answers.Posted.{Posted}
use Rattle.chk_agent_delivery.specs.Basis.{AreOwned, Basis, stream_of_chunk}
use Rattle.chk_agent_delivery.specs.Scripts as script
use Rattle.chk_agent_delivery.specs.Scripts.{IsPolled, IsPollReplied, IsPosted, IsPostReplied, TakesPollReply, TakesPostReply}
use Rattle.chk_agent_delivery.specs.Sound.{InTurn, ends_after, next_begins}
use Rattle.chk_agent_delivery.specs.States.{State as Delivery}
use Rattle.chk_agent.specs.declared.answers.AgentFault.{AgentFault}
use Rattle.chk_agent.specs.Fits.{IsSound}
use Rattle.chk_agent.specs.States.{State, basis_of, lines_at}
use Rattle.chk_agent.specs.Turns.{GetsLengths, GetsPostReply, Polls, Posts}
use Rattle.chk_agent.proofs.Soundness.{line_there, map_at}
use Rattle.chk_round.specs.Sending.{QueueBelow}
use Rattle.chk_agent_delivery.proofs.ReplyTold.{in_drop}

-- ---- ends rise

set_up : (last : List ℕ) (i at : ℕ) → i < length last → slice_index last i ≤ at
    → (k : ℕ) → slice_index last k ≤ slice_index (slice_set last i at) k
set_up last i at within up k = elim (cases_eq k i) [
  | inl same ↦
      let old : slice_index last k ≡ slice_index last i = ap (slice_index last) same in
      let new : slice_index (slice_set last i at) k ≡ at =
      ap (slice_index (slice_set last i at)) same ∙ get_or-set_same last i at 0 within in
      omega (arith, up, old, new)
  | inr apart ↦
      let stays : slice_index (slice_set last i at) k ≡ slice_index last k =
      get_or-set_other last i k at 0 apart in
      omega (arith, stays)
]

-- chunks that wait only raise the ends
ends_rise : (last owners : List ℕ) (chunks : List Chunk) → InTurn last owners chunks
    → (k : ℕ) → slice_index last k ≤ slice_index (ends_after last owners chunks) k
ends_rise last [] [] turn k = omega arith
ends_rise last (i ∷ owners) [] turn k = omega arith
ends_rise last [] (c ∷ chunks) turn k = absurd turn
ends_rise last (i ∷ owners) (c ∷ chunks) turn k =
    let from = turn.1 in
    let first = set_up last i c.seq turn.0 (omega (arith, from)) k in
    let rest = ends_rise (slice_set last i c.seq) owners chunks turn.3 k in
    omega (arith, first, rest)

-- a chunk of an adaptor's stream that ends at the adaptor's end or before it
record IsWithin (b : Basis) (ends : List ℕ) (c : Chunk) : Type 0 where
  owner : ℕ
  there : slice_get b.streams owner ≡ Some (stream_of_chunk c)
  end : c.seq ≤ slice_index ends owner

all_within : (b : Basis) (last owners : List ℕ) (chunks : List Chunk) → InTurn last owners chunks
    → AreOwned b owners chunks → (c : Chunk) → Contains chunks c
    → IsWithin b (ends_after last owners chunks) c
all_within b last [] [] turn owned c (k, below, at) = absurd (let z : ⊥ = omega (arith, below) in z)
all_within b last [] (x ∷ chunks) turn owned c one = absurd turn
all_within b last (i ∷ owners) [] turn owned c one = absurd owned
all_within b last (i ∷ owners) (x ∷ chunks) turn owned c (zero, below, at) =
    let here : slice_index (slice_set last i x.seq) i ≡ x.seq =
    get_or-set_same last i x.seq 0 turn.0 in
    let rise = ends_rise (slice_set last i x.seq) owners chunks turn.3 i in
    subst (IsWithin b (ends_after (slice_set last i x.seq) owners chunks)) at
    (record { owner = i; there = owned.0; end = omega (arith, here, rise) })
all_within b last (i ∷ owners) (x ∷ chunks) turn owned c (suc k, below, at) =
    all_within b (slice_set last i x.seq) owners chunks turn.3 owned.2 c
    (k, omega (arith, below), at)

-- ---- what waits

-- no two adaptors are of one stream, so that what waits of it is this one's
pub queue_below : (a : State) → IsSound a → (i : ℕ) (x : Adaptor) → slice_get a.adaptors i ≡ Some x
    → QueueBelow (stream_at a.source x) x.read.offset a
queue_below a sound i x at c one of =
    let begins : List ℕ = next_begins a.delivery in
    let w = all_within (basis_of a) a.delivery.table.last a.delivery.owners a.delivery.queue.chunks
    sound.delivery.turn sound.owned c one in
    let y = map_at (stream_at a.source) a.adaptors w.owner (stream_of_chunk c) w.there in
    let same : stream_at a.source x ≡ stream_at a.source y.0 =
    streams_same (stream_at a.source x) (stream_of_chunk c) of ∙ sym y.2 in
    let here = line_there a.source a.adaptors begins sound.apart i x at in
    let there = line_there a.source a.adaptors begins sound.apart w.owner y.0 y.1 in
    let one_line :
    Some (line_at (slice_index begins i) x) ≡ Some (line_at (slice_index begins w.owner) y.0) =
    sym here
    ∙ (ap (λ (t : Stream). find (is_line_of t) (lines_at a.adaptors begins)) same ∙ there) in
    let begin : slice_index begins i ≡ slice_index begins w.owner =
    ap (λ (l : Line). l.offset)
    (same_Some (line_at (slice_index begins i) x)
    (line_at (slice_index begins w.owner) y.0) one_line) in
    let read = (sound.each i x at).place.queued in
    let end = w.end in
    omega (arith, begin, read, end)

-- ---- posts and polls

-- no chunk comes
abbrev pub NoneCame : Delivery → Delivery → Type 0
NoneCame d e = (c : Chunk) → Contains e.queue.chunks c → Contains d.queue.chunks c

post_came : {who : Who} {d e : Delivery} {given : Result Posted Wanting} {old new : Option History}
    → IsPosted who d given e old new → NoneCame d e
post_came (script.empty is) c one = one
post_came (script.no_rows some is) c one = one
post_came (script.sent front bytes m is written call) c one = one
post_came (script.failed front bytes is written call) c one = one
post_came (script.unsent fault) c one = one
post_came (script.refused fault front bytes is written call) c one = one

taken_came : {now count : ℕ} {bytes : List ℕ} {d e : Delivery} {answer : Answered}
    → TakesPostReply now count bytes d answer e → NoneCame d e
taken_came {count = count} {d = d} (script.good acks is few) c one =
    in_drop count d.queue.chunks c one
taken_came (script.bad code none is) c one = one

reply_came : {who : Who} {now : ℕ} {d e : Delivery} {given : Result Answered Wanting}
    {old new : Option History}
    → IsPostReplied who now d given e old new → NoneCame d e
reply_came (script.nothing is) c one = one
reply_came (script.got p bytes is call takes) c one = taken_came takes c one
reply_came (script.silent p is call) c one = one
reply_came (script.wanting fault p is call) c one = one

poll_came : {who : Who} {d e : Delivery} {given : Result Polled Wanting} {old new : Option History}
    → IsPolled who d given e old new → NoneCame d e
poll_came (script.none is) c one = one
poll_came (script.sent bytes m written call) c one = one
poll_came (script.failed bytes written call) c one = one
poll_came (script.unsent fault) c one = one
poll_came (script.refused fault bytes written call) c one = one

seen_came : {bytes : List ℕ} {stems : List Stem} {d e : Delivery} {answer : PollAnswer}
    → TakesPollReply stems bytes d answer e → NoneCame d e
seen_came (script.good lengths is for sees) c one = one
seen_came (script.bad code none is) c one = one

answer_came : {who : Who} {d e : Delivery} {given : Result PollAnswer Wanting}
    {old new : Option History}
    → IsPollReplied who d given e old new → NoneCame d e
answer_came (script.nothing is) c one = one
answer_came (script.got p bytes is call takes) c one = seen_came takes c one
answer_came (script.silent p is call) c one = one
answer_came (script.wanting fault p is call) c one = one

module _ (s : Stream) (end : ℕ) where
  came_below : (a b : State) (d : Delivery) → b.delivery ≡ d → NoneCame a.delivery d
      → QueueBelow s end a
      → QueueBelow s end b
  came_below a b d is none low c one of =
      low c (none c (subst (λ (e : Delivery). Contains e.queue.chunks c) is one)) of

  pub posts_below : {a b : State} {result : Result Posted AgentFault} {old new : Option History}
      → Posts a result b old new → QueueBelow s end a → QueueBelow s end b
  posts_below {a = a} {b = b} p =
      came_below a b p.delivery (ap (λ (k : State). k.delivery) p.state_is) (post_came p.made)

  pub replies_below : {now : ℕ} {a b : State} {result : Result Answered AgentFault}
      {old new : Option History}
      → GetsPostReply now a result b old new → QueueBelow s end a → QueueBelow s end b
  replies_below {a = a} {b = b} p =
      came_below a b p.delivery (ap (λ (k : State). k.delivery) p.state_is) (reply_came p.made)

  pub polls_below : {a b : State} {result : Result Polled AgentFault} {old new : Option History}
      → Polls a result b old new → QueueBelow s end a → QueueBelow s end b
  polls_below {a = a} {b = b} p =
      came_below a b p.delivery (ap (λ (k : State). k.delivery) p.state_is) (poll_came p.made)

  pub lengths_below : {a b : State} {result : Result PollAnswer AgentFault}
      {old new : Option History}
      → GetsLengths a result b old new → QueueBelow s end a → QueueBelow s end b
  lengths_below {a = a} {b = b} p =
      came_below a b p.delivery (ap (λ (k : State). k.delivery) p.state_is) (answer_came p.made)
