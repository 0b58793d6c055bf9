-- A message inside the process sends nothing of a stream past where what waits of it ends.
use Rattle.std.proofs.Common.{◌≡◌, ℕ, ◌≤◌, List, [], ◌∷◌, Option, Some, None, Result, Ok, Err, ap, sym, subst, ◌∙◌, refl}
use Rattle.std.specs.Prelude.{Contains, IsTrue}
use Rattle.chk_bytes.specs.declared.NoMemory.{NoMemory as Wanting}
use Rattle.chk_site.specs.declared.acts.Call.TheVariants.{Answer, Got, Take}
use Rattle.chk_site.specs.declared.acts.CallFault.{CallFault}
use Rattle.chk_site.specs.declared.acts.CallFault.TheVariants.{Failed, NoMemory as no_memory}
use Rattle.chk_site.specs.declared.acts.Role.{Role}
use Rattle.chk_site.specs.declared.acts.Role.TheVariants.{Collector}
use Rattle.chk_site.specs.declared.acts.Who.{Who}
use Rattle.chk_site.specs.declared.suffixes.Taking.{Taking}
use Rattle.chk_site.specs.History.{History}
use Rattle.chk_site.specs.Messages.{self_address}
use Rattle.chk_site.specs.Site.{Adds, answered, asked, bytes_given, own_step, plain, taking_given}
use Rattle.chk_site.proofs.Leads.{call_owned}
use Rattle.chk_site.proofs.Runs.{adds_as}
use Rattle.chk_chunk.specs.Keys.{Stream, Chunk, chunk_end, is_of}
use Rattle.chk_chunk.specs.Lent.{chunk_of, chunks_of}
use Rattle.chk_chunk.specs.declared.Chunk.{Chunk as OwnedChunk}
use Rattle.chk_world.specs.Laws.{agent_of}
use Rattle.chk_world.specs.Rounds.{SendsNonePast}
use Rattle.chk_sink.specs.States.{State as Sinks, process}
use Rattle.chk_agent_delivery.specs.declared.answers.Answered.{Answered}
use Rattle.chk_agent_delivery.specs.declared.answers.Below.{Below}
use Rattle.chk_agent_delivery.specs.declared.answers.PollAnswer.{PollAnswer}
use Rattle.chk_agent_delivery.specs.declared.answers.Polled.{Polled}
use Rattle.chk_agent_delivery.specs.declared.answers.Posted.{Posted}
use Rattle.chk_agent_delivery.specs.Scripts as script
use Rattle.chk_agent_delivery.specs.Scripts.{AsksReply, IsPolled, IsPollReplied, IsPosted, IsPostReplied}
use Rattle.chk_agent_delivery.specs.States.{State as Delivery, address_now}
use Rattle.chk_agent_delivery.specs.Turns.{IsFrontToSend, asked_stems}
use Rattle.chk_agent_delivery.proofs.Members.{in_map, in_take}
use Rattle.chk_agent.specs.declared.answers.AgentFault.{AgentFault}
use Rattle.chk_agent.specs.States.{State}
use Rattle.chk_agent.specs.Turns.{GetsLengths, GetsPostReply, Polls, Posts}
use Rattle.chk_exchange.specs.declared.fault.ExchangeFault.{ExchangeFault}
use Rattle.chk_exchange.specs.Exchanges as inside
use Rattle.chk_exchange.specs.Exchanges.{Answers, EndsPoll, EndsPost, PollsInside, PostsInside, Responds, SendsPoll, SendsPost, Serves, Takes}
use Rattle.chk_round.specs.Sending.{QueueBelow, SendsBelow}
use Rattle.chk_round.proofs.NonePast.{apart_none, call_none_past, front_sent, over, poll_sent, quiet_none, sends_none, sends_then, works_none_past}
use Rattle.chk_round.proofs.QueueBelow.{lengths_below, polls_below, posts_below, replies_below}

-- a collector isn't the agent of a stream
abbrev collects : Role → Type 0
collects Collector = Unit {0}
collects role = ⊥

pub collector_apart : (s : Stream) (who : Who) → who.role ≡ Collector → who ≡ agent_of s → ⊥
collector_apart s who role is = subst collects (sym role ∙ ap (λ (w : Who). w.role) is) tt

module _ (s : Stream) (end : ℕ) (stamped : List (List ℕ)) (started : List Who)
    (one : Contains started (agent_of s)) where
  -- ---- the agent's calls

  -- the chunks of a front that waits
  front_low : (d : Delivery) (front : List OwnedChunk) → IsFrontToSend d front
      → ((c : OwnedChunk) → Contains d.queue.chunks c → IsTrue (is_of s (chunk_of c))
      → chunk_end (chunk_of c) ≤ end)
      → (c : Chunk) → Contains (chunks_of front) c → IsTrue (is_of s c) → chunk_end c ≤ end
  front_low d front is low c at of =
      let m = in_map chunk_of front c at in
      let waits : Contains d.queue.chunks m.0 =
      in_take _ d.queue.chunks m.0
      (subst (λ (cs : List OwnedChunk). Contains cs m.0) is.longest.is m.1) in
      subst (λ (k : Chunk). chunk_end k ≤ end) m.2
      (low m.0 waits (subst (λ (k : Chunk). IsTrue (is_of s k)) (sym m.2) of))

  posted_none : {who : Who} {d e : Delivery} {given : Result Posted Wanting}
      {old new : Option History}
      → IsPosted who d given e old new
      → ((c : OwnedChunk) → Contains d.queue.chunks c → IsTrue (is_of s (chunk_of c))
      → chunk_end (chunk_of c) ≤ end)
      → Adds old new (SendsBelow stamped started s end)
  posted_none (script.empty is) low = sends_none s end stamped started _
  posted_none (script.no_rows some is) low = sends_none s end stamped started _
  posted_none {who = who} {d = d} (script.sent front bytes m is written call) low =
      front_sent s end stamped started one who (address_now d.ring) bytes (chunks_of front)
      (Ok m) written
      (front_low d front is low) call
  posted_none {who = who} {d = d} (script.failed front bytes is written call) low =
      front_sent s end stamped started one who (address_now d.ring) bytes (chunks_of front)
      (Err Failed) written
      (front_low d front is low) call
  posted_none (script.unsent fault) low = sends_none s end stamped started _
  posted_none {who = who} {d = d} (script.refused fault front bytes is written call) low =
      front_sent s end stamped started one who (address_now d.ring) bytes (chunks_of front)
      (Err no_memory) written
      (front_low d front is low) call

  -- a reply is asked for
  asks_none : (who : Who) (m : ℕ) (given : Result (List ℕ) CallFault) {old new : Option History}
      → AsksReply who m given old new → Adds old new (SendsBelow stamped started s end)
  asks_none who m given call =
      call_none_past s end stamped started one (answered bytes_given given)
      (λ answer files logs. quiet_none s end
      (own_step (asked who Got [] m 0) answer files logs) refl) call

  replied_none : {who : Who} {now : ℕ} {d e : Delivery} {given : Result Answered Wanting}
      {old new : Option History}
      → IsPostReplied who now d given e old new → Adds old new (SendsBelow stamped started s end)
  replied_none (script.nothing is) = sends_none s end stamped started _
  replied_none {who = who} (script.got p bytes is call takes) =
      asks_none who p.message (Ok bytes) call
  replied_none {who = who} (script.silent p is call) = asks_none who p.message (Err Failed) call
  replied_none {who = who} (script.wanting fault p is call) =
      asks_none who p.message (Err no_memory) call

  polled_none : {who : Who} {d e : Delivery} {given : Result Polled Wanting}
      {old new : Option History}
      → IsPolled who d given e old new → Adds old new (SendsBelow stamped started s end)
  polled_none (script.none is) = sends_none s end stamped started _
  polled_none {who = who} {d = d} (script.sent bytes m written call) =
      poll_sent s end stamped started one who (address_now d.ring) bytes (asked_stems d.table)
      (Ok m) written call
  polled_none {who = who} {d = d} (script.failed bytes written call) =
      poll_sent s end stamped started one who (address_now d.ring) bytes (asked_stems d.table)
      (Err Failed) written call
  polled_none (script.unsent fault) = sends_none s end stamped started _
  polled_none {who = who} {d = d} (script.refused fault bytes written call) =
      poll_sent s end stamped started one who (address_now d.ring) bytes (asked_stems d.table)
      (Err no_memory) written call

  answered_none : {who : Who} {d e : Delivery} {given : Result PollAnswer Wanting}
      {old new : Option History}
      → IsPollReplied who d given e old new → Adds old new (SendsBelow stamped started s end)
  answered_none (script.nothing is) = sends_none s end stamped started _
  answered_none {who = who} (script.got p bytes is call takes) =
      asks_none who p.message (Ok bytes) call
  answered_none {who = who} (script.silent p is call) = asks_none who p.message (Err Failed) call
  answered_none {who = who} (script.wanting fault p is call) =
      asks_none who p.message (Err no_memory) call

  pub posts_none : {a b : State} {result : Result Posted AgentFault} {old new : Option History}
      → Posts a result b old new → QueueBelow s end a
      → Adds old new (SendsBelow stamped started s end)
  posts_none p low = posted_none p.made low

  pub replies_none : {now : ℕ} {a b : State} {result : Result Answered AgentFault}
      {old new : Option History}
      → GetsPostReply now a result b old new → Adds old new (SendsBelow stamped started s end)
  replies_none p = replied_none p.made

  pub polls_none : {a b : State} {result : Result Polled AgentFault} {old new : Option History}
      → Polls a result b old new → Adds old new (SendsBelow stamped started s end)
  polls_none p = polled_none p.made

  pub lengths_none : {a b : State} {result : Result PollAnswer AgentFault}
      {old new : Option History}
      → GetsLengths a result b old new → Adds old new (SendsBelow stamped started s end)
  lengths_none p = answered_none p.made

  -- ---- the collector's part

  module _ (who : Who) (role : who.role ≡ Collector) where
    takes_none : (given : Result (Option Taking) CallFault) {old new : Option History}
        → Takes who given old new
        → Adds old new (SendsBelow stamped started s end)
    takes_none given told =
        adds_as (SendsBelow stamped started s end) told
        (λ added history x others. over s end stamped started one
        (λ before step. SendsNonePast s end step)
        (λ before step y. y) added history others
        (call_owned (λ before step. SendsNonePast s end step) (answered (taking_given x.0) given)
        (λ before answer files logs running. apart_none s end
        (own_step (asked who Take (self_address ∷ []) 0 0) answer files logs)
        (collector_apart s who role)) x.1))

    answers_none : (t : ℕ) (reply : List ℕ) (given : Result (Unit {0}) CallFault)
        {old new : Option History}
        → Answers who t reply given old new → Adds old new (SendsBelow stamped started s end)
    answers_none t reply given told =
        call_none_past s end stamped started one (answered plain given)
        (λ answer files logs. apart_none s end
        (own_step (asked who Answer (reply ∷ []) t 0) answer files logs)
        (collector_apart s who role)) told

    responds_none : {sinks u : Sinks} {t : ℕ} {request : List ℕ}
        {result : Result (Option ExchangeFault) ExchangeFault}
        {old new : Option History} → Responds who sinks t request result u old new
        → Adds old new (SendsBelow stamped started s end)
    responds_none {sinks = sinks} (inside.unreplied x) =
        works_none_past s end stamped started one (process sinks)
        (collector_apart s (process sinks) refl) x.own
    responds_none {sinks = sinks} {t = t} (inside.unsent reply fault given x is call) =
        sends_then s end stamped started
        (works_none_past s end stamped started one (process sinks)
        (collector_apart s (process sinks) refl) x.own)
        (answers_none t reply given call)
    responds_none {sinks = sinks} {t = t} (inside.unread reply x is call) =
        sends_then s end stamped started
        (works_none_past s end stamped started one (process sinks)
        (collector_apart s (process sinks) refl) x.own)
        (answers_none t reply (Ok tt) call)
    responds_none {sinks = sinks} {t = t} (inside.sent reply made x is call) =
        sends_then s end stamped started
        (works_none_past s end stamped started one (process sinks)
        (collector_apart s (process sinks) refl) x.own)
        (answers_none t reply (Ok tt) call)

    pub serves_none : {sinks u : Sinks} {result : Result (Option ExchangeFault) ExchangeFault}
        {old new : Option History}
        → Serves who sinks result u old new → Adds old new (SendsBelow stamped started s end)
    serves_none (inside.untaken fault given is call) = takes_none given call
    serves_none (inside.none call) = takes_none (Ok None) call
    serves_none (inside.taken taking call more) =
        sends_then s end stamped started (takes_none (Ok (Some taking)) call) (responds_none more)

  -- ---- a message inside

  sent_post_none : {a b : State} {result : Result (Unit {0}) ExchangeFault}
      {old new : Option History}
      → SendsPost a result b old new → QueueBelow s end a
      → Adds old new (SendsBelow stamped started s end)
  sent_post_none (inside.sent count p) low = posts_none p low
  sent_post_none (inside.failed p) low = posts_none p low
  sent_post_none (inside.unsent p) low = posts_none p low

  ended_post_none : {now count : ℕ} {made : Option ExchangeFault} {a b : State}
      {result : Result (Unit {0}) ExchangeFault}
      {old new : Option History} → EndsPost now count a made result b old new
      → Adds old new (SendsBelow stamped started s end)
  ended_post_none (inside.ungot p) = replies_none p
  ended_post_none (inside.silent p) = replies_none p
  ended_post_none (inside.taken is p) = replies_none p
  ended_post_none (inside.told fault answer is which p) = replies_none p
  ended_post_none (inside.refused code other p) = replies_none p

  sent_poll_none : {a b : State} {result : Result (Unit {0}) ExchangeFault}
      {old new : Option History}
      → SendsPoll a result b old new → Adds old new (SendsBelow stamped started s end)
  sent_poll_none (inside.sent count p) = polls_none p
  sent_poll_none (inside.failed p) = polls_none p
  sent_poll_none (inside.unsent p) = polls_none p

  ended_poll_none : {count : ℕ} {made : Option ExchangeFault} {a b : State}
      {result : Result (Option Below) ExchangeFault}
      {old new : Option History} → EndsPoll count a made result b old new
      → Adds old new (SendsBelow stamped started s end)
  ended_poll_none (inside.ungot p) = lengths_none p
  ended_poll_none (inside.silent p) = lengths_none p
  ended_poll_none (inside.taken below is p) = lengths_none p
  ended_poll_none (inside.told fault answer is which p) = lengths_none p
  ended_poll_none (inside.refused code other p) = lengths_none p

  module _ (who : Who) (role : who.role ≡ Collector) where
    pub post_none_past : {now : ℕ} {sinks u : Sinks} {a b : State}
        {result : Result (Unit {0}) ExchangeFault}
        {old new : Option History} → PostsInside who now sinks a result u b old new
        → QueueBelow s end a
        → Adds old new (SendsBelow stamped started s end)
    post_none_past (inside.unsent fault sends) low = sent_post_none sends low
    post_none_past (inside.unserved count fault posts serves) low =
        sends_then s end stamped started (posts_none posts low) (serves_none who role serves)
    post_none_past (inside.ended count made posts serves ends) low =
        sends_then s end stamped started (posts_none posts low)
        (sends_then s end stamped started (serves_none who role serves) (ended_post_none ends))

    pub poll_none_past : {sinks u : Sinks} {a b : State}
        {result : Result (Option Below) ExchangeFault}
        {old new : Option History} → PollsInside who sinks a result u b old new
        → Adds old new (SendsBelow stamped started s end)
    poll_none_past (inside.unsent fault sends) = sent_poll_none sends
    poll_none_past (inside.unserved count fault polls serves) =
        sends_then s end stamped started (polls_none polls) (serves_none who role serves)
    poll_none_past (inside.ended count made polls serves ends) =
        sends_then s end stamped started (polls_none polls)
        (sends_then s end stamped started (serves_none who role serves) (ended_poll_none ends))

-- ---- what waits behind it

module _ (s : Stream) (end : ℕ) where
  sent_post_below : {a b : State} {result : Result (Unit {0}) ExchangeFault}
      {old new : Option History}
      → SendsPost a result b old new → QueueBelow s end a → QueueBelow s end b
  sent_post_below (inside.sent count p) low = posts_below s end p low
  sent_post_below (inside.failed p) low = posts_below s end p low
  sent_post_below (inside.unsent p) low = posts_below s end p low

  ended_post_below : {now count : ℕ} {made : Option ExchangeFault} {a b : State}
      {result : Result (Unit {0}) ExchangeFault}
      {old new : Option History} → EndsPost now count a made result b old new
      → QueueBelow s end a → QueueBelow s end b
  ended_post_below (inside.ungot p) low = replies_below s end p low
  ended_post_below (inside.silent p) low = replies_below s end p low
  ended_post_below (inside.taken is p) low = replies_below s end p low
  ended_post_below (inside.told fault answer is which p) low = replies_below s end p low
  ended_post_below (inside.refused code other p) low = replies_below s end p low

  sent_poll_below : {a b : State} {result : Result (Unit {0}) ExchangeFault}
      {old new : Option History}
      → SendsPoll a result b old new → QueueBelow s end a → QueueBelow s end b
  sent_poll_below (inside.sent count p) low = polls_below s end p low
  sent_poll_below (inside.failed p) low = polls_below s end p low
  sent_poll_below (inside.unsent p) low = polls_below s end p low

  ended_poll_below : {count : ℕ} {made : Option ExchangeFault} {a b : State}
      {result : Result (Option Below) ExchangeFault}
      {old new : Option History} → EndsPoll count a made result b old new
      → QueueBelow s end a → QueueBelow s end b
  ended_poll_below (inside.ungot p) low = lengths_below s end p low
  ended_poll_below (inside.silent p) low = lengths_below s end p low
  ended_poll_below (inside.taken below is p) low = lengths_below s end p low
  ended_poll_below (inside.told fault answer is which p) low = lengths_below s end p low
  ended_poll_below (inside.refused code other p) low = lengths_below s end p low

  pub post_below : {who : Who} {now : ℕ} {sinks u : Sinks} {a b : State}
      {result : Result (Unit {0}) ExchangeFault}
      {old new : Option History} → PostsInside who now sinks a result u b old new
      → QueueBelow s end a → QueueBelow s end b
  post_below (inside.unsent fault sends) low = sent_post_below sends low
  post_below (inside.unserved count fault posts serves) low = posts_below s end posts low
  post_below (inside.ended count made posts serves ends) low =
      ended_post_below ends (posts_below s end posts low)

  pub poll_below : {who : Who} {sinks u : Sinks} {a b : State}
      {result : Result (Option Below) ExchangeFault}
      {old new : Option History} → PollsInside who sinks a result u b old new
      → QueueBelow s end a → QueueBelow s end b
  poll_below (inside.unsent fault sends) low = sent_poll_below sends low
  poll_below (inside.unserved count fault polls serves) low = polls_below s end polls low
  poll_below (inside.ended count made polls serves ends) low =
      ended_poll_below ends (polls_below s end polls low)
