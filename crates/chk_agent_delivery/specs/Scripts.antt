-- The calls that posts, polls and their replies make, and what they make of the state.
use Rattle.std.specs.Prelude.{◌≡◌, ◌≢◌, ◌⊎◌, ℕ, ◌≤◌, Bool, true, false, List, [], ◌∷◌, length, Option, Some, None, Result, Ok, Err}
use Rattle.chk_bytes.specs.Stems.{Stem}
use Rattle.chk_bytes.specs.declared.NoMemory.{NoMemory}
use Rattle.chk_site.specs.declared.acts.Who.{Who}
use Rattle.chk_site.specs.declared.acts.Call.TheVariants.{Send, Got}
use Rattle.chk_site.specs.declared.acts.CallFault.{CallFault}
use Rattle.chk_site.specs.declared.acts.CallFault.TheVariants.{Failed, NoMemory as no_memory}
use Rattle.chk_site.specs.History.{History}
use Rattle.chk_site.specs.Site.{Adds, asked, answered, sized, bytes_given, Calls, CallsSome, Rose}
use Rattle.chk_chunk.specs.declared.Chunk.{Chunk}
use Rattle.chk_chunk.specs.Lent.{chunks_of}
use Rattle.chk_http_grammar.specs.Messages.{Ack, IsGoodReply, IsReply, WrittenPost, WrittenPoll}
use Rattle.chk_acks.specs.Table.{Table}
use Rattle.chk_world.specs.Agents.{AreFor}
use Rattle.chk_agent_delivery.specs.declared.answers.Posted.{Posted}
use Rattle.chk_agent_delivery.specs.declared.answers.Posted.TheVariants.{Sent, Empty, NoRows, Failed as post_failed}
use Rattle.chk_agent_delivery.specs.declared.answers.Answered.{Answered}
use Rattle.chk_agent_delivery.specs.declared.answers.Answered.TheVariants.{Taken, Refused, Silent, Nothing}
use Rattle.chk_agent_delivery.specs.declared.answers.Polled.{Polled}
use Rattle.chk_agent_delivery.specs.declared.answers.Polled.TheVariants.{Sent as poll_sent, NoneWaiting, Failed as poll_failed}
use Rattle.chk_agent_delivery.specs.declared.answers.PollAnswer.{PollAnswer}
use Rattle.chk_agent_delivery.specs.declared.answers.PollAnswer.TheVariants.{Lengths, Refused as poll_refusal, Silent as poll_silent, Nothing as no_poll}
use Rattle.chk_agent_delivery.specs.States.{Post, Poll, State, free_rows, address_now}
use Rattle.chk_agent_delivery.specs.Turns.{IsFrontToSend, without_post, posted, post_refused, post_taken, asked_stems, without_poll, asked_for, poll_refused, SeesAll, poll_taken, below_in}

-- these bytes were handed to the site for an address, and it answered this
abbrev pub Sends : Who → List ℕ → List ℕ → Result ℕ CallFault → Option History → Option History → Type 0
Sends who address bytes given old new =
    Adds old new (CallsSome (λ n. asked who Send (address ∷ bytes ∷ []) n 0) (λ n. answered sized given))

-- the reply to a message was asked for, and the site answered this
abbrev pub AsksReply : Who → ℕ → Result (List ℕ) CallFault → Option History → Option History → Type 0
AsksReply who m given old new = Adds old new (Calls (asked who Got [] m 0) (answered bytes_given given))

-- the next post of the state, and how many chunks it has
pub record IsNextPost (s : State) (bytes : List ℕ) (count : ℕ) : Type 0 where
  pub front : List Chunk
  pub is_front : IsFrontToSend s front
  pub written : WrittenPost (address_now s.ring) (chunks_of front) bytes
  pub count_is : count ≡ length front

-- ---- the post

-- The longest front that fits is sent to the address in use, where chunks wait and a row is free. Without memory the
-- state stays.
pub data IsPosted (who : Who) (s : State) : Result Posted NoMemory → State → Option History → Option History → Type 0 where
  empty : {now : Option History} → s.queue.chunks ≡ []
      → IsPosted who s (Ok Empty) (without_post s) now now
  no_rows : {now : Option History} → s.queue.chunks ≢ [] → free_rows s ≡ 0
      → IsPosted who s (Ok NoRows) (without_post s) now now
  sent : {old new : Option History} (front : List Chunk) (bytes : List ℕ) (m : ℕ) → IsFrontToSend s front
      → WrittenPost (address_now s.ring) (chunks_of front) bytes
      → Sends who (address_now s.ring) bytes (Ok m) old new
      → IsPosted who s (Ok (Sent (length front))) (posted m (length front) s) old new
  failed : {old new : Option History} (front : List Chunk) (bytes : List ℕ) → IsFrontToSend s front
      → WrittenPost (address_now s.ring) (chunks_of front) bytes
      → Sends who (address_now s.ring) bytes (Err Failed) old new
      → IsPosted who s (Ok post_failed) (post_refused s) old new
  unsent : {now : Option History} (fault : NoMemory) → IsPosted who s (Err fault) s now now
  refused : {old new : Option History} (fault : NoMemory) (front : List Chunk) (bytes : List ℕ) → IsFrontToSend s front
      → WrittenPost (address_now s.ring) (chunks_of front) bytes
      → Sends who (address_now s.ring) bytes (Err no_memory) old new
      → IsPosted who s (Err fault) s old new

-- the reply to a post of so many chunks is no good one
abbrev pub IsNoPostReply : ℕ → List ℕ → Type 0
IsNoPostReply count bytes = (acks : List Ack) → IsGoodReply acks bytes → length acks ≡ count → ⊥

-- the status code of a reply, or 0 where it can't be read
abbrev pub IsCode : List ℕ → ℕ → Type 0
IsCode bytes code =
    ((body : List ℕ) × IsReply code body bytes) ⊎ ((code ≡ 0) × ((k : ℕ) (body : List ℕ) → IsReply k body bytes → ⊥))

-- what was got for a post of so many chunks is taken: a good reply, or another one
pub data TakesPostReply (now count : ℕ) (bytes : List ℕ) (s : State) : Answered → State → Type 0 where
  good : (acks : List Ack) → IsGoodReply acks bytes → length acks ≡ count
      → TakesPostReply now count bytes s (Taken count) (post_taken now count acks s)
  bad : (code : ℕ) → IsNoPostReply count bytes → IsCode bytes code
      → TakesPostReply now count bytes s (Refused code) (post_refused s)

-- The reply to the post that is out is asked for.
pub data IsPostReplied (who : Who) (now : ℕ) (s : State) : Result Answered NoMemory → State → Option History → Option History → Type 0 where
  nothing : {at : Option History} → s.post ≡ None → IsPostReplied who now s (Ok Nothing) s at at
  got : {old new : Option History} {answer : Answered} {t : State} (p : Post) (bytes : List ℕ) → s.post ≡ Some p
      → AsksReply who p.message (Ok bytes) old new → TakesPostReply now p.count bytes s answer t
      → IsPostReplied who now s (Ok answer) t old new
  silent : {old new : Option History} (p : Post) → s.post ≡ Some p
      → AsksReply who p.message (Err Failed) old new
      → IsPostReplied who now s (Ok Silent) (post_refused s) old new
  wanting : {old new : Option History} (fault : NoMemory) (p : Post) → s.post ≡ Some p
      → AsksReply who p.message (Err no_memory) old new
      → IsPostReplied who now s (Err fault) s old new

-- ---- the poll

-- The first different sinks with unmarked rows are asked for, at the address in use.
pub data IsPolled (who : Who) (s : State) : Result Polled NoMemory → State → Option History → Option History → Type 0 where
  none : {now : Option History} → asked_stems s.table ≡ [] → IsPolled who s (Ok NoneWaiting) (without_poll s) now now
  sent : {old new : Option History} (bytes : List ℕ) (m : ℕ) → WrittenPoll (address_now s.ring) (asked_stems s.table) bytes
      → Sends who (address_now s.ring) bytes (Ok m) old new
      → IsPolled who s (Ok (poll_sent (length (asked_stems s.table)))) (asked_for m (asked_stems s.table) s) old new
  failed : {old new : Option History} (bytes : List ℕ) → WrittenPoll (address_now s.ring) (asked_stems s.table) bytes
      → Sends who (address_now s.ring) bytes (Err Failed) old new
      → IsPolled who s (Ok poll_failed) (poll_refused s) old new
  unsent : {now : Option History} (fault : NoMemory) → IsPolled who s (Err fault) s now now
  refused : {old new : Option History} (fault : NoMemory) (bytes : List ℕ) → WrittenPoll (address_now s.ring) (asked_stems s.table) bytes
      → Sends who (address_now s.ring) bytes (Err no_memory) old new
      → IsPolled who s (Err fault) s old new

-- the reply to a poll for these sinks is no good one
abbrev pub IsNoPollReply : List Stem → List ℕ → Type 0
IsNoPollReply stems bytes = (lengths : List Ack) → IsGoodReply lengths bytes → AreFor stems lengths → ⊥

-- what was got for a poll of these sinks is taken: a good reply, or another one
pub data TakesPollReply (stems : List Stem) (bytes : List ℕ) (s : State) : PollAnswer → State → Type 0 where
  good : {t : Table} (lengths : List Ack) → IsGoodReply lengths bytes → AreFor stems lengths → SeesAll lengths s.table t
      → TakesPollReply stems bytes s (Lengths (length stems) (below_in lengths t)) (poll_taken t s)
  bad : (code : ℕ) → IsNoPollReply stems bytes → IsCode bytes code
      → TakesPollReply stems bytes s (poll_refusal code) (poll_refused s)

-- The reply to the poll that is out is asked for.
pub data IsPollReplied (who : Who) (s : State) : Result PollAnswer NoMemory → State → Option History → Option History → Type 0 where
  nothing : {at : Option History} → s.poll ≡ None → IsPollReplied who s (Ok no_poll) s at at
  got : {old new : Option History} {answer : PollAnswer} {t : State} (p : Poll) (bytes : List ℕ) → s.poll ≡ Some p
      → AsksReply who p.message (Ok bytes) old new → TakesPollReply p.stems bytes s answer t
      → IsPollReplied who s (Ok answer) t old new
  silent : {old new : Option History} (p : Poll) → s.poll ≡ Some p
      → AsksReply who p.message (Err Failed) old new
      → IsPollReplied who s (Ok poll_silent) (poll_refused s) old new
  wanting : {old new : Option History} (fault : NoMemory) (p : Poll) → s.poll ≡ Some p
      → AsksReply who p.message (Err no_memory) old new
      → IsPollReplied who s (Err fault) s old new

-- ---- the count of faults

-- it rises where a call failed, and stays else
abbrev pub CauseBy : ℕ → ℕ → Bool → Type 0
CauseBy before now true = Rose before now × (before ≤ now)
CauseBy before now false = now ≡ before

abbrev pub post_fails : Result Posted NoMemory → Bool
post_fails (Ok post_failed) = true
post_fails result = false

abbrev pub reply_fails : Result Answered NoMemory → Bool
reply_fails (Ok Silent) = true
reply_fails result = false

abbrev pub poll_fails : Result Polled NoMemory → Bool
poll_fails (Ok poll_failed) = true
poll_fails result = false

abbrev pub lengths_fail : Result PollAnswer NoMemory → Bool
lengths_fail (Ok poll_silent) = true
lengths_fail result = false
