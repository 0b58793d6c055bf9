-- Which calls an exchange makes, and how the sinks and the agent go on by their answers.
use Rattle.std.specs.Prelude.{◌≡◌, ◌⊎◌, ℕ, List, [], ◌∷◌, Option, Some, None, Result, Ok, Err}
use Rattle.chk_site.specs.declared.acts.Who.{Who}
use Rattle.chk_site.specs.declared.acts.Call.TheVariants.{Take, Answer, Send, Got}
use Rattle.chk_site.specs.declared.acts.CallFault.{CallFault}
use Rattle.chk_site.specs.declared.suffixes.Taking.{Taking}
use Rattle.chk_site.specs.History.{History}
use Rattle.chk_site.specs.Messages.{self_address}
use Rattle.chk_site.specs.Site.{Adds, asked, answered, plain, taking_given, Calls, CallsSome}
use Rattle.chk_sink.specs.States.{State as Sinks}
use Rattle.chk_collector.specs.Handled.{Unanswered}
use Rattle.chk_collector.specs.Outcomes.{Replied}
use Rattle.chk_agent_delivery.specs.declared.answers.Answered.{Answered}
use Rattle.chk_agent_delivery.specs.declared.answers.Answered.TheVariants.{Taken, Refused as post_refused, Silent}
use Rattle.chk_agent_delivery.specs.declared.answers.Below.{Below}
use Rattle.chk_agent_delivery.specs.declared.answers.Polled.TheVariants.{Sent as poll_sent, Failed as poll_failed}
use Rattle.chk_agent_delivery.specs.declared.answers.PollAnswer.{PollAnswer}
use Rattle.chk_agent_delivery.specs.declared.answers.PollAnswer.TheVariants.{Lengths, Refused as poll_refused, Silent as poll_silent}
use Rattle.chk_agent_delivery.specs.declared.answers.Posted.TheVariants.{Sent, Failed as post_failed}
use Rattle.chk_agent.specs.declared.answers.AgentFault.TheVariants.{NoMemory as wanting}
use Rattle.chk_agent.specs.States.{State as Agents}
use Rattle.chk_agent.specs.Turns.{Posts, GetsPostReply, Polls, GetsLengths}
use Rattle.chk_exchange.specs.declared.fault.ExchangeFault.{ExchangeFault}
use Rattle.chk_exchange.specs.declared.fault.ExchangeFault.TheVariants.{Outside, NoMemory, Refused}
use Rattle.chk_exchange.specs.Faults.{IsMade, IsUnread, EndsBy, IsOtherCode}

-- ---- the collector's part

-- the collector asked for a message at the mailbox, without waiting, and the site answered this
abbrev pub Takes : Who → Result (Option Taking) CallFault → Option History → Option History → Type 0
Takes who given old new =
    Adds old new
    (CallsSome (λ of. asked who Take (self_address ∷ []) 0 0)
    (λ of. answered (taking_given of) given))

-- it answered the taking, and the site answered this
abbrev pub Answers : Who → ℕ → List ℕ → Result (Unit {0}) CallFault → Option History
    → Option History → Type 0
Answers who t reply given old new =
    Adds old new (Calls (asked who Answer (reply ∷ []) t 0) (answered plain given))

-- The request is handled and answered once with the reply that was made. What comes of it is the
-- fault that this reply tells, where it tells one.
pub data Responds (who : Who) (s : Sinks) (t : ℕ) (request : List ℕ)
    : Result (Option ExchangeFault) ExchangeFault → Sinks → Option History → Option History
    → Type 0 where
  unreplied : {u : Sinks} {old new : Option History} → Unanswered request s u old new
      → Responds who s t request (Err NoMemory) u old new
  unsent : {u : Sinks} {old mid new : Option History} {before now : ℕ} (reply : List ℕ)
      (fault : ExchangeFault)
      (given : Result (Unit {0}) CallFault) → Replied request s u before now old mid reply
      → EndsBy Answer given fault
      → Answers who t reply given mid new → Responds who s t request (Err fault) u old new
  unread : {u : Sinks} {old mid new : Option History} {before now : ℕ} (reply : List ℕ)
      (replied : Replied request s u before now old mid reply) → IsUnread reply replied.outcome
      → Answers who t reply (Ok tt) mid new → Responds who s t request (Err NoMemory) u old new
  sent : {u : Sinks} {old mid new : Option History} {before now : ℕ} (reply : List ℕ)
      (made : Option ExchangeFault)
      (replied : Replied request s u before now old mid reply) → IsMade replied.outcome made
      → Answers who t reply (Ok tt) mid new → Responds who s t request (Ok made) u old new

-- The message that waits is taken, handled and answered. Where none waits, nothing is told.
pub data Serves (who : Who) (s : Sinks)
    : Result (Option ExchangeFault) ExchangeFault → Sinks → Option History → Option History
    → Type 0 where
  untaken : {old new : Option History} (fault : ExchangeFault)
      (given : Result (Option Taking) CallFault)
      → EndsBy Take given fault → Takes who given old new → Serves who s (Err fault) s old new
  none : {old new : Option History} → Takes who (Ok None) old new → Serves who s (Ok None) s old new
  taken : {result : Result (Option ExchangeFault) ExchangeFault} {u : Sinks}
      {old mid new : Option History}
      (taking : Taking) → Takes who (Ok (Some taking)) old mid
      → Responds who s taking.number taking.bytes result u mid new → Serves who s result u old new

-- ---- a post

-- the agent sends a post
pub data SendsPost (a : Agents) : Result (Unit {0}) ExchangeFault → Agents → Option History
    → Option History → Type 0 where
  sent : {b : Agents} {old new : Option History} (count : ℕ) → Posts a (Ok (Sent count)) b old new
      → SendsPost a (Ok tt) b old new
  failed : {b : Agents} {old new : Option History} → Posts a (Ok post_failed) b old new
      → SendsPost a (Err (Outside Send)) b old new
  unsent : {b : Agents} {old new : Option History} → Posts a (Err wanting) b old new
      → SendsPost a (Err NoMemory) b old new

-- The agent asks for the reply to its post of so many chunks. A made reply that told a fault
-- decides, unless what was got is no good reply and of another code.
pub data EndsPost (now count : ℕ) (a : Agents) (made : Option ExchangeFault)
    : Result (Unit {0}) ExchangeFault → Agents → Option History → Option History → Type 0 where
  ungot : {b : Agents} {old new : Option History} → GetsPostReply now a (Err wanting) b old new
      → EndsPost now count a made (Err NoMemory) b old new
  silent : {b : Agents} {old new : Option History} → GetsPostReply now a (Ok Silent) b old new
      → EndsPost now count a made (Err (Outside Got)) b old new
  taken : {b : Agents} {old new : Option History} → made ≡ None
      → GetsPostReply now a (Ok (Taken count)) b old new
      → EndsPost now count a made (Ok tt) b old new
  told : {b : Agents} {old new : Option History} (fault : ExchangeFault) (answer : Answered)
      → made ≡ Some fault
      → (answer ≡ Taken count) ⊎ (answer ≡ post_refused 503)
      → GetsPostReply now a (Ok answer) b old new
      → EndsPost now count a made (Err fault) b old new
  refused : {b : Agents} {old new : Option History} (code : ℕ) → IsOtherCode made code
      → GetsPostReply now a (Ok (post_refused code)) b old new
      → EndsPost now count a made (Err (Refused code)) b old new

-- A post is sent, the collector serves it, and the agent gets the reply. At Ok it was answered for
-- all that was sent.
pub data PostsInside (who : Who) (now : ℕ) (s : Sinks) (a : Agents)
    : Result (Unit {0}) ExchangeFault → Sinks → Agents → Option History → Option History
    → Type 0 where
  unsent : {b : Agents} {old new : Option History} (fault : ExchangeFault)
      → SendsPost a (Err fault) b old new
      → PostsInside who now s a (Err fault) s b old new
  unserved : {b : Agents} {u : Sinks} {old mid new : Option History} (count : ℕ)
      (fault : ExchangeFault)
      → Posts a (Ok (Sent count)) b old mid → Serves who s (Err fault) u mid new
      → PostsInside who now s a (Err fault) u b old new
  ended : {result : Result (Unit {0}) ExchangeFault} {b c : Agents} {u : Sinks}
      {old mid next new : Option History}
      (count : ℕ) (made : Option ExchangeFault) → Posts a (Ok (Sent count)) b old mid
      → Serves who s (Ok made) u mid next → EndsPost now count b made result c next new
      → PostsInside who now s a result u c old new

-- ---- a poll

-- the agent sends a poll
pub data SendsPoll (a : Agents) : Result (Unit {0}) ExchangeFault → Agents → Option History
    → Option History → Type 0 where
  sent : {b : Agents} {old new : Option History} (count : ℕ)
      → Polls a (Ok (poll_sent count)) b old new
      → SendsPoll a (Ok tt) b old new
  failed : {b : Agents} {old new : Option History} → Polls a (Ok poll_failed) b old new
      → SendsPoll a (Err (Outside Send)) b old new
  unsent : {b : Agents} {old new : Option History} → Polls a (Err wanting) b old new
      → SendsPoll a (Err NoMemory) b old new

-- the agent asks for the reply to its poll of so many sinks; as for a post
pub data EndsPoll (count : ℕ) (a : Agents) (made : Option ExchangeFault)
    : Result (Option Below) ExchangeFault → Agents → Option History → Option History → Type 0 where
  ungot : {b : Agents} {old new : Option History} → GetsLengths a (Err wanting) b old new
      → EndsPoll count a made (Err NoMemory) b old new
  silent : {b : Agents} {old new : Option History} → GetsLengths a (Ok poll_silent) b old new
      → EndsPoll count a made (Err (Outside Got)) b old new
  taken : {b : Agents} {old new : Option History} (below : Option Below) → made ≡ None
      → GetsLengths a (Ok (Lengths count below)) b old new
      → EndsPoll count a made (Ok below) b old new
  told : {b : Agents} {old new : Option History} (fault : ExchangeFault) (answer : PollAnswer)
      → made ≡ Some fault
      → ((below : Option Below) × (answer ≡ Lengths count below)) ⊎ (answer ≡ poll_refused 503)
      → GetsLengths a (Ok answer) b old new → EndsPoll count a made (Err fault) b old new
  refused : {b : Agents} {old new : Option History} (code : ℕ) → IsOtherCode made code
      → GetsLengths a (Ok (poll_refused code)) b old new
      → EndsPoll count a made (Err (Refused code)) b old new

-- A poll is sent, the collector serves it, and the agent gets the reply. At Ok a length came for
-- each sink that was asked for.
pub data PollsInside (who : Who) (s : Sinks) (a : Agents)
    : Result (Option Below) ExchangeFault → Sinks → Agents → Option History → Option History
    → Type 0 where
  unsent : {b : Agents} {old new : Option History} (fault : ExchangeFault)
      → SendsPoll a (Err fault) b old new
      → PollsInside who s a (Err fault) s b old new
  unserved : {b : Agents} {u : Sinks} {old mid new : Option History} (count : ℕ)
      (fault : ExchangeFault)
      → Polls a (Ok (poll_sent count)) b old mid → Serves who s (Err fault) u mid new
      → PollsInside who s a (Err fault) u b old new
  ended : {result : Result (Option Below) ExchangeFault} {b c : Agents} {u : Sinks}
      {old mid next new : Option History} (count : ℕ) (made : Option ExchangeFault)
      → Polls a (Ok (poll_sent count)) b old mid → Serves who s (Ok made) u mid next
      → EndsPoll count b made result c next new → PollsInside who s a result u c old new
