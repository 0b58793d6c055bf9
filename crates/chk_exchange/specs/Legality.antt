-- What an exchange leads to, from a legal history on.
use Rattle.std.specs.Prelude.{◌≡◌, ℕ, List, length, Option, Some, None, Result, Ok, Err}
use Rattle.chk_bytes.specs.Stems.{Stem}
use Rattle.chk_site.specs.History.{History}
use Rattle.chk_chunk.specs.Keys.{Chunk}
use Rattle.chk_http_grammar.specs.Messages.{Ack, IsReply, IsGoodReply, WrittenPost, WrittenPoll}
use Rattle.chk_world.specs.Agents.{AreFor}
use Rattle.chk_world.specs.Mailbox.{IsEmptyFor, Waits, IsInHand}
use Rattle.chk_world.specs.Places.{AtTold}
use Rattle.chk_world.specs.Rules.{Legal}
use Rattle.chk_sink.specs.Held.{Holds, Matches as SinksMatch}
use Rattle.chk_sink.specs.States.{State as Sinks, process}
use Rattle.chk_collector_run.specs.Legality.{HasTaken}
use Rattle.chk_agent.specs.States.{State as Agents}
use Rattle.chk_agent.specs.Facts.{Matches as AgentMatches}
use Rattle.chk_exchange.specs.declared.fault.ExchangeFault.{ExchangeFault}
use Rattle.chk_exchange.specs.declared.fault.ExchangeFault.TheVariants.{Damaged, Refused}

-- the history is as the sinks and the agent know it, and no message waits for the collector in the
-- mailbox
abbrev pub BothAt : List (List ℕ) → Sinks → Agents → History → Type 0
BothAt stamped s a history =
    SinksMatch stamped s history × (AgentMatches stamped a history × IsEmptyFor (process s) history)

-- At Ok the same holds of the states after the exchange. At another end the history is legal, and
-- where the site wasn't stopped the agent gets just what the collector made, which found none of
-- its files damaged.
abbrev pub Exchanged : {T : Type 0} → List (List ℕ) → Sinks → Agents → Result T ExchangeFault
    → History → Type 0
Exchanged stamped s a (Ok value) history = BothAt stamped s a history
Exchanged stamped s a (Err (Refused code)) history = AtTold stamped (process s) (λ front. ⊥) history
Exchanged stamped s a (Err (Damaged name at)) history =
    AtTold stamped (process s) (λ front. ⊥) history
Exchanged stamped s a (Err fault) history = Legal stamped history

-- ---- the collector's part

-- a made reply tells no other faults where the site keeps its files
abbrev pub IsSoundly : ExchangeFault → Type 0
IsSoundly (Damaged name at) = ⊥
IsSoundly (Refused code) = ⊥
IsSoundly fault = Unit {0}

-- What the reply to a message is, where these bytes are all of the message and the reply tells this
-- fault. A reply that tells none is the good one: it has a line for each chunk of a post, and for
-- each sink of a poll.
pub record IsReplyTo (bytes reply : List ℕ) (made : Option ExchangeFault) : Type 0 where
  pub soundly : (fault : ExchangeFault) → made ≡ Some fault → IsSoundly fault
  pub coded : (fault : ExchangeFault) → made ≡ Some fault → (body : List ℕ) × IsReply 503 body reply
  pub post : made ≡ None → (address : List ℕ) (chunks : List Chunk)
      → WrittenPost address chunks bytes
      → (acks : List Ack) × IsGoodReply acks reply × (length acks ≡ length chunks)
  pub poll : made ≡ None → (address : List ℕ) (stems : List Stem) → WrittenPoll address stems bytes
      → (acks : List Ack) × IsGoodReply acks reply × AreFor stems acks

-- what the collector holds behind its reply, which is so where the site wasn't stopped
pub record HoldsBehind (s : Sinks) (bytes reply : List ℕ) (made : Option ExchangeFault)
    (history : History) : Type 0 where
  pub holds : Holds s history
  pub reply_to : IsReplyTo bytes reply made

-- the agent and the sinks know the history, and the message of these bytes waits alone
abbrev pub AllWaiting : List (List ℕ) → Sinks → Agents → ℕ → List ℕ → History → Type 0
AllWaiting stamped s a m bytes history =
    AgentMatches stamped a history
    × (SinksMatch stamped s history × Waits (process s) m bytes history)

-- the message was taken, with these bytes, and has no answer
abbrev pub AllTaken : List (List ℕ) → Sinks → Agents → ℕ → ℕ → List ℕ → History → Type 0
AllTaken stamped s a m taking bytes history =
    AgentMatches stamped a history
    × (HasTaken stamped s taking bytes history × IsInHand (process s) m taking None history)

-- the message was taken and has this answer alone, which is one as is said of the message
pub record IsServed (stamped : List (List ℕ)) (s : Sinks) (a : Agents) (m : ℕ) (bytes : List ℕ)
    (Such : List ℕ → List ℕ → Type 0) (made : Option ExchangeFault) (history : History)
    : Type 0 where
  pub agent : AgentMatches stamped a history
  pub reply : List ℕ
  pub taking : ℕ
  pub sinks : AtTold stamped (process s) (HoldsBehind s bytes reply made) history
  pub in_hand : IsInHand (process s) m taking (Some reply) history
  pub such : Such bytes reply

abbrev pub Served : List (List ℕ) → Sinks → Agents → ℕ → List ℕ → (List ℕ → List ℕ → Type 0)
    → Result (Option ExchangeFault) ExchangeFault → History → Type 0
Served stamped s a m bytes Such (Ok made) history =
    IsServed stamped s a m bytes Such made history
Served stamped s a m bytes Such (Err fault) history = Legal stamped history
