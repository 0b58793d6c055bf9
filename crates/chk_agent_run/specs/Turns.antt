-- A turn of an agent that runs: the control messages, the time, the agent's own turn, and a pause.
use Rattle.std.specs.Prelude.{◌≡◌, ◌⊎◌, ℕ, zero, suc, Bool, List, [], ◌∷◌, Option, Some, None, Result, Ok, Err}
use Rattle.chk_bytes.specs.Words.{parts_at}
use Rattle.chk_site.specs.declared.acts.Who.{Who}
use Rattle.chk_site.specs.declared.acts.Call.TheVariants.{Answer}
use Rattle.chk_site.specs.declared.acts.CallFault.{CallFault}
use Rattle.chk_site.specs.declared.acts.CallFault.TheVariants.{Failed, NoMemory as site_wanting}
use Rattle.chk_site.specs.declared.suffixes.Taking.{Taking}
use Rattle.chk_site.specs.History.{History}
use Rattle.chk_site.specs.Site.{Adds, asked, answered, plain, Calls}
use Rattle.chk_agent.specs.declared.answers.AgentFault.{AgentFault}
use Rattle.chk_agent.specs.declared.answers.AgentFault.TheVariants.{NoMemory}
use Rattle.chk_agent.specs.declared.answers.Reply.{Reply}
use Rattle.chk_agent.specs.declared.answers.Then.{Then}
use Rattle.chk_agent.specs.declared.answers.Then.TheVariants.{Go, Close, End}
use Rattle.chk_agent.specs.States.{State}
use Rattle.chk_agent.specs.Turns.{IsTurned}
use Rattle.chk_agent_run.specs.declared.turn.Ended.{Ended}
use Rattle.chk_agent_run.specs.declared.turn.Ended.TheVariants.{Over, Stopped}
use Rattle.chk_agent_run.specs.Calls.{Took, Clocked, Paused}
use Rattle.chk_agent_run.specs.Closing.{capped}
use Rattle.chk_agent_run.specs.Messages.{IsRead}
use Rattle.chk_agent_run.specs.Lines.{AreRun}
use Rattle.chk_agent_run.specs.Pauses.{waits}

-- ---- the control messages

-- what goes on behind a message: only a line that ends the agent ends more than its message
abbrev pub behind : Then → Then
behind Go = Go
behind Close = Go
behind End = End

-- what an answer's answer is taken for: that it failed is no fault
abbrev pub AnswerGives : Result (Unit {0}) CallFault → Result (Unit {0}) AgentFault → Type 0
AnswerGives (Ok value) result = result ≡ Ok tt
AnswerGives (Err Failed) result = result ≡ Ok tt
AnswerGives (Err site_wanting) result = result ≡ Err NoMemory
AnswerGives (Err fault) result = ⊥

-- one text answers the message
pub record Answers (who : Who) (t : ℕ) (text : List ℕ) (result : Result (Unit {0}) AgentFault) (old new : Option History) : Type 0 where
  pub given : Result (Unit {0}) CallFault
  pub gives : AnswerGives given result
  pub told : Adds old new (Calls (asked who Answer (text ∷ []) t 0) (answered plain given))

-- A message was read, its lines were run, and all their texts answer it at once. Where a piece failed, none of its lines is
-- run and nothing is answered. That the answer failed ends the message alone.
pub data IsControlled (who : Who) (taking : Taking) (s : State) : Result Then AgentFault → State → Option History → Option History → Type 0 where
  broken : {old new : Option History} → IsRead who taking.number (capped taking.bytes) (Ok None) old new
      → IsControlled who taking s (Ok Go) s old new
  unread : {old new : Option History} (fault : AgentFault) → IsRead who taking.number (capped taking.bytes) (Err fault) old new
      → IsControlled who taking s (Err fault) s old new
  unrun : {t : State} {old mid new : Option History} (bytes : List ℕ) (fault : AgentFault)
      → IsRead who taking.number (capped taking.bytes) (Ok (Some bytes)) old mid
      → AreRun (parts_at 10 bytes) [] s (Err fault) t mid new → IsControlled who taking s (Err fault) t old new
  answered_by : {t : State} {old mid next new : Option History} (bytes : List ℕ) (reply : Reply)
      → IsRead who taking.number (capped taking.bytes) (Ok (Some bytes)) old mid
      → AreRun (parts_at 10 bytes) [] s (Ok reply) t mid next
      → Answers who taking.number reply.text (Ok tt) next new → IsControlled who taking s (Ok (behind reply.then)) t old new
  unanswered : {t : State} {old mid next new : Option History} (bytes : List ℕ) (reply : Reply) (fault : AgentFault)
      → IsRead who taking.number (capped taking.bytes) (Ok (Some bytes)) old mid
      → AreRun (parts_at 10 bytes) [] s (Ok reply) t mid next
      → Answers who taking.number reply.text (Err fault) next new → IsControlled who taking s (Err fault) t old new

-- At most so many messages, up to a taking that gives none, to a message that ends the agent, or to a fault.
pub data AreControlled (who : Who) (door : List ℕ) : ℕ → State → Result Then AgentFault → State → Option History → Option History → Type 0 where
  enough : {s : State} {now : Option History} → AreControlled who door 0 s (Ok Go) s now now
  none : {left : ℕ} {s : State} {old new : Option History} → Took who door (Ok None) old new
      → AreControlled who door (suc left) s (Ok Go) s old new
  untaken : {left : ℕ} {s : State} {old new : Option History} (fault : AgentFault) → Took who door (Err fault) old new
      → AreControlled who door (suc left) s (Err fault) s old new
  ended : {left : ℕ} {s t : State} {old mid new : Option History} (taking : Taking) → Took who door (Ok (Some taking)) old mid
      → IsControlled who taking s (Ok End) t mid new → AreControlled who door (suc left) s (Ok End) t old new
  refused : {left : ℕ} {s t : State} {old mid new : Option History} (taking : Taking) (fault : AgentFault)
      → Took who door (Ok (Some taking)) old mid
      → IsControlled who taking s (Err fault) t mid new → AreControlled who door (suc left) s (Err fault) t old new
  on : {left : ℕ} {s t u : State} {result : Result Then AgentFault} {old mid next new : Option History} (taking : Taking)
      → Took who door (Ok (Some taking)) old mid
      → IsControlled who taking s (Ok Go) t mid next → AreControlled who door left t result u next new
      → AreControlled who door (suc left) s result u old new

-- at most 64 messages in a turn; without a door there are none
pub data AtDoor (who : Who) (s : State) : Option (List ℕ) → Result Then AgentFault → State → Option History → Option History → Type 0 where
  no_door : {now : Option History} → AtDoor who s None (Ok Go) s now now
  at : {t : State} {result : Result Then AgentFault} {old new : Option History} (door : List ℕ)
      → AreControlled who door 64 s result t old new → AtDoor who s (Some door) result t old new

-- ---- a turn

-- The control messages, the time, the agent's turn at that moment, and a pause, up to a fault. The turn is made and waited
-- behind also where a message ended the agent.
pub data IsAgentTurn (who : Who) (door : Option (List ℕ)) (pause : ℕ) (s : State)
    : Result Then AgentFault → State → Option History → Option History → Type 0 where
  uncontrolled : {t : State} {old new : Option History} (fault : AgentFault) → AtDoor who s door (Err fault) t old new
      → IsAgentTurn who door pause s (Err fault) t old new
  untimed : {t : State} {old mid new : Option History} (then : Then) (fault : AgentFault) → AtDoor who s door (Ok then) t old mid
      → Clocked who (Err fault) mid new → IsAgentTurn who door pause s (Err fault) t old new
  unturned : {t u : State} {old mid next new : Option History} (then : Then) (now : ℕ) (fault : AgentFault)
      → AtDoor who s door (Ok then) t old mid → Clocked who (Ok now) mid next
      → IsTurned now t (Err fault) u next new → IsAgentTurn who door pause s (Err fault) u old new
  unpaused : {t u : State} {old mid next later new : Option History} (then : Then) (now : ℕ) (full : Bool) (fault : AgentFault)
      → AtDoor who s door (Ok then) t old mid → Clocked who (Ok now) mid next → IsTurned now t (Ok full) u next later
      → Paused who (waits pause full) (Err fault) later new → IsAgentTurn who door pause s (Err fault) u old new
  turned : {t u : State} {old mid next later new : Option History} (then : Then) (now : ℕ) (full : Bool)
      → AtDoor who s door (Ok then) t old mid → Clocked who (Ok now) mid next → IsTurned now t (Ok full) u next later
      → Paused who (waits pause full) (Ok tt) later new → IsAgentTurn who door pause s (Ok then) u old new

-- the next line, or the end of the agent
abbrev pub GoesOrEnds : Result Then AgentFault → Type 0
GoesOrEnds (Ok Close) = ⊥
GoesOrEnds result = Unit {0}

-- So many turns, or fewer where the last one ended the agent or was refused.
pub data AreAgentTurns (who : Who) (door : Option (List ℕ)) (pause : ℕ)
    : ℕ → State → Result Ended AgentFault → State → Option History → Option History → Type 0 where
  over : {s : State} {now : Option History} → AreAgentTurns who door pause 0 s (Ok Over) s now now
  ended : {left : ℕ} {s t : State} {old new : Option History} → IsAgentTurn who door pause s (Ok End) t old new
      → AreAgentTurns who door pause (suc left) s (Ok Stopped) t old new
  refused : {left : ℕ} {s t : State} {old new : Option History} (fault : AgentFault)
      → IsAgentTurn who door pause s (Err fault) t old new → AreAgentTurns who door pause (suc left) s (Err fault) t old new
  turn : {left : ℕ} {s t u : State} {result : Result Ended AgentFault} {old mid new : Option History}
      → IsAgentTurn who door pause s (Ok Go) t old mid → AreAgentTurns who door pause left t result u mid new
      → AreAgentTurns who door pause (suc left) s result u old new
