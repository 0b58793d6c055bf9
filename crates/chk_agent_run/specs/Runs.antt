-- A run of an agent: the initial file, the start, the lines that are added, and the turns.
use Rattle.std.specs.Prelude.{◌≡◌, ℕ, List, [], ◌∷◌, Option, Result, Ok, Err}
use Rattle.chk_bytes.specs.Words.{parts_at}
use Rattle.chk_site.specs.declared.acts.Who.{Who}
use Rattle.chk_site.specs.declared.acts.OutsideFault.{OutsideFault}
use Rattle.chk_site.specs.History.{History}
use Rattle.chk_site.specs.Site.{Adds}
use Rattle.chk_site.specs.Runs.{Side, HasStarted, Owns}
use Rattle.chk_failover.specs.Turns.{Turns}
use Rattle.chk_world.specs.Rules.{Legal}
use Rattle.chk_world.specs.Places.{IsBy, AtTold}
use Rattle.chk_world.specs.Together.{Together}
use Rattle.chk_agent.specs.declared.agent.Rules.{Rules}
use Rattle.chk_agent.specs.declared.answers.AgentFault.{AgentFault}
use Rattle.chk_agent.specs.States.{State}
use Rattle.chk_agent.specs.Starts.{IsFresh, StartsAndReads, FindsCheckpoint}
use Rattle.chk_agent_run.specs.declared.faults.RunFault.{RunFault}
use Rattle.chk_agent_run.specs.declared.faults.RunFault.TheVariants.{Checkpoint}
use Rattle.chk_agent_run.specs.declared.run.Work.{Work}
use Rattle.chk_agent_run.specs.declared.turn.Ended.{Ended}
use Rattle.chk_agent_run.specs.Faults.{fault_of, outside_fault}
use Rattle.chk_agent_run.specs.Initial.{ReadsInitial, AreAdded}
use Rattle.chk_agent_run.specs.Turns.{AreAgentTurns}

-- How an agent's start comes to its answer: all its steps are by the agent, and leave messages
-- alone; the process is started and its checkpoint read, and nothing else is called; and where
-- others leave the checkpoint, the answer is by the file that stands there.
pub record StartsSo (who : Who) (result : Result State AgentFault) (old new : Option History)
    : Type 0 where
  pub own : Adds old new (Owns (IsBy who))
  pub acts : StartsAndReads who result old new
  pub whole : FindsCheckpoint (λ s. s.saved) who result old new

-- the agent was so started, which left this state
pub record IsStarted (who : Who) (ring : Turns) (rules : Rules) (s : State) (old new : Option History) : Type 0 where
  pub fresh : IsFresh who ring rules s
  pub starts : Adds old new (HasStarted who)
  pub so : StartsSo who (Ok s) old new

-- the answer of the turns as that of the run
abbrev pub ended_as : Result Ended AgentFault → Result Ended RunFault
ended_as (Ok ended) = Ok ended
ended_as (Err fault) = Err (fault_of fault)

-- The initial file is read, the agent is started, each line of the file is added, and the turns follow, each with its
-- pause; up to a fault.
pub data HasRun (who writer : Who) (ring : Turns) (rules : Rules) (work : Work) : Result Ended RunFault → Option History → Option History → Type 0 where
  unread : {old new : Option History} (fault : OutsideFault) → ReadsInitial writer work.initial (Err fault) old new
      → HasRun who writer ring rules work (Err (outside_fault fault)) old new
  unstarted : {old mid new : Option History} (text : List ℕ) (fault : AgentFault)
      → ReadsInitial writer work.initial (Ok text) old mid → StartsSo who (Err fault) mid new
      → HasRun who writer ring rules work (Err (fault_of fault)) old new
  unadded : {s t : State} {old mid next new : Option History} (text : List ℕ) (fault : RunFault)
      → ReadsInitial writer work.initial (Ok text) old mid → IsStarted who ring rules s mid next
      → AreAdded 0 (parts_at 10 text) s (Err fault) t next new → HasRun who writer ring rules work (Err fault) old new
  ran : {s t u : State} {old mid next later new : Option History} (text : List ℕ) (result : Result Ended AgentFault)
      → ReadsInitial writer work.initial (Ok text) old mid → IsStarted who ring rules s mid next
      → AreAdded 0 (parts_at 10 text) s (Ok tt) t next later
      → AreAgentTurns who work.control work.pause work.turns t result u later new
      → HasRun who writer ring rules work (ended_as result) old new

-- the side of the run: the agent acts by it, and the writer that reads the file
abbrev pub InRun : List (List ℕ) → Who → Who → Side
InRun stamped who writer = Together stamped (who ∷ []) (who ∷ writer ∷ [])

-- At the end the history is legal. The checkpoint isn't damaged, where the site wasn't stopped.
abbrev pub RunEnds : List (List ℕ) → Who → Result Ended RunFault → History → Type 0
RunEnds stamped who (Err (Checkpoint at)) history = AtTold stamped who (λ front. ⊥) history
RunEnds stamped who result history = Legal stamped history
