-- How a drain begins.
use Rattle.std.specs.Prelude.{ℕ, List, Option, Result, Ok, Err}
use Rattle.chk_bytes.specs.Words.{parts_at}
use Rattle.chk_site.specs.declared.acts.Who.{Who}
use Rattle.chk_site.specs.declared.acts.OutsideFault.{OutsideFault}
use Rattle.chk_site.specs.History.{History}
use Rattle.chk_failover.specs.Turns.{Turns}
use Rattle.chk_world.specs.Rules.{Legal}
use Rattle.chk_world.specs.Places.{AtTold}
use Rattle.chk_agent.specs.declared.agent.Rules.{Rules}
use Rattle.chk_agent.specs.declared.answers.AgentFault.{AgentFault}
use Rattle.chk_agent.specs.States.{State}
use Rattle.chk_agent.specs.Facts.{Matches}
use Rattle.chk_agent_run.specs.declared.faults.RunFault.{RunFault}
use Rattle.chk_agent_run.specs.declared.faults.RunFault.TheVariants.{Checkpoint}
use Rattle.chk_agent_run.specs.Calls.{Clocked}
use Rattle.chk_agent_run.specs.Faults.{fault_of, outside_fault}
use Rattle.chk_agent_run.specs.Initial.{ReadsInitial, AreAdded}
use Rattle.chk_agent_run.specs.Runs.{IsStarted, StartsSo}
use Rattle.chk_cmd_drain.specs.declared.begin.Begun.{Begun}

-- The initial file is read, the agent is started, the time is asked for, and each line of the file
-- is added; up to a fault.
pub data Begins (who writer : Who) (ring : Turns) (rules : Rules) (initial : Option (List ℕ))
    : Result Begun RunFault → Option History → Option History → Type 0 where
  unread : {old new : Option History} (fault : OutsideFault)
      → ReadsInitial writer initial (Err fault) old new
      → Begins who writer ring rules initial (Err (outside_fault fault)) old new
  unstarted : {old mid new : Option History} (text : List ℕ) (fault : AgentFault)
      → ReadsInitial writer initial (Ok text) old mid → StartsSo who (Err fault) mid new
      → Begins who writer ring rules initial (Err (fault_of fault)) old new
  untimed : {s : State} {old mid next new : Option History} (text : List ℕ) (fault : AgentFault)
      → ReadsInitial writer initial (Ok text) old mid → IsStarted who ring rules s mid next
      → Clocked who (Err fault) next new
      → Begins who writer ring rules initial (Err (fault_of fault)) old new
  unadded : {s t : State} {old mid next later new : Option History} (text : List ℕ) (now : ℕ)
      (fault : RunFault)
      → ReadsInitial writer initial (Ok text) old mid → IsStarted who ring rules s mid next
      → Clocked who (Ok now) next later → AreAdded 0 (parts_at 10 text) s (Err fault) t later new
      → Begins who writer ring rules initial (Err fault) old new
  begun : {s t : State} {old mid next later new : Option History} (text : List ℕ) (now : ℕ)
      → ReadsInitial writer initial (Ok text) old mid → IsStarted who ring rules s mid next
      → Clocked who (Ok now) next later → AreAdded 0 (parts_at 10 text) s (Ok tt) t later new
      → Begins who writer ring rules initial (Ok (record { agent = t; now = now })) old new

-- From a legal history on it is legal. The checkpoint isn't damaged, and at Ok the history holds
-- the agent, where the site wasn't stopped.
abbrev pub BeginsWith : List (List ℕ) → Who → Result Begun RunFault → History → Type 0
BeginsWith stamped who (Ok b) history = Matches stamped b.agent history
BeginsWith stamped who (Err (Checkpoint at)) history = AtTold stamped who (λ front. ⊥) history
BeginsWith stamped who (Err fault) history = Legal stamped history
