-- The inspection of a folder of agents.
use Rattle.std.specs.Prelude.{◌≡◌, ◌⊎◌, ℕ, List, Option, None, Result, Ok, Err}
use Rattle.chk_site.specs.History.{History}
use Rattle.chk_world.specs.Names.{spell, CheckFile}
use Rattle.chk_world.specs.Sight.{job}
use Rattle.chk_ctl_status_rows.specs.declared.agents.AgentSeen.{AgentSeen}
use Rattle.chk_ctl_status_rows.specs.declared.agents.AgentsFault.{AgentsFault}
use Rattle.chk_ctl_status_rows.specs.declared.agents.AgentsFault.TheVariants as fault
use Rattle.chk_ctl_status_rows.specs.Agents.{FindsAgents}
use Rattle.chk_ctl_run.specs.declared.outcome.Outcome.{Outcome}
use Rattle.chk_ctl_run.specs.declared.outcome.Outcome.TheVariants.{Damaged, NoMemory, Outside}
use Rattle.chk_ctl_machine.specs.Deeds.{Told}
use Rattle.chk_ctl_machine.specs.Turns.{InTurn}
use Rattle.chk_ctl_machine.specs.Lending.{Lent, SeenCause}
use Rattle.chk_ctl_machine.specs.Ages.{AsksAgeOf}

-- the outcome of a refusal: damage names the checkpoint, unless there is no memory for that
abbrev pub IsOutcomeOf : AgentsFault → Outcome → Type 0
IsOutcomeOf (fault.Damaged source at) outcome =
    (outcome ≡ Damaged (spell (CheckFile source)) at) ⊎ (outcome ≡ NoMemory)
IsOutcomeOf (fault.Outside call) outcome = outcome ≡ Outside call
IsOutcomeOf fault.NoMemory outcome = outcome ≡ NoMemory

-- the agents are found by the site
pub data ReadsAgents : Result (List AgentSeen) Outcome → Option History → Option History
    → Type 0 where
  unbegun : {now : Option History} → ReadsAgents (Err NoMemory) now now
  unread : {fault : AgentsFault} {outcome : Outcome} {old new : Option History}
      → FindsAgents job (Err fault) old new → IsOutcomeOf fault outcome
      → ReadsAgents (Err outcome) old new
  read : {agents : List AgentSeen} {old new : Option History}
      → FindsAgents job (Ok agents) old new → ReadsAgents (Ok agents) old new

pub record FindsThem (result : Result (List AgentSeen) Outcome) (from : Option History)
    (before : ℕ) (to : Option History) (now : ℕ) : Type 0 where
  pub told : ReadsAgents result from to
  pub cause : SeenCause before now result

-- an agent gets the age of its checkpoint
pub record AgesAgent (a b : AgentSeen) (old new : Told) : Type 0 where
  pub age : Option ℕ
  pub is : b ≡ record a { age = age }
  pub asked : AsksAgeOf (spell (CheckFile a.source)) age old new

-- the agents are found, and then each age is asked for, in turn
pub data SeesAgents : Result (List AgentSeen) Outcome → Told → Told → Type 0 where
  unseen : {outcome : Outcome} {old new : Told} → Lent None (FindsThem (Err outcome)) old new
      → SeesAgents (Err outcome) old new
  seen : {found agents : List AgentSeen} {old mid new : Told}
      → Lent None (FindsThem (Ok found)) old mid → InTurn AgesAgent found agents mid new
      → SeesAgents (Ok agents) old new
