-- The checkpoints of the agents of a folder, one after another.
use Rattle.std.specs.Prelude.{◌≡◌, ◌⊎◌, ℕ, List, [], ◌∷◌, codes, is_none, if◌then◌else◌}
use Rattle.std.specs.Prelude.{Option, Some, None, Result, Ok, Err}
use Rattle.chk_bytes.specs.Words.{before_end}
use Rattle.chk_bytes.specs.WordFaults.{word_fault_of}
use Rattle.chk_site.specs.declared.acts.Call.TheVariants.{List as list_names}
use Rattle.chk_site.specs.declared.acts.CallFault.{CallFault}
use Rattle.chk_site.specs.declared.acts.CallFault.TheVariants.{Failed, NoMemory}
use Rattle.chk_site.specs.declared.acts.Role.TheVariants.{Job}
use Rattle.chk_site.specs.declared.acts.Who.{Who}
use Rattle.chk_site.specs.Acts.{Deed, Lists}
use Rattle.chk_site.specs.History.{History, Step}
use Rattle.chk_site.specs.Site.{Adds, asked, answered, names_given, Calls}
use Rattle.chk_world.specs.Sight.{job}
use Rattle.chk_world.specs.JobSteps.{IsOf}
use Rattle.chk_checkpoint.specs.declared.fault.CheckFault.{CheckFault}
use Rattle.chk_checkpoint.specs.declared.fault.CheckFault.TheVariants as check
use Rattle.chk_record_index.specs.declared.fault.JobFault.{JobFault}
use Rattle.chk_record_index.specs.declared.fault.JobFault.TheVariants.{Outside}
use Rattle.chk_record_index.specs.declared.fault.JobFault.TheVariants.{NoMemory as no_memory}
use Rattle.chk_record_index.specs.Faults.{IsDamage}
use Rattle.chk_ctl_passed.specs.declared.judging.Verdict.{Verdict}
use Rattle.chk_ctl_passed.specs.declared.judging.Verdict.TheVariants.{Passed, Behind, Unknown}
use Rattle.chk_ctl_passed.specs.Passing.{check_name, HasPassed, Looks}

-- the call lists the agents' checkpoints
pub data ListsAgents : Deed → Type 0 where
  lists : ListsAgents (Lists (codes "agents"))

-- the step is one of others, the listing, or a read of an agent's checkpoint or of the log
abbrev pub LooksAtAgents : List ℕ → History → Step → Type 0
LooksAtAgents path before step =
    IsOf ListsAgents before step
    ⊎ ((agent : Who) × (agent.role ≡ Job) × Looks agent path before step)

-- the agent of a source, where that is a word
abbrev pub agent_named : List ℕ → Option Who
agent_named source =
    if is_none (word_fault_of source) then Some (record { role = Job; name = source }) else None

-- the agent whose checkpoint has the name
abbrev pub agent_of : List ℕ → Option Who
agent_of name =
    elim (before_end (codes ".check") name) [ None ↦ None | Some source ↦ agent_named source ]

-- the verdict of two checkpoints
abbrev pub both : Verdict → Verdict → Verdict
both Behind other = Behind
both Passed Behind = Behind
both Passed Passed = Passed
both Passed Unknown = Passed
both Unknown other = other

-- the fault of the checkpoint of this name
abbrev pub IsFaultIn : List ℕ → CheckFault → JobFault → Type 0
IsFaultIn name (check.Damaged at) told = IsDamage name at told
IsFaultIn name (check.Outside call) told = told ≡ Outside call
IsFaultIn name check.NoMemory told = told ≡ no_memory

-- the verdict with that of one more checkpoint
abbrev pub IsJoined : Who → Verdict → Result Verdict CheckFault → Result Verdict JobFault → Type 0
IsJoined agent one (Ok other) result = result ≡ Ok (both one other)
IsJoined agent one (Err fault) result =
    (told : JobFault) × IsFaultIn (check_name agent) fault told × (result ≡ Err told)

-- a file that is no checkpoint changes nothing
abbrev pub One : List ℕ → Verdict → Option Who → Result Verdict JobFault → Option History
    → Option History → Type 0
One path verdict None result before after = (after ≡ before) × (result ≡ Ok verdict)
One path verdict (Some agent) result before after =
    (given : Result Verdict CheckFault) × HasPassed agent path given before after
    × IsJoined agent verdict given result

-- so it is for the file of a name; or there was no memory
abbrev pub OneMore : List ℕ → Verdict → List ℕ → Result Verdict JobFault → Option History
    → Option History → Type 0
OneMore path verdict name result before after =
    One path verdict (agent_of name) result before after
    ⊎ ((after ≡ before) × (result ≡ Err no_memory))

-- each file in turn, up to a refusal
pub data ByEach (path : List ℕ) (result : Result Verdict JobFault)
    : List (List ℕ) → Verdict → Option History → Option History → Type 0 where
  at_end : {verdict : Verdict} {now : Option History} → result ≡ Ok verdict
      → ByEach path result [] verdict now now
  ended : {name : List ℕ} {names : List (List ℕ)} {verdict : Verdict} {fault : JobFault}
      {old new : Option History} → result ≡ Err fault
      → OneMore path verdict name (Err fault) old new
      → ByEach path result (name ∷ names) verdict old new
  went_on : {name : List ℕ} {names : List (List ℕ)} {verdict next : Verdict}
      {old mid new : Option History} → OneMore path verdict name (Ok next) old mid
      → ByEach path result names next mid new
      → ByEach path result (name ∷ names) verdict old new

-- what follows the listing
abbrev pub ByNames : List ℕ → Result (List (List ℕ)) CallFault → Result Verdict JobFault
    → Option History → Option History → Type 0
ByNames path (Ok names) result before after = ByEach path result names Unknown before after
ByNames path (Err Failed) result before after =
    (after ≡ before) × (result ≡ Err (Outside list_names))
ByNames path (Err NoMemory) result before after = (after ≡ before) × (result ≡ Err no_memory)
ByNames path (Err fault) result before after = ⊥

-- the folder was listed, and then each checkpoint was weighed
pub record ByFolder (path : List ℕ) (result : Result Verdict JobFault)
    (before after : Option History) : Type 0 where
  pub given : Result (List (List ℕ)) CallFault
  pub middle : Option History
  pub listed : Adds before middle
      (Calls (asked job list_names (codes "agents" ∷ []) 0 0) (answered names_given given))
  pub each : ByNames path given result middle after
