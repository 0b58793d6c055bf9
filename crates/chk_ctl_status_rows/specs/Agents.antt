-- The agents of a folder, as own calls show them.
use Rattle.std.specs.Prelude.{◌≡◌, ◌⊎◌, ℕ, ◌≤◌, Bool, true, false, List, [], ◌∷◌, ◌++◌, codes}
use Rattle.std.specs.Prelude.{Option, Some, None, Result, Ok, Err}
use Rattle.chk_site.specs.declared.acts.Call.TheVariants.{List as ListNames}
use Rattle.chk_site.specs.declared.acts.CallFault.{CallFault}
use Rattle.chk_site.specs.declared.acts.OutsideFault.{OutsideFault}
use Rattle.chk_site.specs.declared.acts.OutsideFault.TheVariants as site
use Rattle.chk_site.specs.declared.acts.Role.TheVariants.{Job}
use Rattle.chk_site.specs.declared.acts.Who.{Who}
use Rattle.chk_site.specs.Acts.{Deed, Lists, ReadsLog}
use Rattle.chk_site.specs.Effect.{IsSmallFile}
use Rattle.chk_site.specs.Files.{File}
use Rattle.chk_site.specs.History.{History, Step, Every}
use Rattle.chk_site.specs.Logs.{Part}
use Rattle.chk_site.specs.Runs.{anyhow, Leads}
use Rattle.chk_site.specs.Site.{answered, asked, names_given, Adds, Asked, Calls, Ends, Rose}
use Rattle.chk_replace.specs.Load.{Has, IsLook}
use Rattle.chk_replace.specs.Replace.{LeavesFile}
use Rattle.chk_world.specs.Checkpoints.{Line}
use Rattle.chk_world.specs.JobSteps.{IsOf}
use Rattle.chk_world.specs.Names.{spell, CheckFile}
use Rattle.chk_checkpoint.specs.declared.Checkpoint.{Checkpoint}
use Rattle.chk_checkpoint.specs.declared.fault.CheckFault.{CheckFault}
use Rattle.chk_checkpoint.specs.declared.fault.CheckFault.TheVariants as check
use Rattle.chk_checkpoint.specs.Lines.{lines_of}
use Rattle.chk_checkpoint.specs.Loads.{LoadedLines}
use Rattle.chk_ctl_status_rows.specs.declared.agents.AgentSeen.{AgentSeen}
use Rattle.chk_ctl_status_rows.specs.declared.agents.AgentsFault.{AgentsFault}
use Rattle.chk_ctl_status_rows.specs.declared.agents.AgentsFault.TheVariants.{Damaged, Outside, NoMemory}
use Rattle.chk_ctl_status_rows.specs.Ends.{FindsEnd}
use Rattle.chk_ctl_passed.specs.Agents.{agent_of}

-- the call lists the agents' checkpoints, or reads a byte of a log
pub data ReadsLogs : Deed → Type 0 where
  lists : ReadsLogs (Lists (codes "agents"))
  reads : (path : List ℕ) (part : Part) (at : ℕ) → ReadsLogs (ReadsLog path part at 1)

-- the step is one of others, such a call, or a read of an agent's checkpoint
abbrev pub LooksAtLogs : History → Step → Type 0
LooksAtLogs before step =
    IsOf ReadsLogs before step
    ⊎ ((agent : Who) × (agent.role ≡ Job) × IsLook agent (spell (CheckFile agent.name)) before step)

-- a refusal as one of the agents'
abbrev pub fault_of : OutsideFault → AgentsFault
fault_of (site.Outside call) = Outside call
fault_of site.NoMemory = NoMemory

abbrev pub check_fault : List ℕ → CheckFault → AgentsFault
check_fault source (check.Damaged at) = Damaged source at
check_fault source (check.Outside call) = Outside call
check_fault source check.NoMemory = NoMemory

-- only a call that failed raises the count
abbrev pub AgentsCause : {T : Type 0} → ℕ → ℕ → Result T AgentsFault → Type 0
AgentsCause before now (Ok value) = now ≡ before
AgentsCause before now (Err (Outside call)) = Rose before now × (before ≤ now)
AgentsCause before now (Err fault) = now ≡ before

-- the list, or the refusal
abbrev pub with_items : {A F : Type 0} → List A → Result (Unit {0}) F → Result (List A) F
with_items items (Ok value) = Ok items
with_items items (Err fault) = Err fault

-- one more behind the others, or no memory for it
abbrev pub pushed : {A F : Type 0} → F → List A → A → Result (Unit {0}) F → Result (List A) F
pushed memory items item (Ok value) = Ok (items ++ item ∷ [])
pushed memory items item (Err fault) = Err memory

-- up to where a log goes: of a stream that was stopped it isn't asked for
abbrev pub EndBy : Bool → Who → Line → Result (Option ℕ) OutsideFault → Option History
    → Option History → Type 0
EndBy true who l result old new = FindsEnd who l result old new
EndBy false who l result old new = (new ≡ old) × (result ≡ Ok None)

abbrev pub EndOf : Who → Line → Result (Option ℕ) OutsideFault → Option History → Option History
    → Type 0
EndOf who l result old new = EndBy l.live who l result old new

pub data AddsLog (who : Who) (ends : List (Option ℕ)) (l : Line)
    : Result (List (Option ℕ)) OutsideFault → Option History → Option History → Type 0 where
  log_added : {old new : Option History} (end : Option ℕ) (result : Result (Unit {0}) OutsideFault)
      → EndOf who l (Ok end) old new
      → AddsLog who ends l (pushed site.NoMemory ends end result) old new
  log_failed : {old new : Option History} (fault : OutsideFault) → EndOf who l (Err fault) old new
      → AddsLog who ends l (Err fault) old new

-- those of these lines, in turn, up to a refusal
pub data SeesLogs (who : Who) : List (Option ℕ) → List Line
    → Result (List (Option ℕ)) OutsideFault → Option History → Option History → Type 0 where
  no_logs : {ends : List (Option ℕ)} {now : Option History} → SeesLogs who ends [] (Ok ends) now now
  one_log : {ends more : List (Option ℕ)} {l : Line} {lines : List Line}
      {result : Result (List (Option ℕ)) OutsideFault} {old mid new : Option History}
      → AddsLog who ends l (Ok more) old mid → SeesLogs who more lines result mid new
      → SeesLogs who ends (l ∷ lines) result old new
  logs_ended : {ends : List (Option ℕ)} {l : Line} {lines : List Line} {fault : OutsideFault}
      {old new : Option History} → AddsLog who ends l (Err fault) old new
      → SeesLogs who ends (l ∷ lines) (Err fault) old new

-- the checkpoint with what its logs show
abbrev pub IsSeen : List ℕ → Checkpoint → Result (List (Option ℕ)) OutsideFault
    → Result AgentSeen AgentsFault → Type 0
IsSeen source c (Ok ends) (Ok a) =
    (a.source ≡ source) × (a.check ≡ c) × (a.ends.items ≡ ends) × (a.age ≡ None)
IsSeen source c (Ok ends) (Err fault) = ⊥
IsSeen source c (Err fault) result = result ≡ Err (fault_of fault)

pub record SeesChecked (who : Who) (source : List ℕ) (c : Checkpoint)
    (result : Result AgentSeen AgentsFault) (old new : Option History) : Type 0 where
  pub ends : Result (List (Option ℕ)) OutsideFault
  pub seen : SeesLogs who [] (lines_of c) ends old new
  pub is : IsSeen source c ends result

-- what follows the read of the checkpoint
abbrev pub Checked : Who → Who → Result Checkpoint CheckFault → Result AgentSeen AgentsFault
    → Option History → Option History → Type 0
Checked who agent (Ok c) result old new = SeesChecked who agent.name c result old new
Checked who agent (Err fault) result old new =
    (new ≡ old) × (result ≡ Err (check_fault agent.name fault))

-- the checkpoint is read whole, and then its logs are looked at
pub record SeesAgent (who agent : Who) (result : Result AgentSeen AgentsFault)
    (old new : Option History) : Type 0 where
  pub given : Result Checkpoint CheckFault
  pub middle : Option History
  pub loaded : (file : Option File) → IsSmallFile file → Adds old middle
      (Leads (anyhow (LeavesFile (spell (CheckFile agent.name))))
      (Has (spell (CheckFile agent.name)) file)
      (LoadedLines (spell (CheckFile agent.name)) file given))
  pub reads : Adds old middle (Every (IsLook agent (spell (CheckFile agent.name))))
  pub checked : Checked who agent given result middle new

-- one agent more
pub data AddsNamed (who : Who) (agents : List AgentSeen) (agent : Who)
    : Result (List AgentSeen) AgentsFault → Option History → Option History → Type 0 where
  added : {old new : Option History} (seen : AgentSeen) (result : Result (Unit {0}) AgentsFault)
      → SeesAgent who agent (Ok seen) old new
      → AddsNamed who agents agent (pushed NoMemory agents seen result) old new
  failed : {fault : AgentsFault} {old new : Option History}
      → SeesAgent who agent (Err fault) old new
      → AddsNamed who agents agent (Err fault) old new

-- the file of this name, where it is a checkpoint
pub data AddsAgent (who : Who) (agents : List AgentSeen) (name : List ℕ)
    : Result (List AgentSeen) AgentsFault → Option History → Option History → Type 0 where
  other : {now : Option History} → agent_of name ≡ None
      → AddsAgent who agents name (Ok agents) now now
  unnamed : {now : Option History} → AddsAgent who agents name (Err NoMemory) now now
  named : {result : Result (List AgentSeen) AgentsFault} {old new : Option History} (agent : Who)
      → agent_of name ≡ Some agent → AddsNamed who agents agent result old new
      → AddsAgent who agents name result old new

-- each of the files, up to a refusal
pub data SeesAgents (who : Who) : List AgentSeen → List (List ℕ)
    → Result (List AgentSeen) AgentsFault → Option History → Option History → Type 0 where
  none_left : {agents : List AgentSeen} {now : Option History}
      → SeesAgents who agents [] (Ok agents) now now
  one_more : {agents more : List AgentSeen} {name : List ℕ} {names : List (List ℕ)}
      {result : Result (List AgentSeen) AgentsFault} {old mid new : Option History}
      → AddsAgent who agents name (Ok more) old mid → SeesAgents who more names result mid new
      → SeesAgents who agents (name ∷ names) result old new
  ended : {agents : List AgentSeen} {name : List ℕ} {names : List (List ℕ)} {fault : AgentsFault}
      {old new : Option History} → AddsAgent who agents name (Err fault) old new
      → SeesAgents who agents (name ∷ names) (Err fault) old new

-- what the listing gave, or how it ended the work
abbrev pub listing : Who → Asked
listing who = asked who ListNames (codes "agents" ∷ []) 0 0

abbrev pub Listed : Who → Result (List (List ℕ)) OutsideFault → Option History → Option History
    → Type 0
Listed who (Ok names) old new = Adds old new (Calls (listing who) (Ok (names_given names)))
Listed who (Err fault) old new =
    (given : Result (List (List ℕ)) CallFault) × Ends ListNames given fault
    × Adds old new (Calls (listing who) (answered names_given given))

-- the folder is listed before
pub data FindsAgents (who : Who) : Result (List AgentSeen) AgentsFault → Option History
    → Option History → Type 0 where
  unlisted : {fault : OutsideFault} {old new : Option History} → Listed who (Err fault) old new
      → FindsAgents who (Err (fault_of fault)) old new
  listed : {names : List (List ℕ)} {result : Result (List AgentSeen) AgentsFault}
      {old mid new : Option History} → Listed who (Ok names) old mid
      → SeesAgents who [] names result mid new → FindsAgents who result old new
