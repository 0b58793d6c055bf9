-- The inspections that the words of `status` name.
use Rattle.std.specs.Prelude.{◌≡◌, ℕ, true, false, List, [], Option, Some, None, Ok, Err, string_bytes, unwrap_or}
use Rattle.std.specs.Borrow.{Bor}
use Rattle.chk_ctl_line.specs.Controls.{control_in, Control}
use Rattle.chk_ctl_line.specs.Status.{Status}
use Rattle.chk_ctl_metrics.specs.declared.agents.NamedAgents.{NamedAgents}
use Rattle.chk_ctl_metrics.specs.declared.beside.NamedDoor.{NamedDoor}
use Rattle.chk_ctl_metrics.specs.declared.families.NamedStore.{NamedStore}
use Rattle.chk_ctl_status.specs.declared.store.StoreSeen.{StoreSeen}
use Rattle.chk_ctl_status_rows.specs.declared.agents.AgentSeen.{AgentSeen}
use Rattle.chk_ctl_run.specs.declared.outcome.Outcome.{Outcome}
use Rattle.chk_ctl_run.specs.Outcomes.{outcome_status}
use Rattle.chk_ctl_machine.specs.Agents.{SeesAgents}
use Rattle.chk_ctl_machine.specs.Controls.{SeesControl}
use Rattle.chk_ctl_machine.specs.Deeds.{after, ended, AsksStore, Enters, Told}
use Rattle.chk_ctl_machine.specs.Locks.{SeesLocks}
use Rattle.chk_ctl_machine.specs.Stores.{SeesStore}
use Rattle.chk_ctl_machine.specs.Turns.{InTurn}
use Rattle.chk_ctl_inspect.specs.Sights.{IsEmpty, Keeps}
use Rattle.chk_ctl_inspect.specs.declared.kept.Sight.{Sight}
use Rattle.chk_ctl_inspect.specs.declared.kept.Seen.{Seen}
use Rattle.chk_ctl_inspect.specs.declared.kept.Seen.TheVariants.{Agents, Store, Absent, Door, Failed, Nothing}

-- an outcome is reported, and gives the status
pub data Fails (outcome : Outcome) : Seen → Told → Told → Type 0 where
  failed : {old new : Told} → new ≡ ended outcome old
      → Fails outcome (Failed (outcome_status outcome)) old new

-- the locks of a store that was read
pub data InspectsStoreLocks (folder : List ℕ) (s : StoreSeen) : Seen → Told → Told → Type 0 where
  store_unlocked : {outcome : Outcome} {seen : Seen} {old mid new : Told}
      → SeesLocks (Err outcome) old mid → Fails outcome seen mid new
      → InspectsStoreLocks folder s seen old new
  store_seen : {n : NamedStore} {old new : Told} → SeesLocks (Ok n.locks.items) old new
      → string_bytes n.folder ≡ folder → n.seen ≡ s
      → InspectsStoreLocks folder s (Store n) old new

-- a folder is entered; if it is a store, it is read, and then its locks
pub data InspectsStore (folder : List ℕ) : Seen → Told → Told → Type 0 where
  store_unentered : {old new : Told} → new ≡ after (Enters folder false) old
      → InspectsStore folder (Failed 3) old new
  no_store : {text : Bor (List ℕ)} {old mid new : Told} → text.now ≡ folder
      → mid ≡ after (Enters folder true) old → new ≡ after (AsksStore false) mid
      → InspectsStore folder (Absent text) old new
  store_unread : {outcome : Outcome} {seen : Seen} {old mid next last new : Told}
      → mid ≡ after (Enters folder true) old → next ≡ after (AsksStore true) mid
      → SeesStore (Err outcome) next last → Fails outcome seen last new
      → InspectsStore folder seen old new
  store_read : {s : StoreSeen} {seen : Seen} {old mid next last new : Told}
      → mid ≡ after (Enters folder true) old → next ≡ after (AsksStore true) mid
      → SeesStore (Ok s) next last → InspectsStoreLocks folder s seen last new
      → InspectsStore folder seen old new

-- the locks of a folder whose agents were read
pub data InspectsAgentLocks (folder : List ℕ) (agents : List AgentSeen) : Seen → Told → Told
    → Type 0 where
  agents_unlocked : {outcome : Outcome} {seen : Seen} {old mid new : Told}
      → SeesLocks (Err outcome) old mid → Fails outcome seen mid new
      → InspectsAgentLocks folder agents seen old new
  agents_seen : {n : NamedAgents} {old new : Told} → SeesLocks (Ok n.locks.items) old new
      → string_bytes n.folder ≡ folder → n.agents.items ≡ agents
      → InspectsAgentLocks folder agents (Agents n) old new

-- a folder is entered, its agents are read, and then its locks
pub data InspectsAgents (folder : List ℕ) : Seen → Told → Told → Type 0 where
  agents_unentered : {old new : Told} → new ≡ after (Enters folder false) old
      → InspectsAgents folder (Failed 3) old new
  agents_unread : {outcome : Outcome} {seen : Seen} {old mid last new : Told}
      → mid ≡ after (Enters folder true) old → SeesAgents (Err outcome) mid last
      → Fails outcome seen last new → InspectsAgents folder seen old new
  agents_read : {agents : List AgentSeen} {seen : Seen} {old mid last new : Told}
      → mid ≡ after (Enters folder true) old → SeesAgents (Ok agents) mid last
      → InspectsAgentLocks folder agents seen last new → InspectsAgents folder seen old new

-- a control port is asked
pub data InspectsDoor (control : Control) : Seen → Told → Told → Type 0 where
  door_seen : {n : NamedDoor} {old new : Told} → SeesControl control.address n.door old new
      → string_bytes n.name ≡ control.name → string_bytes n.address ≡ control.address
      → InspectsDoor control (Door n) old new

-- the text names one, as the words of `status` always do
pub data InspectsControl (text : List ℕ) : Seen → Told → Told → Type 0 where
  unnamed : {now : Told} → control_in text ≡ None → InspectsControl text Nothing now now
  asked : {control : Control} {seen : Seen} {old new : Told} → control_in text ≡ Some control
      → InspectsDoor control seen old new → InspectsControl text seen old new

-- what an option names
abbrev pub named : Option (List (List ℕ)) → List (List ℕ)
named words = unwrap_or words []

-- what is seen of each is kept, in turn
pub record InspectsEach (Inspect : List ℕ → Seen → Told → Told → Type 0) (words : List (List ℕ))
    (from to : Sight) (old new : Told) : Type 0 where
  pub seen : List Seen
  pub turns : InTurn Inspect words seen old new
  pub keeps : Keeps from seen to

-- nothing was seen before the stores; then come folders of agents, and then control ports
pub record InspectsAll (s : Status) (sight : Sight) (old new : Told) : Type 0 where
  pub none : Sight
  pub first : Sight
  pub second : Sight
  pub mid : Told
  pub last : Told
  pub empty : IsEmpty none
  pub stores : InspectsEach InspectsStore (named s.stores) none first old mid
  pub agents : InspectsEach InspectsAgents (named s.agents) first second mid last
  pub controls : InspectsEach InspectsControl (named s.controls) second sight last new
