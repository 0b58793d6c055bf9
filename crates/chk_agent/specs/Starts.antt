-- What a start leaves.
use Rattle.std.specs.Prelude.{◌≡◌, ℕ, true, List, [], map, slice_get, Option, Some, None, Result}
use Rattle.std.specs.Prelude.{Ok, Err}
use Rattle.chk_site.specs.declared.acts.Who.{Who}
use Rattle.chk_site.specs.declared.acts.Call.TheVariants.{Start}
use Rattle.chk_site.specs.declared.acts.OutsideFault.{OutsideFault}
use Rattle.chk_site.specs.Effect.{IsSmallFile}
use Rattle.chk_site.specs.Files.{File}
use Rattle.chk_site.specs.History.{History, Every}
use Rattle.chk_site.specs.Site.{Adds, asked}
use Rattle.chk_site.specs.Runs.{Leads, anyhow}
use Rattle.chk_replace.specs.Replace.{LeavesFile}
use Rattle.chk_replace.specs.Load.{Has, IsLook, bytes_of}
use Rattle.chk_failover.specs.Turns.{Turns}
use Rattle.chk_world.specs.Names.{CheckFile, spell}
use Rattle.chk_world.specs.Rules.{Legal}
use Rattle.chk_world.specs.Checkpoints.{Line, read_checkpoint}
use Rattle.chk_world.specs.Places.{AtTold}
use Rattle.chk_checkpoint.specs.Damage.{IsFirstBad}
use Rattle.chk_agent_adaptor.specs.Adaptors.{Adaptor, adaptor_of}
use Rattle.chk_agent_delivery.specs.States.{State as Delivery}
use Rattle.chk_agent.specs.declared.agent.Rules.{Rules}
use Rattle.chk_agent.specs.declared.answers.AgentFault.{AgentFault}
use Rattle.chk_agent.specs.declared.answers.AgentFault.TheVariants.{Damaged}
use Rattle.chk_agent.specs.Faults.{FailsLast, fault_of}
use Rattle.chk_agent.specs.Loading.{MadeOnce}
use Rattle.chk_agent.specs.States.{State, committed_at, lines_at}
use Rattle.chk_agent.specs.Facts.{Matches}

-- the state is of the saved lines, with nothing queued or out
pub record IsFresh (who : Who) (ring : Turns) (rules : Rules) (s : State) : Type 0 where
  pub source : s.source ≡ who.name
  pub cluster : s.cluster ≡ rules.cluster
  pub adaptors : s.adaptors ≡ map adaptor_of s.saved
  pub committed : (i : ℕ) (l : Line) → slice_get s.saved i ≡ Some l → committed_at s i ≡ l.offset
  pub last : s.last ≡ None
  pub ready : s.ready ≡ true
  pub queue_limit : s.delivery.queue.limit ≡ rules.queue
  pub queue : s.delivery.queue.chunks ≡ []
  pub rows : s.delivery.table.rows ≡ []
  pub room : s.delivery.table.room ≡ rules.rows
  pub poll_every : s.delivery.rules.poll ≡ rules.poll
  pub expire_after : s.delivery.rules.expire ≡ rules.expire
  pub ring_is : s.delivery.ring ≡ ring
  pub post : s.delivery.post ≡ None
  pub poll : s.delivery.poll ≡ None
  pub polled : s.delivery.polled ≡ None

-- the state of these adaptors and of what is to be delivered; none was stepped, and their lines are saved
abbrev pub begun_state : List ℕ → List ℕ → List Adaptor → Delivery → State
begun_state source cluster adaptors delivery = record {
  source = source;
  cluster = cluster;
  adaptors = adaptors;
  last = None;
  delivery = delivery;
  saved = lines_at adaptors delivery.table.committed;
  ready = true;
}

-- after a start: the history holds the state; the checkpoint is never damaged
abbrev pub Started : List (List ℕ) → Who → Result State AgentFault → History → Type 0
Started stamped who (Ok s) history = Matches stamped s history
Started stamped who (Err (Damaged at)) history = AtTold stamped who (λ front. ⊥) history
Started stamped who (Err fault) history = Legal stamped history

-- ---- which calls it makes, and what it finds

-- the name of the process's own checkpoint
abbrev pub own_check : Who → List ℕ
own_check who = spell (CheckFile who.name)

-- the start of the process came to this result
abbrev pub BeganSo : Who → Result (Unit {0}) OutsideFault → Option History → Option History → Type 0
BeganSo who result old new = MadeOnce (asked who Start [] 0 0) result old new

-- The process is started first, and once. Then its checkpoint is read, and nothing else is called:
-- the call that failed is the last of these reads, where the site wasn't stopped. Where the start
-- is refused nothing follows it.
pub data StartsAndReads {T : Type 0} (who : Who)
    : Result T AgentFault → Option History → Option History → Type 0 where
  unstarted : {old new : Option History} (fault : OutsideFault) → BeganSo who (Err fault) old new
      → StartsAndReads who (Err (fault_of fault)) old new
  started : {result : Result T AgentFault} {old mid new : Option History}
      → BeganSo who (Ok tt) old mid → Adds mid new (Every (IsLook who (own_check who)))
      → Adds mid new (FailsLast result) → StartsAndReads who result old new

-- the lines of the checkpoint with these bytes; none where there is no file
abbrev pub AreLinesIn : Option (List ℕ) → List Line → Type 0
AreLinesIn None lines = lines ≡ []
AreLinesIn (Some text) lines = read_checkpoint text ≡ Some lines

-- there is a file, and its first line that may not stand there begins at this byte
abbrev pub IsBadAt : Option (List ℕ) → ℕ → Type 0
IsBadAt None at = ⊥
IsBadAt (Some text) at = IsFirstBad text at

-- The file is still this one, and the result is by its bytes. Nothing is said where a call failed
-- or there was no memory.
abbrev pub Finds : {T : Type 0} → (T → List Line) → List ℕ → Option File → Result T AgentFault
    → History → Type 0
Finds lines name file (Ok value) history =
    Has name file history × AreLinesIn (bytes_of file) (lines value)
Finds lines name file (Err (Damaged at)) history =
    Has name file history × IsBadAt (bytes_of file) at
Finds lines name file (Err fault) history = Unit {0}

-- where others leave the process's checkpoint, the result is by the file that stands there
abbrev pub FindsCheckpoint : {T : Type 0} → (T → List Line) → Who → Result T AgentFault
    → Option History → Option History → Type 0
FindsCheckpoint lines who result old new =
    (file : Option File) → IsSmallFile file → Adds old new
    (Leads (anyhow (LeavesFile (own_check who))) (Has (own_check who) file)
    (Finds lines (own_check who) file result))
