-- Which steps a round makes of each log, and how its reads end.
use Rattle.std.specs.Prelude.{List, ◌≡◌, ◌⊎◌, ℕ, ◌+◌, ◌<◌, ◌≤◌, true, false, length, slice_get, Option, Some, Result, Ok, Err}
use Rattle.chk_control.specs.declared.Class.{Class}
use Rattle.chk_site.specs.History.{History}
use Rattle.chk_site.specs.Site.{Adds}
use Rattle.chk_agent_adaptor.specs.Adaptors.{Adaptor, is_past, is_stepped}
use Rattle.chk_agent.specs.declared.answers.AgentFault.{AgentFault}
use Rattle.chk_agent.specs.declared.answers.Stepped.TheVariants.{AtEnd, Held, Read, Shrank as step_shrank}
use Rattle.chk_agent.specs.Fills.{IsOneStepped}
use Rattle.chk_agent.specs.States.{State, is_read_on, lines_of}
use Rattle.chk_round.specs.declared.faults.RoundFault.{RoundFault}
use Rattle.chk_round.specs.declared.faults.RoundFault.TheVariants.{Growing, Shrank}
use Rattle.chk_archive.specs.Archived.{GivenOnce}
use Rattle.chk_round.specs.Begun.{BeginsSo}
use Rattle.chk_round.specs.Calls.{RestCalls}
use Rattle.chk_round.specs.Faults.{of_agent}
use Rattle.chk_round.specs.Following.{KeepsLive}
use Rattle.chk_round.specs.Polling.{PostedSome}
use Rattle.chk_round.specs.Reading.{IsGrowing, IsShrank}

-- some calls, of which nothing else is said here
abbrev pub Anything : History → History → Type 0
Anything added history = Unit {0}

-- the fault isn't of a read of a log
abbrev pub IsNoRead : RoundFault → Type 0
IsNoRead (Growing path reads) = ⊥
IsNoRead (Shrank path had is) = ⊥
IsNoRead fault = Unit {0}

-- no log is read any more, and the job was given the names of the sinks once
pub record ReadsNoMore (added history : History) : Type 0 where
  pub calls : RestCalls added history
  pub once : GivenOnce added history

-- The adaptor is stepped until its log gave nothing, until so many steps gave bytes, or until its
-- log was shorter than the place. Where the queue has no room for a step, posts go first, which read
-- no log. The first number counts the steps that gave bytes.
pub data ReadsOut (i reads : ℕ) : ℕ → State → Result (Unit {0}) RoundFault → State → Option History
    → Option History → Type 0 where
  at_end : {n : ℕ} {s t : State} {old new : Option History} (a : Adaptor)
      → slice_get s.adaptors i ≡ Some a → IsOneStepped i a s (Ok AtEnd) t old new → ReadsOut i reads n s (Ok tt) t old new
  read_on : {n : ℕ} {s t u : State} {result : Result (Unit {0}) RoundFault}
      {old mid new : Option History} (a : Adaptor) (k : ℕ) → slice_get s.adaptors i ≡ Some a → n + 1 < reads
      → IsOneStepped i a s (Ok (Read k)) t old mid → ReadsOut i reads (n + 1) t result u mid new
      → ReadsOut i reads n s result u old new
  grows : {n : ℕ} {s t : State} {old new : Option History} (a : Adaptor) (k : ℕ)
      (fault : RoundFault) → slice_get s.adaptors i ≡ Some a → n + 1 ≡ reads
      → IsOneStepped i a s (Ok (Read k)) t old new → IsGrowing a.path reads fault
      → ReadsOut i reads n s (Err fault) t old new
  shrinks : {n : ℕ} {s t : State} {old new : Option History} (a : Adaptor) (had is : ℕ)
      (fault : RoundFault) → slice_get s.adaptors i ≡ Some a
      → IsOneStepped i a s (Ok (step_shrank had is)) t old new
      → IsShrank a.path had is fault → ReadsOut i reads n s (Err fault) t old new
  unread : {n : ℕ} {s t : State} {old new : Option History} (a : Adaptor) (fault : AgentFault)
      → slice_get s.adaptors i ≡ Some a → IsOneStepped i a s (Err fault) t old new
      → ReadsOut i reads n s (Err (of_agent fault)) t old new
  held : {n : ℕ} {s t u v : State} {result : Result (Unit {0}) RoundFault}
      {old mid next new : Option History} (a : Adaptor) (used : ℕ) → slice_get s.adaptors i ≡ Some a
      → IsOneStepped i a s (Ok (Held used)) t old mid → Adds mid next RestCalls → PostedSome t u
      → ReadsOut i reads n u result v next new → ReadsOut i reads n s result v old new
  unposted : {n : ℕ} {s t u : State} {old mid new : Option History} (a : Adaptor) (used : ℕ)
      (fault : RoundFault) → slice_get s.adaptors i ≡ Some a
      → IsOneStepped i a s (Ok (Held used)) t old mid → Adds mid new Anything
      → IsNoRead fault → ReadsOut i reads n s (Err fault) u old new

-- So each adaptor that is read on, from this number on, up to one that ends it.
pub data ReadsEach (reads : ℕ) : ℕ → State → Result (Unit {0}) RoundFault → State → Option History
    → Option History → Type 0 where
  all : {n : ℕ} {s : State} {now : Option History} → length s.adaptors ≤ n
      → ReadsEach reads n s (Ok tt) s now now
  skipped : {n : ℕ} {s t : State} {result : Result (Unit {0}) RoundFault} {old new : Option History}
      → is_read_on (slice_get s.adaptors n) ≡ false → ReadsEach reads (n + 1) s result t old new
      → ReadsEach reads n s result t old new
  one : {n : ℕ} {s t u : State} {result : Result (Unit {0}) RoundFault}
      {old mid new : Option History} → is_read_on (slice_get s.adaptors n) ≡ true → ReadsOut n reads 0 s (Ok tt) t old mid
      → ReadsEach reads (n + 1) t result u mid new → ReadsEach reads n s result u old new
  ended : {n : ℕ} {s t : State} {fault : RoundFault} {old new : Option History}
      → is_read_on (slice_get s.adaptors n) ≡ true → ReadsOut n reads 0 s (Err fault) t old new
      → ReadsEach reads n s (Err fault) t old new

-- it came to this end, from this state of the agent
abbrev pub ReadsTo : ℕ → State → Result (Unit {0}) RoundFault → Option History → Option History
    → Type 0
ReadsTo reads s result old new = (t : State) × ReadsEach reads 0 s result t old new

-- A run whose reads were made so. At Ok each log was read to its end, and behind that none is read; an
-- end by a read is that of these reads.
abbrev pub RunReads : {T : Type 0} → ℕ → State → Result T RoundFault → Option History
    → Option History → Type 0
RunReads reads s (Ok value) old new =
    (mid : Option History) × ReadsTo reads s (Ok tt) old mid × Adds mid new ReadsNoMore
RunReads reads s (Err fault) old new = IsNoRead fault ⊎ ReadsTo reads s (Err fault) old new

-- An end by a read, behind the calls that begin the round: it comes only of reads of this source's
-- agent that ended so.
abbrev pub RoundReads : {T : Type 0} → List ℕ → ℕ → Result T RoundFault → Option History
    → Option History → Type 0
RoundReads source reads (Ok value) old new = Unit {0}
RoundReads source reads (Err fault) old new =
    IsNoRead fault
    ⊎ ((s : State) × (s.source ≡ source) × (mid : Option History) × Adds old mid Anything
    × ReadsTo reads s (Err fault) mid new)

-- each adaptor of the later state that isn't past was to be read in the earlier one
abbrev pub WereRead : State → State → Type 0
WereRead s t =
    (i : ℕ) (y : Adaptor) → slice_get t.adaptors i ≡ Some y → is_past y.phase ≡ false
    → (x : Adaptor) × (slice_get s.adaptors i ≡ Some x) × (is_stepped x.phase ≡ true)
    × (x.kind ≡ y.kind) × (x.path ≡ y.path)

-- Behind the start of this source's agent, and the adding of these logs, it read its logs, each to
-- its end, by fewer than so many reads that gave bytes. The log of each adaptor that is live now was
-- among them, and just these and those that the start found live are.
pub record ReadsLogs (source kind : List ℕ) (class : Class) (cluster : List ℕ)
    (logs : List (List ℕ)) (reads : ℕ) (now : State) (old new : Option History) : Type 0 where
  pub begun : State
  pub source_is : begun.source ≡ source
  pub mid : Option History
  pub before : BeginsSo source kind class cluster logs begun old mid
  pub script : RunReads {T = Unit {0}} reads begun (Ok tt) mid new
  pub each : WereRead begun now
  pub live : KeepsLive kind logs before.fresh.saved (lines_of now)
