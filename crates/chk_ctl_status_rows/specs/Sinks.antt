-- The sinks of a store, as own calls show them.
use Rattle.std.specs.Prelude.{◌≡◌, ℕ, ◌==◌, List, [], ◌∷◌, ◌++◌, length, codes, count_by}
use Rattle.std.specs.Prelude.{if◌then◌else◌, option_and_then, Option, Some, None, Result, Ok, Err}
use Rattle.chk_bytes.specs.Numbers.{spelled_at}
use Rattle.chk_bytes.specs.Stems.{Stem, read_stem}
use Rattle.chk_bytes.specs.Words.{before_end}
use Rattle.chk_site.specs.declared.acts.Call.TheVariants.{Size, Read, List as ListNames}
use Rattle.chk_site.specs.declared.acts.CallFault.{CallFault}
use Rattle.chk_site.specs.declared.acts.OutsideFault.{OutsideFault}
use Rattle.chk_site.specs.declared.acts.OutsideFault.TheVariants.{NoMemory as no_memory}
use Rattle.chk_site.specs.declared.acts.Who.{Who}
use Rattle.chk_site.specs.Acts.{Deed, Lists, Pauses, Says}
use Rattle.chk_site.specs.History.{History}
use Rattle.chk_site.specs.Once.{TakenOnce}
use Rattle.chk_site.specs.Site.{answered, asked, bytes_given, names_given, sized, Adds, Asked}
use Rattle.chk_site.specs.Site.{Calls, Ends}
use Rattle.chk_world.specs.ArchiveRuns.{is_closed}
use Rattle.chk_world.specs.JobSteps.{ReadsFile}
use Rattle.chk_world.specs.Names.{spell, MarkFile, SinkFile}
use Rattle.chk_ctl_status_rows.specs.declared.sinks.OpenSink.{OpenSink}
use Rattle.chk_ctl_status_rows.specs.declared.sinks.Sinks.{Sinks}

-- the calls of one who looks around: he reads, lists, prints and waits
pub data LooksAround : Deed → Type 0 where
  reads : (call : Deed) → ReadsFile call → LooksAround call
  lists : (folder : List ℕ) → LooksAround (Lists folder)
  says : (text : List ℕ) → LooksAround (Says text)
  waits : (ms : ℕ) → LooksAround (Pauses ms)

-- the stem of the sink under writing that a file of this name is
abbrev pub open_stem : List ℕ → Option Stem
open_stem name = option_and_then read_stem (before_end (codes ".chukwa") name)

-- the number in a mark; 0 where there is none, or another number of bytes than eight
abbrev pub number_of : List ℕ → ℕ
number_of bytes = if length bytes == 8 then spelled_at 0 8 bytes else 0

abbrev pub marked : Option (List ℕ) → ℕ
marked None = 0
marked (Some bytes) = number_of bytes

-- the calls: a listing, the length of a sink, and a read of a mark
abbrev pub listing : Who → Asked
listing who = asked who ListNames (codes "sinks" ∷ []) 0 0

abbrev pub sizing : Who → Stem → Asked
sizing who x = asked who Size (spell (SinkFile x) ∷ []) 0 0

abbrev pub read_once : Who → List ℕ → Asked
read_once who name = asked who Read (name ∷ []) 0 9

abbrev pub reading : Who → Stem → Asked
reading who x = read_once who (spell (MarkFile x))

-- what the listing gave, or how it ended the work
abbrev pub Listed : Who → Result (List (List ℕ)) OutsideFault → Option History → Option History
    → Type 0
Listed who (Ok names) old new = Adds old new (Calls (listing who) (Ok (names_given names)))
Listed who (Err fault) old new =
    (given : Result (List (List ℕ)) CallFault) × Ends ListNames given fault
    × Adds old new (Calls (listing who) (answered names_given given))

-- a sink of this length, with what its mark says
abbrev pub sink_of : Stem → ℕ → Option (List ℕ) → OpenSink
sink_of x written mark = record {
  stem = x;
  written = written;
  committed = marked mark;
  quiet = None;
}

-- the mark is read
pub data SeesMark (who : Who) (x : Stem) (n : ℕ) : Result (Option OpenSink) OutsideFault
    → Option History → Option History → Type 0 where
  mark_unnamed : {now : Option History} → SeesMark who x n (Err no_memory) now now
  mark_unread : {fault : OutsideFault} {old new : Option History}
      → TakenOnce {V = List ℕ} (reading who x) bytes_given (Err fault) old new
      → SeesMark who x n (Err fault) old new
  mark_read : {mark : Option (List ℕ)} {old new : Option History}
      → TakenOnce (reading who x) bytes_given (Ok mark) old new
      → SeesMark who x n (Ok (Some (sink_of x n mark))) old new

-- the length is asked for before
pub data SeesSink (who : Who) (x : Stem) : Result (Option OpenSink) OutsideFault
    → Option History → Option History → Type 0 where
  unnamed : {now : Option History} → SeesSink who x (Err no_memory) now now
  unsized : {fault : OutsideFault} {old new : Option History}
      → TakenOnce {V = ℕ} (sizing who x) sized (Err fault) old new
      → SeesSink who x (Err fault) old new
  went : {old new : Option History} → TakenOnce {V = ℕ} (sizing who x) sized (Ok None) old new
      → SeesSink who x (Ok None) old new
  stands : {n : ℕ} {result : Result (Option OpenSink) OutsideFault}
      {old mid new : Option History} → TakenOnce (sizing who x) sized (Ok (Some n)) old mid
      → SeesMark who x n result mid new → SeesSink who x result old new

-- the list, or the refusal
abbrev pub with_items : {A : Type 0} → List A → Result (Unit {0}) OutsideFault
    → Result (List A) OutsideFault
with_items items (Ok value) = Ok items
with_items items (Err fault) = Err fault

-- one more behind the others, or no memory for it
abbrev pub pushed : List OpenSink → OpenSink → Result (Unit {0}) OutsideFault
    → Result (List OpenSink) OutsideFault
pushed sinks sink (Ok value) = Ok (sinks ++ sink ∷ [])
pushed sinks sink (Err fault) = Err no_memory

-- the file of this name is looked at, where it is a sink under writing
pub data AddsSink (who : Who) (sinks : List OpenSink) (name : List ℕ)
    : Result (List OpenSink) OutsideFault → Option History → Option History → Type 0 where
  other : {now : Option History} → open_stem name ≡ None
      → AddsSink who sinks name (Ok sinks) now now
  passed : {old new : Option History} (x : Stem) → open_stem name ≡ Some x
      → SeesSink who x (Ok None) old new → AddsSink who sinks name (Ok sinks) old new
  added : {sink : OpenSink} {old new : Option History} (result : Result (Unit {0}) OutsideFault)
      (x : Stem) → open_stem name ≡ Some x → SeesSink who x (Ok (Some sink)) old new
      → AddsSink who sinks name (pushed sinks sink result) old new
  failed : {fault : OutsideFault} {old new : Option History} (x : Stem)
      → open_stem name ≡ Some x → SeesSink who x (Err fault) old new
      → AddsSink who sinks name (Err fault) old new

-- each of the files, up to a refusal
pub data SeesSinks (who : Who) : List OpenSink → List (List ℕ)
    → Result (List OpenSink) OutsideFault → Option History → Option History → Type 0 where
  none_left : {sinks : List OpenSink} {now : Option History}
      → SeesSinks who sinks [] (Ok sinks) now now
  one_more : {sinks more : List OpenSink} {name : List ℕ} {names : List (List ℕ)}
      {result : Result (List OpenSink) OutsideFault} {old mid new : Option History}
      → AddsSink who sinks name (Ok more) old mid → SeesSinks who more names result mid new
      → SeesSinks who sinks (name ∷ names) result old new
  ended : {sinks : List OpenSink} {name : List ℕ} {names : List (List ℕ)}
      {fault : OutsideFault} {old new : Option History}
      → AddsSink who sinks name (Err fault) old new
      → SeesSinks who sinks (name ∷ names) (Err fault) old new

-- those under writing, and how many closed ones there are
abbrev pub AreSinks : List (List ℕ) → Result (List OpenSink) OutsideFault
    → Result Sinks OutsideFault → Type 0
AreSinks names (Ok sinks) (Ok s) =
    (s.unclosed.items ≡ sinks) × (s.closed ≡ count_by is_closed names)
AreSinks names (Ok sinks) (Err fault) = ⊥
AreSinks names (Err fault) result = result ≡ Err fault

pub record SeesNames (who : Who) (names : List (List ℕ)) (result : Result Sinks OutsideFault)
    (old new : Option History) : Type 0 where
  pub sinks : Result (List OpenSink) OutsideFault
  pub seen : SeesSinks who [] names sinks old new
  pub are : AreSinks names sinks result

-- the folder is listed before
pub data FindsSinks (who : Who) : Result Sinks OutsideFault → Option History → Option History
    → Type 0 where
  unlisted : {fault : OutsideFault} {old new : Option History} → Listed who (Err fault) old new
      → FindsSinks who (Err fault) old new
  listed : {names : List (List ℕ)} {result : Result Sinks OutsideFault}
      {old mid new : Option History} → Listed who (Ok names) old mid
      → SeesNames who names result mid new → FindsSinks who result old new
