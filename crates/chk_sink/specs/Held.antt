-- What the told history holds of the sinks of a start: their fields are what the collector's rules see.
use Rattle.std.specs.Prelude.{◌≡◌, ℕ, false, ◌&&◌, IsTrue, IsFalse, is_some, List, length, Option, Some, None}
use Rattle.chk_bytes.specs.Stems.{Stem, is_stem, same_stem}
use Rattle.chk_site.specs.Files.{Files}
use Rattle.chk_site.specs.History.{History, files_after}
use Rattle.chk_world.specs.Names.{SinkFile, MarkFile, file}
use Rattle.chk_world.specs.Committed.{HasFile, IsAbsent, number_in}
use Rattle.chk_world.specs.Collectors.{View, Handling, view}
use Rattle.chk_world.specs.Places.{AtTold}
use Rattle.chk_sink.specs.States.{State, Writing, process, last_stem}

-- the collector may append to the sink x, and its files are as kept
pub record IsWriting (x : Stem) (v : View) (files : Files) (o : Writing) : Type 0 where
  pub current : v.current ≡ Some (record { stem = x; sync_end = o.sync_end })
  pub size : HasFile (file files (SinkFile x)) (λ f. length f.bytes ≡ o.size)
  pub marked : number_in (file files (MarkFile x)) ≡ o.marked

-- so it is where one is written to
abbrev pub IsAsKept : Stem → View → Files → Option Writing → Type 0
IsAsKept x v files None = Unit {0}
IsAsKept x v files (Some o) = IsWriting x v files o

-- the stem is one of this collector's, and not of the sink that is written to
pub record IsOther (s : State) (x : Stem) : Type 0 where
  pub own : x.collector ≡ s.collector
  pub stem : IsTrue (is_stem x)
  pub other : IsFalse (is_some s.current && same_stem x (last_stem s))

-- of the collector's other sinks none is under writing, and none has a mark
abbrev pub IsTidy : State → Files → Type 0
IsTidy s files =
    (x : Stem) → IsOther s x → IsAbsent (file files (SinkFile x)) × IsAbsent (file files (MarkFile x))

-- the number of the start, the count of sinks and the sink that is written to are those of the history, and where
-- none was abandoned no other sink is under writing
pub record Holds (s : State) (history : History) : Type 0 where
  pub born : (view (process s) history).born ≡ Some s.born
  pub made : (view (process s) history).made ≡ s.number
  pub writing : IsAsKept (last_stem s) (view (process s) history) (files_after history) s.current
  pub tidy : s.abandoned ≡ false → IsTidy s (files_after history)

-- the told history is legal and, where the site wasn't stopped, holds the sinks
abbrev pub Matches : List (List ℕ) → State → History → Type 0
Matches stamped s history = AtTold stamped (process s) (Holds s) history

-- it holds the sinks, and these are the messages that the collector took
pub record Handles (s : State) (messages : List Handling) (history : History) : Type 0 where
  pub holds : Holds s history
  pub handled : (view (process s) history).handled ≡ messages

-- the same of a told history
abbrev pub Ready : List (List ℕ) → State → List Handling → History → Type 0
Ready stamped s handled history = AtTold stamped (process s) (Handles s handled) history
