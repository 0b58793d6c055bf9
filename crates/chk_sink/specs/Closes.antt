-- What committing, closing and ticking lead to.
use Rattle.std.specs.Prelude.{◌≡◌, ℕ, true, false, List, length, Option, Some, None, Result, Ok, Err}
use Rattle.chk_bytes.specs.Stems.{Stem}
use Rattle.chk_site.specs.Files.{Files}
use Rattle.chk_site.specs.Acts.{Lists, deed}
use Rattle.chk_site.specs.History.{Step, History, Ever, files_after}
use Rattle.chk_world.specs.Names.{DoneFile, file}
use Rattle.chk_world.specs.Committed.{HasFile, committed_length}
use Rattle.chk_world.specs.Places.{AtTold}
use Rattle.chk_sink.specs.declared.fault.SinkFault.{SinkFault}
use Rattle.chk_sink.specs.declared.fault.SinkFault.TheVariants.{Damaged, Spent}
use Rattle.chk_sink.specs.States.{State, Writing, process, last_stem}
use Rattle.chk_sink.specs.Held.{Holds, Matches}
use Rattle.chk_sink.specs.Ticking.{is_due}

-- where a sink is written to, all of it is committed
abbrev pub IsCommitted : Stem → Files → Option Writing → Type 0
IsCommitted x files None = Unit {0}
IsCommitted x files (Some o) = committed_length files x ≡ o.size

-- its mark says all of it, where a sink is written to
abbrev pub IsMarked : Option Writing → Type 0
IsMarked None = Unit {0}
IsMarked (Some o) = o.marked ≡ o.size

-- the call was done, and called nothing
pub record Idles (result : Result (Unit {0}) SinkFault) (before after : Option History) : Type 0 where
  pub done : result ≡ Ok tt
  pub uncalled : after ≡ before

-- where the call was done, P holds
abbrev pub OnceDone : Result (Unit {0}) SinkFault → Type 0 → Type 0
OnceDone (Ok value) P = P
OnceDone (Err fault) P = Unit {0}

-- the history holds the sinks, and where the commit was done all of the sink that is written to is committed
pub record CommitHolds (s : State) (result : Result (Unit {0}) SinkFault) (history : History) : Type 0 where
  pub holds : Holds s history
  pub committed : OnceDone result (IsCommitted (last_stem s) (files_after history) s.current)

-- the same of a told history
abbrev pub Committed : List (List ℕ) → State → Result (Unit {0}) SinkFault → History → Type 0
Committed stamped s result history = AtTold stamped (process s) (CommitHolds s result) history

-- the sink that was written to was at some moment a done sink, with all that it held
abbrev pub WasClosed : Stem → Option Writing → History → Type 0
WasClosed x None history = Unit {0}
WasClosed x (Some o) history =
    Ever (λ front. HasFile (file (files_after front) (DoneFile x)) (λ f. length f.bytes ≡ o.size)) history

-- the history holds the sinks, and where the close was done the sink that was written to became a done one
pub record CloseHolds (old new : State) (result : Result (Unit {0}) SinkFault) (history : History) : Type 0 where
  pub holds : Holds new history
  pub closed : OnceDone result (WasClosed (last_stem old) old.current history)

-- the same of a told history
abbrev pub Closed : List (List ℕ) → State → State → Result (Unit {0}) SinkFault → History → Type 0
Closed stamped old new result history = AtTold stamped (process new) (CloseHolds old new result) history

-- the history holds the sinks, and nothing of the collector's own is ever damaged
abbrev pub Settled : List (List ℕ) → State → Result (Unit {0}) SinkFault → History → Type 0
Settled stamped s (Err (Damaged name at)) history = AtTold stamped (process s) (λ front. ⊥) history
Settled stamped s result history = Matches stamped s history

-- where nothing is written to any more, the sink that was became a done one
abbrev pub IsClosedWhole : State → State → History → Type 0
IsClosedWhole old new history = new.current ≡ None → WasClosed (last_stem old) old.current history

-- the history holds the sinks; where the tick was done all of the sink that is written to is committed, or it was
-- closed; and nothing of the collector's own is ever damaged
pub record TickHolds (old new : State) (result : Result (Unit {0}) SinkFault) (history : History) : Type 0 where
  pub holds : Holds new history
  pub committed : OnceDone result (IsCommitted (last_stem new) (files_after history) new.current)
  pub closed : OnceDone result (IsClosedWhole old new history)
  pub sound : (name : List ℕ) (at : ℕ) → result ≡ Err (Damaged name at) → ⊥

-- the same of a told history
abbrev pub Ticked : List (List ℕ) → State → State → Result (Unit {0}) SinkFault → History → Type 0
Ticked stamped old new result history = AtTold stamped (process new) (TickHolds old new result) history

-- a tick at this moment has nothing to do: no sink was abandoned, the mark of the one that is written to says all of it,
-- and it isn't closed
pub record IsIdleAt (now : ℕ) (s : State) : Type 0 where
  pub settled : s.abandoned ≡ false
  pub marked : IsMarked s.current
  pub early : is_due now s ≡ false

-- a tick finds no number spent
abbrev pub IsOfTick : SinkFault → Type 0
IsOfTick (Spent number) = ⊥
IsOfTick fault = Unit {0}

-- the step is no listing by the site's own process
abbrev pub IsNoListing : History → Step → Type 0
IsNoListing before step = (folder : List ℕ) → step.own ≡ true → deed step.act ≡ Lists folder → ⊥
