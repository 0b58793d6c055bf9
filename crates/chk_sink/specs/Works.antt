-- Which calls the sinks make, on which files.
use Rattle.std.specs.Prelude.{◌≡◌, ◌⊎◌, ℕ, List, [], codes, MatchBool, is_some, true, Option, Some, None, Err}
use Rattle.chk_bytes.specs.Numbers.{be64}
use Rattle.chk_bytes.specs.Stems.{Stem}
use Rattle.chk_site.specs.declared.acts.Who.{Who}
use Rattle.chk_site.specs.Acts.{Deed, Starts, Creates, Appends, Renames, Removes, Cuts, AsksSize, Reads, Lists}
use Rattle.chk_site.specs.History.{History}
use Rattle.chk_site.specs.Site.{Asked}
use Rattle.chk_replace.specs.Replace.{replacement}
use Rattle.chk_world.specs.Names.{BornFile, SinkFile, MarkFile, DoneFile, spell}
use Rattle.chk_world.specs.Works.{Works, IsOneOf}
use Rattle.chk_sink.specs.declared.fault.SinkFault.{SinkFault}
use Rattle.chk_sink.specs.Faults.{IsOutside, ended_by}
use Rattle.chk_sink.specs.States.{State, Writing, process, last_stem, next_stem, needs_next, given_up}
use Rattle.chk_sink.specs.Held.{IsOther}
use Rattle.chk_sink.specs.Closing.{publishing, closing}

-- an append to the sink
abbrev pub IsAppendTo : Stem → Deed → Type 0
IsAppendTo x (Appends w piece) = w ≡ spell (SinkFile x)
IsAppendTo x call = ⊥

-- the creation of the sink, or an append to it
abbrev pub IsMaking : Stem → Deed → Type 0
IsMaking x (Creates w) = w ≡ spell (SinkFile x)
IsMaking x call = IsAppendTo x call

-- a put appends to the sink that is written to, or makes the next one
abbrev pub OfPut : State → Deed → Type 0
OfPut s call = MatchBool (needs_next s.current) (IsMaking (next_stem s) call) (IsAppendTo (last_stem s) call)

-- what a commit of the sink that is written to calls for
abbrev pub commit_calls : State → Option Writing → List Asked
commit_calls s None = []
commit_calls s (Some o) = publishing (process s) (last_stem s) o.size

-- what its close calls for
abbrev pub close_calls : State → Option Writing → List Asked
close_calls s None = []
close_calls s (Some o) = closing (process s) (last_stem s)

-- a commit syncs the sink that is written to, and replaces its mark by its length
abbrev pub OfCommit : State → Deed → Type 0
OfCommit s = IsOneOf (commit_calls s s.current)

-- a close also renames it to its done sink, and removes its mark
abbrev pub OfClose : State → Deed → Type 0
OfClose s call = OfCommit s call ⊎ IsOneOf (close_calls s s.current) call

-- a sink that was left is settled: its mark is read, it is cut and renamed to its done sink, and it or its mark is removed
abbrev pub OfLeft : Stem → Deed → Type 0
OfLeft x (Reads w at max) = (w ≡ spell (MarkFile x)) × (at ≡ 0) × (max ≡ 9)
OfLeft x (Cuts w n) = w ≡ spell (SinkFile x)
OfLeft x (Renames w to) = (w ≡ spell (SinkFile x)) × (to ≡ spell (DoneFile x))
OfLeft x (Removes w) = (w ≡ spell (SinkFile x)) ⊎ (w ≡ spell (MarkFile x))
OfLeft x call = ⊥

-- the listing of the sinks
abbrev pub IsListing : Deed → Type 0
IsListing call = call ≡ Lists (codes "sinks")

-- the sinks are listed, and each of the collector's own but the one that is written to is settled
abbrev pub OfSettling : State → Deed → Type 0
OfSettling s call = IsListing call ⊎ ((x : Stem) × IsOther s x × OfLeft x call)

-- a tick settles, commits and closes
abbrev pub OfTick : State → Deed → Type 0
OfTick s call = OfSettling s call ⊎ OfClose s call

-- the number of the last start is read
abbrev pub OfLook : List ℕ → Deed → Type 0
OfLook name Starts = Unit {0}
OfLook name (Reads w at max) = (w ≡ spell (BornFile name)) × (at ≡ 0) × (max ≡ 9)
OfLook name call = ⊥

-- the process starts, reads the number of its last start, and replaces it by another one
abbrev pub OfPublishing : Who → Deed → Type 0
OfPublishing who call =
    OfLook who.name call ⊎ ((born : ℕ) × IsOneOf (replacement who (spell (BornFile who.name)) (be64 born)) call)

-- a start also settles what was left: the collector writes to no sink yet
abbrev pub OfStart : Who → Deed → Type 0
OfStart who call =
    OfPublishing who call
    ⊎ (IsListing call ⊎ ((x : Stem) × (x.collector ≡ who.name) × OfLeft x call))

-- the question for a committed length: the size of the done sink, and its mark
abbrev pub OfQuestion : Stem → Deed → Type 0
OfQuestion x (AsksSize w) = w ≡ spell (DoneFile x)
OfQuestion x (Reads w at max) = (w ≡ spell (MarkFile x)) × (at ≡ 0) × (max ≡ 9)
OfQuestion x call = ⊥

-- the sink that was written to is abandoned, and nothing else changed
pub record IsLetGo (old new : State) : Type 0 where
  pub written : is_some old.current ≡ true
  pub given_up : new ≡ given_up old

-- the settling of a tick was refused: nothing changed, and its calls alone were made
pub record SettlingRefused (old new : State) (fault : SinkFault) (before after : Option History) : Type 0 where
  pub abandoned : old.abandoned ≡ true
  pub same : new ≡ old
  pub own : Works (process old) (OfSettling old) (ended_by {T = Unit {0}} (Err fault)) before after

-- the settling was done, and then the commit or the close of the sink that is written to was refused
pub record ClosingRefused (old new : State) (fault : SinkFault) (before after : Option History) : Type 0 where
  pub outside : IsOutside fault
  pub let_go : IsLetGo old new
  pub settled : Option History
  pub settling : Works (process old) (OfSettling old) None before settled
  pub own : Works (process old) (OfClose old) (ended_by {T = Unit {0}} (Err fault)) settled after

-- what stands after a refused tick: only the sink that was worked on is another one than before
abbrev pub LeavesAfterTick : State → State → SinkFault → Option History → Option History → Type 0
LeavesAfterTick old new fault before after =
    SettlingRefused old new fault before after ⊎ ClosingRefused old new fault before after
