-- What the put of a chunk leads to.
use Rattle.std.specs.Prelude.{◌≡◌, ◌⊎◌, ℕ, ◌+◌, ◌≤◌, ◌||◌, IsTrue, is_some, MatchBool, List, [], ◌∷◌, ◌++◌, map, Option, Some, None, Result, Ok, Err}
use Rattle.chk_bytes.specs.Stems.{Stem}
use Rattle.chk_site.specs.History.{History}
use Rattle.chk_seqfile.specs.Headers.{header}
use Rattle.chk_chunk.specs.Keys.{Chunk}
use Rattle.chk_http_grammar.specs.Messages.{ack_of}
use Rattle.chk_world.specs.Collectors.{Handling, Appended, Tells, marker, with_appends}
use Rattle.chk_world.specs.Places.{AtTold}
use Rattle.chk_sink.specs.declared.fault.SinkFault.{SinkFault}
use Rattle.chk_sink.specs.declared.fault.SinkFault.TheVariants.{Outside, Damaged, Spent, NoMemory}
use Rattle.chk_sink.specs.States.{State, Writing, process, last_stem, let_go, needs_next, without_full, IsAbandoned, IsSpent}
use Rattle.chk_sink.specs.Held.{Handles}

-- the append wrote a sink's header
abbrev pub IsHeader : Appended → Type 0
IsHeader w = w.piece ≡ header (marker w.stem)

-- each of them did
abbrev pub AreHeaders : List Appended → Type 0
AreHeaders [] = Unit {0}
AreHeaders (w ∷ appends) = IsHeader w × AreHeaders appends

-- the last one of these appends wrote the chunk's record where the answer says, and the others wrote headers
pub record EndsInRecord (c : Chunk) (x : Stem) (end : ℕ) (appends : List Appended) : Type 0 where
  pub earlier : List Appended
  pub last : Appended
  pub is : appends ≡ earlier ++ last ∷ []
  pub begins : AreHeaders earlier
  pub tells : Tells c (ack_of x end) last

-- so it is where the put was done; a refused put wrote no record
abbrev pub IsAnswered : Chunk → Result (Stem × ℕ) SinkFault → List Appended → Type 0
IsAnswered c (Ok placed) appends = EndsInRecord c placed.0 placed.1 appends
IsAnswered c (Err fault) appends = AreHeaders appends

-- the history holds the sinks, and since these messages were taken the put made some appends: the header of a new
-- sink, and as the last one the chunk's record
pub record PutHolds (s : State) (handled : List Handling) (c : Chunk) (result : Result (Stem × ℕ) SinkFault)
    (history : History) : Type 0 where
  pub appends : List Appended
  pub handles : Handles s (map (with_appends appends) handled) history
  pub answer : IsAnswered c result appends

-- the same of a told history
abbrev pub Wrote : List (List ℕ) → State → List Handling → Chunk → Result (Stem × ℕ) SinkFault → History → Type 0
Wrote stamped s handled c result history = AtTold stamped (process s) (PutHolds s handled c result) history

-- a sink is written to that ends there
abbrev pub EndsAt : Option Writing → ℕ → Type 0
EndsAt None end = ⊥
EndsAt (Some o) end = o.size ≡ end

-- the sink that is written to is the one that was created last, and ends where the answer says
abbrev pub IsPlaced : State → Stem × ℕ → Type 0
IsPlaced s placed = (placed.0 ≡ last_stem s) × EndsAt s.current placed.1

-- the next sink was created, and is abandoned without a record
pub record IsUnfilled (old new : State) : Type 0 where
  pub number : new.number ≡ old.number + 1
  pub abandoned : IsAbandoned new

-- what stands after a refused put into the sink that is written to
abbrev pub LeavesInSame : State → State → SinkFault → Type 0
LeavesInSame old new (Outside call) = IsAbandoned new
LeavesInSame old new NoMemory = new ≡ old
LeavesInSame old new fault = ⊥

-- what stands after a refused put into the next sink
abbrev pub LeavesInNext : State → State → SinkFault → Type 0
LeavesInNext old new (Outside call) = IsAbandoned new
LeavesInNext old new NoMemory = (new ≡ old) ⊎ IsUnfilled old new
LeavesInNext old new fault = ⊥

-- What stands after a refused put. After a failed call the sink is abandoned. For want of memory only a full sink is, or
-- a next one that was created by this put. Where no number is left a full sink is.
abbrev pub LeavesAfterPut : State → State → SinkFault → Type 0
LeavesAfterPut old new (Outside call) = IsAbandoned new
LeavesAfterPut old new NoMemory = (new ≡ without_full old) ⊎ (IsTrue (needs_next old.current) × IsUnfilled old new)
LeavesAfterPut old new (Spent born) = new ≡ let_go old
LeavesAfterPut old new (Damaged name at) = ⊥

-- that no number is left is answered exactly where it is so, with the number of the start
pub record SpentExactly {T : Type 0} (s : State) (result : Result T SinkFault) : Type 0 where
  pub where_spent : IsSpent s → result ≡ Err (Spent s.born)
  pub only : (born : ℕ) → result ≡ Err (Spent born) → IsSpent s

-- the sink is the same one, and only its length and the place of its last sync entry are new
abbrev pub IsGrown : Option Writing → Option Writing → Type 0
IsGrown (Some o) (Some n) = (o.size ≤ n.size) × (n.marked ≡ o.marked) × (n.seen ≡ o.seen)
IsGrown old new = ⊥

-- the sink has no mark, and no tick saw it
abbrev pub IsNew : Option Writing → Type 0
IsNew None = ⊥
IsNew (Some n) = (n.marked ≡ 0) × (n.seen ≡ None)

-- the put went into the sink that is written to
pub record GoesOnInSame (old new : State) : Type 0 where
  pub number : new.number ≡ old.number
  pub abandoned : new.abandoned ≡ old.abandoned
  pub current : IsGrown old.current new.current

-- the put made the next sink, and a full one before it is abandoned
pub record GoesOnInNext (old new : State) : Type 0 where
  pub number : new.number ≡ old.number + 1
  pub abandoned : new.abandoned ≡ (old.abandoned || is_some old.current)
  pub current : IsNew new.current

-- how the sinks go on by a put that was done
abbrev pub GoesOn : State → State → Type 0
GoesOn old new = MatchBool (needs_next old.current) (GoesOnInNext old new) (GoesOnInSame old new)
