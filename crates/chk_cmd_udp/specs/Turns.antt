-- One turn of a writer of datagrams: which calls it makes, in order, and where it is cut short.
use Rattle.std.specs.Prelude.{◌≡◌, ℕ, ◌-◌, ◌≤◌, ◌<◌, true, false, List, Option, Some, None, Result, Ok, Err}
use Rattle.chk_site.specs.declared.acts.Who.{Who}
use Rattle.chk_site.specs.History.{History}
use Rattle.chk_wahead.specs.declared.fault.WaheadFault.{WaheadFault}
use Rattle.chk_wahead.specs.Scripts.{Did, commit_of, close_of}
use Rattle.chk_wahead.specs.States.{State, Held, all_marked, length_of}
use Rattle.chk_cmd_udp.specs.declared.tally.Tally.{Tally}
use Rattle.chk_cmd_udp.specs.Takings.{Gathers}

-- a commit of these buffers, by its result
abbrev pub Commits : State → Option History → Result (Unit {0}) WaheadFault → State → Option History
    → Type 0
Commits s old result u new = Did (commit_of s.who s.held) s s.number (all_marked s.held) result u
    old new

-- a close of these buffers, by its result
abbrev pub Closes : State → Option History → Result (Unit {0}) WaheadFault → State → Option History
    → Type 0
Closes s old result u new = Did (close_of s.who s.number s.held) s s.number None result u old new

-- A commit, and then a close where the buffer has `rotate` bytes or more.
pub data Settles (rotate : ℕ) (s : State) (old : Option History) : Result (Unit {0}) WaheadFault
    → State → Option History → Type 0 where
  uncommitted : {u : State} {new : Option History} (fault : WaheadFault)
      → Commits s old (Err fault) u new
      → Settles rotate s old (Err fault) u new
  kept : {u : State} {new : Option History} → Commits s old (Ok tt) u new
      → length_of u.held < rotate
      → Settles rotate s old (Ok tt) u new
  closed : {u v : State} {result : Result (Unit {0}) WaheadFault} {mid new : Option History}
      → Commits s old (Ok tt) u mid
      → rotate ≤ length_of u.held → Closes u mid result v new → Settles rotate s old result v new

-- One turn of at most so many datagrams. Where one came, they are committed; where none came, the
-- buffer is closed.
pub data IsTurn (who : Who) (door : List ℕ) (rotate messages : ℕ) (s : State) (t : Tally)
    (old : Option History)
    : Result (Unit {0}) WaheadFault → State → Tally → Option History → Type 0 where
  ungathered : {u : State} {w : Tally} {new : Option History} (fault : WaheadFault)
      → Gathers who door rotate (messages - 1) s t old (Err fault) u w new
      → IsTurn who door rotate messages s t old (Err fault) u w new
  silent : {u v : State} {w : Tally} {result : Result (Unit {0}) WaheadFault}
      {mid new : Option History}
      → Gathers who door rotate (messages - 1) s t old (Ok false) u w mid
      → Closes u mid result v new
      → IsTurn who door rotate messages s t old result v w new
  heard : {u v : State} {w : Tally} {result : Result (Unit {0}) WaheadFault}
      {mid new : Option History}
      → Gathers who door rotate (messages - 1) s t old (Ok true) u w mid
      → Settles rotate u mid result v new
      → IsTurn who door rotate messages s t old result v w new

-- there is no buffer, or its mark is its length, which is below `rotate`
abbrev pub IsTidy : ℕ → Option Held → Type 0
IsTidy rotate None = Unit {0}
IsTidy rotate (Some h) = (h.marked ≡ h.length_now) × (h.length_now < rotate)
