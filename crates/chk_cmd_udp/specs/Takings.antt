-- What a turn takes and puts, datagram by datagram.
use Rattle.std.specs.Prelude.{ℕ, suc, ◌+◌, ◌-◌, ◌^◌, ◌≤◌, ◌<◌, min, Bool, true, false, List, [], ◌∷◌, length, Option, Some, None, Result, Ok, Err}
use Rattle.chk_site.specs.declared.acts.Who.{Who}
use Rattle.chk_site.specs.declared.acts.Call.TheVariants.{Take}
use Rattle.chk_site.specs.declared.acts.CallFault.{CallFault}
use Rattle.chk_site.specs.declared.acts.OutsideFault.{OutsideFault}
use Rattle.chk_site.specs.declared.suffixes.Taking.{Taking}
use Rattle.chk_site.specs.History.{History}
use Rattle.chk_site.specs.Site.{Adds, asked, answered, taking_given, CallsSome, Ends}
use Rattle.chk_wahead.specs.declared.fault.WaheadFault.{WaheadFault}
use Rattle.chk_wahead.specs.Faults.{wahead_fault}
use Rattle.chk_wahead.specs.Scripts.{Puts}
use Rattle.chk_wahead.specs.States.{State, length_of}
use Rattle.chk_cmd_udp.specs.declared.tally.Tally.{Tally}

-- nothing was taken yet
abbrev pub nothing_taken : Tally
nothing_taken = record { taken = 0; bytes = 0 }

-- with one more datagram of so many bytes; each number stays at the greatest one of 64 bits
abbrev pub counted : Tally → ℕ → Tally
counted t size = record {
  taken = min (t.taken + 1) (2 ^ 64 - 1);
  bytes = min (t.bytes + size) (2 ^ 64 - 1);
}

-- the taking waited so long at the door, and this was given
abbrev pub Waits : Who → List ℕ → ℕ → Result (Option Taking) CallFault → Option History
    → Option History → Type 0
Waits who door wait given old new =
    Adds old new (CallsSome (λ of. asked who Take (door ∷ []) wait 0)
    (λ of. answered (taking_given of) given))

-- a taking gave this, or it ended the work
abbrev pub TakesOnce : Who → List ℕ → ℕ → Result (Option Taking) OutsideFault → Option History
    → Option History → Type 0
TakesOnce who door wait (Ok taking) old new = Waits who door wait (Ok taking) old new
TakesOnce who door wait (Err fault) old new =
    (given : Result (Option Taking) CallFault) × Ends Take given fault
    × Waits who door wait given old new

-- The further takings of a turn, at most so many. Each takes what waits at the door already, and
-- only while the buffer has fewer than `rotate` bytes. The first one that gives none is the last
-- one. What is taken is counted and put.
pub data Further (who : Who) (door : List ℕ) (rotate : ℕ) : ℕ → State → Tally → Option History
    → Result (Unit {0}) WaheadFault → State → Tally → Option History → Type 0 where
  enough : {s : State} {t : Tally} {now : Option History}
      → Further who door rotate 0 s t now (Ok tt) s t now
  full : {left : ℕ} {s : State} {t : Tally} {now : Option History} → rotate ≤ length_of s.held
      → Further who door rotate (suc left) s t now (Ok tt) s t now
  none : {left : ℕ} {s : State} {t : Tally} {old new : Option History} → length_of s.held < rotate
      → TakesOnce who door 0 (Ok None) old new
      → Further who door rotate (suc left) s t old (Ok tt) s t new
  one : {left : ℕ} {s u v : State} {t w : Tally} {result : Result (Unit {0}) WaheadFault}
      {old mid next new : Option History} (taking : Taking) → length_of s.held < rotate
      → TakesOnce who door 0 (Ok (Some taking)) old mid → Puts s taking.bytes (Ok tt) u mid next
      → Further who door rotate left u (counted t (length taking.bytes)) next result v w new
      → Further who door rotate (suc left) s t old result v w new
  untaken : {left : ℕ} {s : State} {t : Tally} {old new : Option History} (fault : OutsideFault)
      → length_of s.held < rotate → TakesOnce who door 0 (Err fault) old new
      → Further who door rotate (suc left) s t old (Err (wahead_fault fault)) s t new
  unput : {left : ℕ} {s u : State} {t : Tally} {old mid new : Option History} (taking : Taking)
      (fault : WaheadFault)
      → length_of s.held < rotate → TakesOnce who door 0 (Ok (Some taking)) old mid
      → Puts s taking.bytes (Err fault) u mid new
      → Further who door rotate (suc left) s t old (Err fault) u (counted t (length taking.bytes))
      new

-- whether a datagram came, where the further takings were done
abbrev pub came : Result (Unit {0}) WaheadFault → Result Bool WaheadFault
came (Ok value) = Ok true
came (Err fault) = Err fault

-- All takings of a turn: the first one waits up to 1,000 milliseconds. It tells whether that gave a
-- datagram.
pub data Gathers (who : Who) (door : List ℕ) (rotate further : ℕ) (s : State) (t : Tally)
    (old : Option History)
    : Result Bool WaheadFault → State → Tally → Option History → Type 0 where
  silent : {new : Option History} → TakesOnce who door 1000 (Ok None) old new
      → Gathers who door rotate further s t old (Ok false) s t new
  heard : {u v : State} {w : Tally} {result : Result (Unit {0}) WaheadFault}
      {mid next new : Option History}
      (taking : Taking) → TakesOnce who door 1000 (Ok (Some taking)) old mid
      → Puts s taking.bytes (Ok tt) u mid next
      → Further who door rotate further u (counted t (length taking.bytes)) next result v w new
      → Gathers who door rotate further s t old (came result) v w new
  untaken : {new : Option History} (fault : OutsideFault)
      → TakesOnce who door 1000 (Err fault) old new
      → Gathers who door rotate further s t old (Err (wahead_fault fault)) s t new
  unput : {u : State} {mid new : Option History} (taking : Taking) (fault : WaheadFault)
      → TakesOnce who door 1000 (Ok (Some taking)) old mid
      → Puts s taking.bytes (Err fault) u mid new
      → Gathers who door rotate further s t old (Err fault) u (counted t (length taking.bytes)) new
