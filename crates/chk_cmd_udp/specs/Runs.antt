-- A run of a writer of datagrams: its start, its turns, its end, and where it is cut short.
use Rattle.std.specs.Prelude.{◌≡◌, ℕ, suc, List, [], ◌∷◌, Option, Result, Ok, Err}
use Rattle.chk_site.specs.declared.acts.Who.{Who}
use Rattle.chk_site.specs.declared.acts.OutsideFault.{OutsideFault}
use Rattle.chk_site.specs.History.{History}
use Rattle.chk_wahead.specs.declared.fault.WaheadFault.{WaheadFault}
use Rattle.chk_wahead.specs.declared.fault.WaheadFault.TheVariants.{Spent}
use Rattle.chk_wahead.specs.Faults.{wahead_result}
use Rattle.chk_wahead.specs.States.{State, last_number}
use Rattle.chk_wahead.specs.Telling.{Starts}
use Rattle.chk_cmd_line.specs.Datagrams.{udp_line}
use Rattle.chk_cmd_output.specs.Printing.{PrintsInTurn}
use Rattle.chk_cmd_udp.specs.declared.tally.Tally.{Tally}
use Rattle.chk_cmd_udp.specs.Takings.{nothing_taken}
use Rattle.chk_cmd_udp.specs.Turns.{IsTurn, Closes}

-- so many turns, one after the other, up to one that was cut short
pub data AreTurned (who : Who) (door : List ℕ) (rotate messages : ℕ) : ℕ → State → Tally
    → Option History
    → Result (Unit {0}) WaheadFault → State → Tally → Option History → Type 0 where
  over : {s : State} {t : Tally} {now : Option History}
      → AreTurned who door rotate messages 0 s t now (Ok tt) s t now
  turn : {left : ℕ} {s u v : State} {t w x : Tally} {result : Result (Unit {0}) WaheadFault}
      {old mid new : Option History}
      → IsTurn who door rotate messages s t old (Ok tt) u w mid
      → AreTurned who door rotate messages left u w mid result v x new
      → AreTurned who door rotate messages (suc left) s t old result v x new
  cut : {left : ℕ} {s u : State} {t w : Tally} {old new : Option History} (fault : WaheadFault)
      → IsTurn who door rotate messages s t old (Err fault) u w new
      → AreTurned who door rotate messages (suc left) s t old (Err fault) u w new

-- the end of a run: the buffer is closed, and then the line is printed
pub data Finishes (writer : Who) (s : State) (t : Tally) : Result (Unit {0}) WaheadFault
    → Option History → Option History → Type 0 where
  unclosed : {u : State} {old new : Option History} (fault : WaheadFault)
      → Closes s old (Err fault) u new
      → Finishes writer s t (Err fault) old new
  told : {u : State} {old mid new : Option History} (outside : Result (Unit {0}) OutsideFault)
      → Closes s old (Ok tt) u mid
      → PrintsInTurn writer (udp_line t.taken t.bytes ∷ []) outside mid new
      → Finishes writer s t (wahead_result outside) old new

-- a run goes on behind its start: the turns and the end
pub data GoesOn (who writer : Who) (door : List ℕ) (turns rotate messages : ℕ) (s : State)
    : Result (Unit {0}) WaheadFault → Option History → Option History → Type 0 where
  cut : {u : State} {w : Tally} {old new : Option History} (fault : WaheadFault)
      → AreTurned who door rotate messages turns s nothing_taken old (Err fault) u w new
      → GoesOn who writer door turns rotate messages s (Err fault) old new
  finished : {u : State} {w : Tally} {result : Result (Unit {0}) WaheadFault}
      {old mid new : Option History}
      → AreTurned who door rotate messages turns s nothing_taken old (Ok tt) u w mid
      → Finishes writer u w result mid new
      → GoesOn who writer door turns rotate messages s result old new

-- a run: it starts, and goes on where it has started
pub data HasRun (who writer : Who) (door : List ℕ) (turns rotate messages : ℕ)
    : Result (Unit {0}) WaheadFault → Option History → Option History → Type 0 where
  unstarted : {old new : Option History} (fault : WaheadFault) → Starts who (Err fault) old new
      → HasRun who writer door turns rotate messages (Err fault) old new
  started : {s : State} {result : Result (Unit {0}) WaheadFault} {old mid new : Option History}
      → Starts who (Ok s) old mid → GoesOn who writer door turns rotate messages s result mid new
      → HasRun who writer door turns rotate messages result old new

-- where a number was wanted and none was left, the number is the last one
abbrev pub IsLastNumber : {T : Type 0} → Result T WaheadFault → Type 0
IsLastNumber (Err (Spent n)) = n ≡ last_number
IsLastNumber result = Unit {0}
