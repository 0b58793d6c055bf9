-- The run of a watcher: its turns, and the line at its end.
use Rattle.std.specs.Prelude.{ℕ, suc, List, [], ◌∷◌, Option, None, Some, Result, Ok, Err}
use Rattle.chk_site.specs.declared.acts.Who.{Who}
use Rattle.chk_site.specs.declared.acts.Call.TheVariants.{Take}
use Rattle.chk_site.specs.declared.acts.CallFault.{CallFault}
use Rattle.chk_site.specs.declared.acts.OutsideFault.{OutsideFault}
use Rattle.chk_site.specs.declared.acts.OutsideFault.TheVariants.{NoMemory as no_memory}
use Rattle.chk_site.specs.declared.suffixes.Taking.{Taking}
use Rattle.chk_site.specs.History.{History}
use Rattle.chk_site.specs.Site.{Adds, Asked, asked, answered, taking_given, CallsSome, Ends}
use Rattle.chk_cmd_output.specs.Printing.{PrintsInTurn}
use Rattle.chk_cmd_subscribe.specs.declared.Watch.{Watch}
use Rattle.chk_cmd_subscribe.specs.Lines.{end_line}
use Rattle.chk_cmd_subscribe.specs.Watching.{IsReadOn, PrintsMessage}

-- the taking of a turn
abbrev pub taking : Who → List ℕ → Asked
taking who door = asked who Take (door ∷ []) 1000 0

-- a turn: no message came, or one was taken, read to its end and printed; or a call failed
pub data IsTurn (who : Who) (door : List ℕ) (w : Watch) : Result (Unit {0}) OutsideFault → Watch → Option History → Option History → Type 0 where
  nothing : {old new : Option History} → Adds old new (CallsSome (λ of. taking who door) (λ of. answered (taking_given of) (Ok None)))
      → IsTurn who door w (Ok tt) w old new
  untaken : {old new : Option History} {fault : OutsideFault} (given : Result (Option Taking) CallFault) → Ends Take given fault
      → Adds old new (CallsSome (λ of. taking who door) (λ of. answered (taking_given of) given)) → IsTurn who door w (Err fault) w old new
  unread : {old mid new : Option History} {fault : OutsideFault} (t : Taking)
      → Adds old mid (CallsSome (λ of. taking who door) (λ of. answered (taking_given of) (Ok (Some t))))
      → IsReadOn who t.number t.bytes (Err fault) mid new → IsTurn who door w (Err fault) w old new
  message : {old mid next new : Option History} {result : Result (Unit {0}) OutsideFault} {v : Watch} (t : Taking) (bytes : List ℕ)
      → Adds old mid (CallsSome (λ of. taking who door) (λ of. answered (taking_given of) (Ok (Some t))))
      → IsReadOn who t.number t.bytes (Ok bytes) mid next → PrintsMessage who bytes w result v next new
      → IsTurn who door w result v old new

-- so many turns, up to a call that fails
pub data AreTurns (who : Who) (door : List ℕ) : ℕ → Watch → Result (Unit {0}) OutsideFault → Watch → Option History → Option History → Type 0 where
  over : {w : Watch} {now : Option History} → AreTurns who door 0 w (Ok tt) w now now
  turned : {n : ℕ} {w v u : Watch} {result : Result (Unit {0}) OutsideFault} {old mid new : Option History}
      → IsTurn who door w (Ok tt) v old mid → AreTurns who door n v result u mid new → AreTurns who door (suc n) w result u old new
  ended : {n : ℕ} {w v : Watch} {fault : OutsideFault} {old new : Option History}
      → IsTurn who door w (Err fault) v old new → AreTurns who door (suc n) w (Err fault) v old new

-- nothing was seen yet
abbrev pub unseen : Watch
unseen = record { sieve = []; printed = 0; refused = 0 }

-- all turns, and then the line that tells how many chunks were printed and how many messages were refused; or a call failed
pub data HasSubscribed (who : Who) (door : List ℕ) (turns : ℕ) : Result (Unit {0}) OutsideFault → Option History → Option History → Type 0 where
  broken : {w : Watch} {fault : OutsideFault} {old new : Option History} → AreTurns who door turns unseen (Err fault) w old new
      → HasSubscribed who door turns (Err fault) old new
  unwritten : {w : Watch} {old new : Option History} → AreTurns who door turns unseen (Ok tt) w old new
      → HasSubscribed who door turns (Err no_memory) old new
  told : {w : Watch} {result : Result (Unit {0}) OutsideFault} {old mid new : Option History} → AreTurns who door turns unseen (Ok tt) w old mid
      → PrintsInTurn who (end_line w.printed w.refused ∷ []) result mid new → HasSubscribed who door turns result old new
