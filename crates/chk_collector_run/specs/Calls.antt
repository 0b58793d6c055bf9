-- The calls of a turn, by what became of them.
use Rattle.std.specs.Prelude.{ℕ, Bool, true, false, List, Option, Some, None, Result, Ok, Err}
use Rattle.chk_bytes.specs.declared.NoMemory.{NoMemory}
use Rattle.chk_site.specs.declared.acts.Call.{Call}
use Rattle.chk_site.specs.declared.acts.CallFault.{CallFault}
use Rattle.chk_site.specs.declared.acts.CallFault.TheVariants.{Failed, NoMemory as no_memory}
use Rattle.chk_sink.specs.declared.fault.SinkFault.{SinkFault}
use Rattle.chk_collector_run.specs.Messages.{EndsBy}

-- the call gave this value, or it ended the turn
abbrev pub IsEnded : {T : Type 0} → Call → Result T SinkFault → (Result T CallFault → Type 0)
    → Type 0
IsEnded call (Ok value) Gave = Gave (Ok value)
IsEnded {T} call (Err fault) Gave = (given : Result T CallFault) × EndsBy call given fault × Gave
    given

-- what the site gave of a further piece
abbrev pub piece_of : Result (Option (List ℕ)) NoMemory → Result (List ℕ) CallFault
piece_of (Ok (Some piece)) = Ok piece
piece_of (Ok None) = Err Failed
piece_of (Err fault) = Err no_memory

-- what became of an answer
abbrev pub sending_of : Result Bool NoMemory → Result (Unit {0}) CallFault
sending_of (Ok true) = Ok tt
sending_of (Ok false) = Err Failed
sending_of (Err fault) = Err no_memory
