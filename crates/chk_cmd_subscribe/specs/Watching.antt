-- One message of a watcher: how it is read to its end, and which of its chunks are printed.
use Rattle.std.specs.Prelude.{◌≡◌, ℕ, ◌+◌, ◌<◌, List, [], ◌∷◌, ◌++◌, length, map, if◌then◌else◌, Option, Some, Result, Ok, Err}
use Rattle.chk_site.specs.declared.acts.Who.{Who}
use Rattle.chk_site.specs.declared.acts.Call.{Call}
use Rattle.chk_site.specs.declared.acts.Call.TheVariants.{More}
use Rattle.chk_site.specs.declared.acts.CallFault.{CallFault}
use Rattle.chk_site.specs.declared.acts.OutsideFault.{OutsideFault}
use Rattle.chk_site.specs.declared.acts.OutsideFault.TheVariants.{NoMemory as no_memory}
use Rattle.chk_site.specs.History.{History}
use Rattle.chk_site.specs.Site.{Adds, asked, answered, bytes_given, Calls, Ends}
use Rattle.chk_tee.specs.Messages.{Teed, IsTee}
use Rattle.chk_tee.specs.Faults.{tee_fault}
use Rattle.chk_tee.specs.declared.faults.TeeFault.{TeeFault}
use Rattle.chk_tee.specs.declared.faults.TeeFault.TheVariants.{Short}
use Rattle.chk_tee_sender.specs.Sieves.{mark_of, is_fresh, asked_for}
use Rattle.chk_tee_sender.specs.declared.sieve.Mark.{Mark}
use Rattle.chk_cmd_output.specs.Printing.{PrintsInTurn}
use Rattle.chk_cmd_subscribe.specs.declared.Watch.{Watch}
use Rattle.chk_cmd_subscribe.specs.Lines.{chunk_line}

-- the call gave this value, or it ended the run
abbrev pub IsEndedBy : {T : Type 0} → Call → Result T OutsideFault → (Result T CallFault → Type 0) → Type 0
IsEndedBy call (Ok value) Gave = Gave (Ok value)
IsEndedBy {T} call (Err fault) Gave = (given : Result T CallFault) × Ends call given fault × Gave given

-- the bytes end before the message does, and those that are there aren't wrong yet
abbrev pub IsShort : List ℕ → Type 0
IsShort bytes = (at : ℕ) × (tee_fault bytes ≡ Some (Short at))

-- The message is read on from these bytes exactly while they are short and no piece was empty. A call that fails ends it, and so
-- does want of memory.
pub data IsReadOn (who : Who) (t : ℕ) : List ℕ → Result (List ℕ) OutsideFault → Option History → Option History → Type 0 where
  whole : {bytes : List ℕ} {now : Option History} → ¬ (IsShort bytes) → IsReadOn who t bytes (Ok bytes) now now
  over : {bytes : List ℕ} {old new : Option History} → IsShort bytes
      → Adds old new (Calls (asked who More [] t 0) (answered bytes_given (Ok []))) → IsReadOn who t bytes (Ok bytes) old new
  came : {bytes : List ℕ} {got : Result (List ℕ) OutsideFault} {old mid new : Option History} (piece : List ℕ) → IsShort bytes
      → 0 < length piece → Adds old mid (Calls (asked who More [] t 0) (answered bytes_given (Ok piece)))
      → IsReadOn who t (bytes ++ piece) got mid new → IsReadOn who t bytes got old new
  unread : {bytes : List ℕ} {fault : OutsideFault} {old new : Option History} (given : Result (List ℕ) CallFault) → IsShort bytes
      → Ends More given fault → Adds old new (Calls (asked who More [] t 0) (answered bytes_given given))
      → IsReadOn who t bytes (Err fault) old new
  unkept : {bytes : List ℕ} {old new : Option History} (piece : List ℕ) → IsShort bytes
      → Adds old new (Calls (asked who More [] t 0) (answered bytes_given (Ok piece)))
      → IsReadOn who t bytes (Err no_memory) old new

-- ---- what is printed

-- those of the chunks that the sieve lets through in turn
abbrev pub fresh_of : List Mark → List Teed → List Teed
fresh_of marks [] = []
fresh_of marks (t ∷ ts) =
    let p = mark_of t.stem t.offset in
    if is_fresh marks p then t ∷ fresh_of (asked_for marks p) ts else fresh_of (asked_for marks p) ts

-- what the sieve keeps behind them
abbrev pub marks_behind : List Mark → List Teed → List Mark
marks_behind marks [] = marks
marks_behind marks (t ∷ ts) = marks_behind (asked_for marks (mark_of t.stem t.offset)) ts

-- behind the chunks
abbrev pub seen_of : Watch → List Teed → Watch
seen_of w items = record {
  sieve = marks_behind w.sieve items;
  printed = w.printed + length (fresh_of w.sieve items);
  refused = w.refused;
}

-- the watch behind the prints
abbrev pub SeesSo : Watch → List Teed → Result (Unit {0}) OutsideFault → Watch → Type 0
SeesSo w items (Ok done) v = v ≡ seen_of w items
SeesSo w items (Err fault) v = Unit {0}

-- a line is printed of each chunk that is let through, up to a call that fails
pub record PrintsFresh (who : Who) (items : List Teed) (w : Watch) (result : Result (Unit {0}) OutsideFault) (v : Watch)
    (old new : Option History) : Type 0 where
  pub prints : PrintsInTurn who (map chunk_line (fresh_of w.sieve items)) result old new
  pub sees : SeesSo w items result v

-- one chunk more is printed
abbrev pub printed_more : Watch → Watch
printed_more w = record { sieve = w.sieve; printed = w.printed + 1; refused = w.refused }

-- one message more is refused
abbrev pub refused_more : Watch → Watch
refused_more w = record { sieve = w.sieve; printed = w.printed; refused = w.refused + 1 }

-- the bytes are refused, or their chunks are printed
pub data PrintsMessage (who : Who) (bytes : List ℕ) (w : Watch) : Result (Unit {0}) OutsideFault → Watch → Option History → Option History
    → Type 0 where
  refused : {now : Option History} (fault : TeeFault) → tee_fault bytes ≡ Some fault
      → PrintsMessage who bytes w (Ok tt) (refused_more w) now now
  uncounted : {now : Option History} → PrintsMessage who bytes w (Err no_memory) w now now
  printed : {result : Result (Unit {0}) OutsideFault} {v : Watch} {old new : Option History} (items : List Teed) → IsTee items bytes
      → PrintsFresh who items w result v old new → PrintsMessage who bytes w result v old new
