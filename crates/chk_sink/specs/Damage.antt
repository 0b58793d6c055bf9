-- Which acts of a call show that a file is damaged, or that the number of starts is the last one.
use Rattle.std.specs.Prelude.{◌≡◌, ◌<◌, ℕ, Bool, true, false, ◌&&◌, ◌||◌, ◌==◌, nat_le, nat_lt, IsTrue, List, [], ◌∷◌, length, Option, Some, None, Result, Ok, Err, if◌then◌else◌}
use Rattle.chk_bytes.specs.Numbers.{spelled, limit}
use Rattle.chk_site.specs.declared.acts.CallFault.TheVariants.{Short}
use Rattle.chk_site.specs.declared.acts.ActAnswer.{ActAnswer}
use Rattle.chk_site.specs.declared.acts.ActAnswer.TheVariants.{Done, Refused}
use Rattle.chk_site.specs.Acts.{Deed, Starts, Reads, Cuts, deed}
use Rattle.chk_site.specs.History.{Step, History, Every}
use Rattle.chk_world.specs.Names.{Name, SinkFile, MarkFile, read, spell}
use Rattle.chk_world.specs.Collectors.{is_born_file}
use Rattle.chk_sink.specs.declared.fault.SinkFault.{SinkFault}
use Rattle.chk_sink.specs.declared.fault.SinkFault.TheVariants.{Damaged, Spent, NoMemory}
use Rattle.chk_sink.specs.States.{last_number}

-- the least number that may stand in the file: a mark is behind the header
abbrev pub least_in : Name → ℕ
least_in (MarkFile x) = 96
least_in n = 0

-- the bytes are 8, of a number from this one, below the limit
abbrev pub is_number_from : ℕ → List ℕ → Bool
is_number_from least bytes = (length bytes == 8) && (nat_le least (spelled bytes) && nat_lt (spelled bytes) limit)

-- that number, where they are
abbrev pub number_from : ℕ → List ℕ → Option ℕ
number_from least bytes = if is_number_from least bytes then Some (spelled bytes) else None

-- a number below the limit, where there is one
abbrev pub IsInLimit : Option ℕ → Type 0
IsInLimit None = Unit {0}
IsInLimit (Some number) = number < limit

-- the bytes are a number that may stand in the file
abbrev pub is_number_of : Name → List ℕ → Bool
is_number_of n bytes = is_number_from (least_in n) bytes

-- the mark's name, of a sink under writing
abbrev pub mark_name : Name → Option (List ℕ)
mark_name (SinkFile x) = Some (spell (MarkFile x))
mark_name n = None

-- The file that this act shows to be damaged: what was read of it is no number that may stand there, or it is the mark
-- of a sink that couldn't be cut to it, being shorter.
abbrev pub damage_by : Bool → Deed → ActAnswer → Option (List ℕ)
damage_by true (Reads w at max) (Done (bytes ∷ words) number of) = if is_number_of (read w) bytes then None else Some w
damage_by true (Cuts w n) (Refused (Short size)) = mark_name (read w)
damage_by own call answer = None

-- the first of the two that is there
abbrev pub first_name : Option (List ℕ) → Option (List ℕ) → Option (List ℕ)
first_name None other = other
first_name (Some name) other = Some name

-- the file that the site's own steps showed last to be damaged
abbrev pub damage_in : History → Option (List ℕ)
damage_in [] = None
damage_in (step ∷ history) = first_name (damage_by step.own (deed step.act) step.act.answer) (damage_in history)

-- a file is damaged exactly where an own step showed it
abbrev pub DamageCause : {T : Type 0} → Result T SinkFault → History → History → Type 0
DamageCause (Ok value) added history = damage_in added ≡ None
DamageCause (Err (Damaged name at)) added history = (damage_in added ≡ Some name) × (at ≡ 0)
DamageCause (Err NoMemory) added history = Unit {0}
DamageCause (Err fault) added history = damage_in added ≡ None

-- the file of this name is damaged, or there was no memory to tell so
abbrev pub IsDamageOf : List ℕ → SinkFault → Type 0
IsDamageOf name (Damaged w at) = (w ≡ name) × (at ≡ 0)
IsDamageOf name NoMemory = Unit {0}
IsDamageOf name fault = ⊥

-- the act read the last number of starts
abbrev pub reads_last : Bool → Deed → ActAnswer → Bool
reads_last true (Reads w at max) (Done (bytes ∷ words) number of) =
    is_born_file (read w) && ((length bytes == 8) && (spelled bytes == last_number))
reads_last own call answer = false

-- one of the site's own steps did
abbrev pub has_read_last : History → Bool
has_read_last [] = false
has_read_last (step ∷ history) = reads_last step.own (deed step.act) step.act.answer || has_read_last history

-- the call starts the process or reads a file
abbrev pub looks : Deed → Bool
looks Starts = true
looks (Reads w at max) = true
looks call = false

-- the step, where it is the site's own, changes nothing
abbrev pub IsLookOnly : History → Step → Type 0
IsLookOnly before step = step.own ≡ true → looks (deed step.act) ≡ true

-- the number of starts is spent exactly where the last one was read, and then nothing was changed
abbrev pub SpentCause : {T : Type 0} → Result T SinkFault → History → History → Type 0
SpentCause (Err (Spent born)) added history = IsTrue (has_read_last added) × Every IsLookOnly added history
SpentCause (Err NoMemory) added history = Unit {0}
SpentCause result added history = has_read_last added ≡ false
