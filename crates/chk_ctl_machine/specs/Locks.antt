-- The inspection of a folder's locks.
use Rattle.std.specs.Prelude.{◌≡◌, ◌⊎◌, ℕ, ◌-◌, ◌/◌, ◌^◌, ◌==◌, List, [], ◌∷◌, ◌++◌, codes, decimal}
use Rattle.std.specs.Prelude.{bit_and, bit_or, false, if◌then◌else◌, Option, Some, None, Result, Ok, Err}
use Rattle.std.specs.Str.Lines.{lines}
use Rattle.std.specs.Fmt.{digits, format_spec, padded_integral}
use Rattle.chk_site.specs.declared.acts.Call.TheVariants.{List as ListNames}
use Rattle.chk_site.specs.declared.acts.CallFault.{CallFault}
use Rattle.chk_site.specs.declared.acts.CallFault.TheVariants as call
use Rattle.chk_site.specs.History.{History}
use Rattle.chk_site.specs.Site.{answered, asked as asked_by, names_given, Adds, Asked, Calls}
use Rattle.chk_world.specs.Sight.{job}
use Rattle.chk_ctl_status.specs.declared.locks.Holder.{Holder}
use Rattle.chk_ctl_status.specs.declared.locks.Holder.TheVariants.{Nobody, Process, Unknown}
use Rattle.chk_ctl_status.specs.declared.locks.Lock.{Lock}
use Rattle.chk_ctl_status.specs.Locks.{holder_in}
use Rattle.chk_ctl_run.specs.declared.outcome.Outcome.{Outcome}
use Rattle.chk_ctl_run.specs.declared.outcome.Outcome.TheVariants.{NoMemory, Outside}
use Rattle.chk_ctl_machine.specs.declared.machine.FileNumbers.{FileNumbers}
use Rattle.chk_ctl_machine.specs.Deeds.{after, AsksLocks, AsksNumbers, Told}
use Rattle.chk_ctl_machine.specs.Turns.{InTurn}
use Rattle.chk_ctl_machine.specs.Lending.{Lent, SeenCause}

-- the listing of the locks
abbrev pub listing : Asked
listing = asked_by job ListNames (codes "locks" ∷ []) 0 0

abbrev pub named_by : {V : Type 0} → Result V CallFault → (V → List (List ℕ))
    → Result (List (List ℕ)) CallFault
named_by (Ok names) items = Ok (items names)
named_by (Err fault) items = Err fault

abbrev pub listed_as : Result (List (List ℕ)) CallFault → Result (List (List ℕ)) Outcome
listed_as (Ok names) = Ok names
listed_as (Err call.NoMemory) = Err NoMemory
listed_as (Err fault) = Err (Outside ListNames)

pub data ListsLocks : Result (List (List ℕ)) Outcome → Option History → Option History
    → Type 0 where
  unbegun : {now : Option History} → ListsLocks (Err NoMemory) now now
  listed : {old new : Option History} (given : Result (List (List ℕ)) CallFault)
      → Adds old new (Calls listing (answered names_given given))
      → ListsLocks (listed_as given) old new

pub record FindsLocks (result : Result (List (List ℕ)) Outcome) (from : Option History)
    (before : ℕ) (to : Option History) (now : ℕ) : Type 0 where
  pub told : ListsLocks result from to
  pub cause : SeenCause before now result

-- the first process that a line of the system's list names for the place
abbrev pub process_or : Option ℕ → Option ℕ → Option ℕ
process_or (Some process) other = Some process
process_or None other = other

abbrev pub process_in : List ℕ → List (List ℕ) → Option ℕ
process_in place [] = None
process_in place (line ∷ rest) = process_or (holder_in place line) (process_in place rest)

-- without one nobody holds it, but on a file system without a device of its own that isn't known
abbrev pub holder_or : ℕ → Option ℕ → Holder
holder_or major (Some process) = Process process
holder_or major None = if major == 0 then Unknown else Nobody

-- the numbers of a device in its number, as Linux packs them
abbrev pub major_of : ℕ → ℕ
major_of device = bit_or (bit_and (device / 2 ^ 8) 4095) (bit_and (device / 2 ^ 32) 4294963200)

abbrev pub minor_of : ℕ → ℕ
minor_of device = bit_or (bit_and device 255) (bit_and (device / 2 ^ 12) 4294967040)

-- a number in hexadecimal digits, two at least
abbrev pub two_digits : ℕ → List ℕ
two_digits n = padded_integral (format_spec 32 0 4 2 (2 ^ 64 - 1)) false [] (digits 16 false n)

-- the place of a file, as the system's list has it
abbrev pub place_of : FileNumbers → List ℕ
place_of n =
    two_digits (major_of n.device) ++ (codes ":" ++ (two_digits (minor_of n.device)
    ++ (codes ":" ++ decimal n.number)))

-- who holds the lock of the file of these numbers; unknown, too, if there is no memory for its place
abbrev pub holder_at : List ℕ → FileNumbers → Holder
holder_at held n = holder_or (major_of n.device) (process_in (place_of n) (lines held))

abbrev pub IsHolder : List ℕ → Option FileNumbers → Holder → Type 0
IsHolder held None holder = holder ≡ Unknown
IsHolder held (Some n) holder = (holder ≡ holder_at held n) ⊎ (holder ≡ Unknown)

-- who holds the lock of this name, by the system's list: the machine is asked for the numbers of its
-- file, if there is a list, and memory for the path
pub data FindsHolder (held : Option (List ℕ)) (name : List ℕ) : Holder → Told → Told → Type 0 where
  unasked : {now : Told} → FindsHolder held name Unknown now now
  asked : {text : List ℕ} {holder : Holder} {old new : Told} (numbers : Option FileNumbers)
      → held ≡ Some text → new ≡ after (AsksNumbers (codes "locks/" ++ name) numbers) old
      → IsHolder text numbers holder → FindsHolder held name holder old new

-- a lock and its holder
abbrev pub FindsLock : Option (List ℕ) → List ℕ → Lock → Told → Told → Type 0
FindsLock held name l old new = (l.name ≡ name) × FindsHolder held name l.holder old new

-- the locks are listed, the system's list is read, and then each holder is looked for, in turn
pub data SeesLocks : Result (List Lock) Outcome → Told → Told → Type 0 where
  unseen : {outcome : Outcome} {old new : Told} → Lent None (FindsLocks (Err outcome)) old new
      → SeesLocks (Err outcome) old new
  unkept : {names : List (List ℕ)} {old mid new : Told}
      → Lent None (FindsLocks (Ok names)) old mid → SeesLocks (Err NoMemory) old new
  seen : {names : List (List ℕ)} {locks : List Lock} {held : Option (List ℕ)} {old mid new : Told}
      → Lent None (FindsLocks (Ok names)) old mid
      → InTurn (FindsLock held) names locks (after (AsksLocks held) mid) new
      → SeesLocks (Ok locks) old new
