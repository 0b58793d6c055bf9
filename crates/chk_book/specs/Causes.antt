-- Where the next number of a segment is the last one.
use Rattle.std.specs.Prelude.{◌≡◌, ◌-◌, ◌^◌, Result, Err}
use Rattle.chk_bytes.specs.Numbers.{last_number}
use Rattle.chk_world.specs.Books.{Book}
use Rattle.chk_record_index.specs.declared.fault.JobFault.{JobFault}
use Rattle.chk_record_index.specs.declared.fault.JobFault.TheVariants.{Spent, NoMemory}

-- the next number is the last one exactly where the call says so, or there was no memory to tell
abbrev pub SpentBook : {T : Type 0} → Book → Result T JobFault → Type 0
SpentBook b (Err (Spent n)) = (n ≡ last_number) × (b.next ≡ last_number)
SpentBook b (Err NoMemory) = Unit {0}
SpentBook b result = b.next ≡ last_number → ⊥
