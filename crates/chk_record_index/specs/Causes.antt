-- The cause of a damage that is told.
use Rattle.std.specs.Prelude.{ℕ, List, Result, Ok, Err}
use Rattle.chk_site.specs.History.{History}
use Rattle.chk_record_index.specs.declared.fault.JobFault.{JobFault}
use Rattle.chk_record_index.specs.declared.fault.JobFault.TheVariants.{Damaged}

-- what is asked of the added steps where a file of this name is told to be damaged at this place
abbrev pub Cause : Type 1
Cause = List ℕ → ℕ → History → History → Type 0

-- a damage is told only where the added steps show its cause; nothing is said of any other answer
abbrev pub Shows : {T : Type 0} → Cause → Result T JobFault → History → History → Type 0
Shows C (Ok value) added history = Unit {0}
Shows C (Err (Damaged name at)) added history = C name at added history
Shows C (Err fault) added history = Unit {0}
