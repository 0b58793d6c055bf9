-- What the parts of a demux run do and lead to.
use Rattle.std.specs.Prelude.{ℕ, List, Result, Ok, Err}
use Rattle.chk_site.specs.History.{History}
use Rattle.chk_world.specs.Rules.{Legal}
use Rattle.chk_world.specs.Places.{AtTold}
use Rattle.chk_world.specs.Sight.{job, Sight, AtJob}
use Rattle.chk_record_index.specs.declared.fault.JobFault.{JobFault}
use Rattle.chk_record_index.specs.declared.fault.JobFault.TheVariants.{Damaged, Spent}
pub use Rattle.chk_record_index.specs.Faults.{Worked, job_result}

-- After a refusal: nothing is damaged, and no number is asked for where none is left; else the history is legal.
abbrev pub Failed : List (List ℕ) → JobFault → History → Type 0
Failed stamped (Damaged name at) history = AtTold stamped job (λ h. ⊥) history
Failed stamped (Spent n) history = AtTold stamped job (λ h. ⊥) history
Failed stamped fault history = Legal stamped history

-- at Ok this holds of the value and of what the job knows
abbrev pub EndsSo : {T : Type 0} → List (List ℕ) → (T → Sight → Type 0) → Result T JobFault → History → Type 0
EndsSo stamped P (Ok value) history = AtJob stamped (P value) history
EndsSo stamped P (Err fault) history = Failed stamped fault history
