-- Results that no call gave: all is well, or there was no memory.
use Rattle.std.proofs.Common.{◌≡◌, ℕ, Ok, Err, sym, subst}
use Rattle.std.specs.Prelude.{Result, IfErr}
use Rattle.chk_site.specs.History.{History}
use Rattle.chk_site.specs.Site.{Adds}
use Rattle.std.specs.Prelude.{Option}
use Rattle.chk_record_index.specs.Faults.{JobCause, FailsLast, IsOfRead}
use Rattle.chk_record_index.specs.declared.fault.JobFault.{JobFault}
use Rattle.chk_record_index.specs.declared.fault.JobFault.TheVariants.{Outside, NoMemory}
use Rattle.chk_record_index.proofs.Gathering.{no_failure}

module _ {T : Type 0} where
  abbrev pub IsCalm : Result T JobFault → Type 0
  IsCalm result = IfErr result (λ fault. fault ≡ NoMemory)

  pub calm_only : (result : Result T JobFault) → IsCalm result → IfErr result IsOfRead
  calm_only (Ok value) calm = tt
  calm_only (Err fault) calm = subst IsOfRead (sym calm) tt

  pub calm_last : {P : History → History → Type 0} (result : Result T JobFault) {old new : Option History} → IsCalm result
      → Adds old new P → Adds old new (FailsLast result)
  calm_last result calm told = no_failure result (λ call e. none call (subst IsCalm e calm)) told
    where
      none : (call : _) → Outside call ≡ NoMemory → ⊥
      none call e = cc

  pub calm_cause : (result : Result T JobFault) (before now : ℕ) → IsCalm result → now ≡ before → JobCause before now result
  calm_cause (Ok value) before now calm same = same
  calm_cause (Err fault) before now calm same = subst (λ f. JobCause {T = T} before now (Err f)) (sym calm) same
