-- The cause of a fault that another call of the run had, behind calls that went well.
use Rattle.std.proofs.Common.{◌≡◌, ℕ, ◌+◌, ◌≤◌, ◌^◌, ◌-◌, Result, Err, sym, subst, arith}
use Rattle.std.specs.Prelude.{min}
use Rattle.chk_agent_run.specs.declared.faults.RunFault.{RunFault}
use Rattle.chk_agent_run.specs.declared.faults.RunFault.TheVariants.{Initial, Checkpoint, Outside, NoMemory}
use Rattle.chk_agent_run.specs.Faults.{RunCause}

later : (T U : Type 0) (before mid now : ℕ) (f : RunFault) → before ≤ mid
    → RunCause {T = U} mid now (Err f) → RunCause {T = T} before now (Err f)
later T U before mid now (Initial at) le cause = omega (arith, le, cause)
later T U before mid now (Checkpoint at) le cause = omega (arith, le, cause)
later T U before mid now (Outside call) le cause =
    let rose = cause.0 in
    let on = cause.1 in
    (omega (arith, le, rose, on), omega (arith, le, on))
later T U before mid now NoMemory le cause = omega (arith, le, cause)

pub cause_behind : {T : Type 0} (U : Type 0) (before mid now : ℕ) (f : RunFault)
    (result : Result T RunFault) → result ≡ Err f → before ≤ mid
    → RunCause {T = U} mid now (Err f) → RunCause before now result
cause_behind {T = T} U before mid now f result is le cause =
    subst (λ (r : Result T RunFault). RunCause before now r) (sym is)
    (later T U before mid now f le cause)
