-- What an agent's call on no files gave.
use Rattle.std.proofs.Common.{◌≡◌, Result, Ok, Err, ap, sym}
use Rattle.chk_bytes.specs.declared.NoMemory.{NoMemory as Wanting}
use Rattle.chk_agent.specs.declared.answers.AgentFault.{AgentFault}
use Rattle.chk_agent.specs.declared.answers.AgentFault.TheVariants.{NoMemory as wanting}
use Rattle.chk_agent.specs.Turns.{as_agent}

-- an agent's answer that is no fault was given
pub given_is : {T : Type 0} (given : Result T Wanting) (value : T) → Ok value ≡ as_agent given
    → given ≡ Ok value
given_is {T = T} (Ok other) value e = ap Ok (sym (same value other e))
  where
    same : (x y : T) → ◌≡◌ {A = Result T AgentFault} (Ok x) (Ok y) → x ≡ y
    same x y e = cc
given_is {T = T} (Err fault) value e = absurd (differ value e)
  where
    differ : (x : T) → ◌≡◌ {A = Result T AgentFault} (Ok x) (Err wanting) → ⊥
    differ x e = cc

-- an agent's fault was want of memory
pub fault_is : {T : Type 0} (given : Result T Wanting) (fault : AgentFault)
    → Err fault ≡ as_agent given → fault ≡ wanting
fault_is {T = T} (Ok other) fault e = absurd (differ other fault e)
  where
    differ : (x : T) (f : AgentFault) → ◌≡◌ {A = Result T AgentFault} (Err f) (Ok x) → ⊥
    differ x f e = cc
fault_is {T = T} (Err other) fault e = same fault e
  where
    same : (f : AgentFault) → ◌≡◌ {A = Result T AgentFault} (Err f) (Err wanting) → f ≡ wanting
    same f e = cc
