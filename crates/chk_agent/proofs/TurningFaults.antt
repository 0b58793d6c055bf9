-- What the clauses on faults say where one call follows another.
use Rattle.std.proofs.Common.{◌≡◌, [], ◌∷◌, ◌++◌, Option, Result, Ok, Err, ap, sym, subst, ◌∙◌}
use Rattle.std.proofs.Common.{append_assoc}
use Rattle.chk_bytes.specs.declared.NoMemory.{NoMemory as Wanting}
use Rattle.chk_site.specs.declared.acts.Call.{Call}
use Rattle.chk_site.specs.History.{History, is_stopped}
use Rattle.chk_site.specs.Site.{Adds, EndsIn}
use Rattle.chk_site.proofs.Runs.{adds_then, adds_as}
use Rattle.chk_agent.specs.declared.answers.AgentFault.{AgentFault}
use Rattle.chk_agent.specs.declared.answers.AgentFault.TheVariants.{Damaged, Outside, NoMemory}
use Rattle.chk_agent.specs.Faults.{FailsLast}
use Rattle.chk_agent.specs.Turns.{as_agent}
use Rattle.chk_site.proofs.LastCalls.{ends_in_both as ends_later}

-- ---- the same fault of another call

pub last_same : {T : Type 0} (U : Type 0) (result : Result T AgentFault) (fault : AgentFault)
    → result ≡ Err fault
    → {old new : Option History} → Adds old new (FailsLast {T = U} (Err fault))
    → Adds old new (FailsLast result)
last_same {T = T} U result fault is p =
    adds_as (FailsLast result) p (λ a h x. subst (λ r. FailsLast r a h) (sym is) (of fault a h x))
  where
    of : (f : AgentFault) (a h : History) → FailsLast {T = U} (Err f) a h
        → FailsLast {T = T} (Err f) a h
    of (Damaged at) a h x = tt
    of (Outside call) a h x = x
    of NoMemory a h x = tt

-- ---- want of memory

-- a call that takes no file has no other fault
pub is_wanting : {T : Type 0} (given : Result T Wanting) (fault : AgentFault)
    → Err fault ≡ as_agent given → fault ≡ NoMemory
is_wanting (Ok value) fault e = absurd (let z : ⊥ = cc in z)
is_wanting (Err wanting) fault e = cc

pub last_wanting : {T : Type 0} (result : Result T AgentFault) → result ≡ Err NoMemory
    → {P : History → History → Type 0}
    {old new : Option History} → Adds old new P → Adds old new (FailsLast result)
last_wanting result is p = adds_as (FailsLast result) p (λ a h x. subst (λ r. FailsLast r a h)
    (sym is) tt)

-- ---- one call after others

fails_later : {T : Type 0} (result : Result T AgentFault) (b a history : History)
    → FailsLast result b (a ++ history)
    → FailsLast result (b ++ a) history
fails_later (Ok value) b a history x = tt
fails_later (Err (Damaged at)) b a history x = tt
fails_later (Err (Outside call)) b a history x =
    λ running. ends_later call b a (x (ap is_stopped (sym (append_assoc b a history)) ∙ running))
fails_later (Err NoMemory) b a history x = tt

pub last_then : {T : Type 0} (result : Result T AgentFault) {P : History → History
    → Type 0} {old mid new : Option History}
    → Adds old mid P → Adds mid new (FailsLast result) → Adds old new (FailsLast result)
last_then result p q = adds_then (FailsLast result) p q
    (λ a b history x y. fails_later result b a history y)

pub last_ok : {T : Type 0} (value : T) {P : History → History
    → Type 0} {old new : Option History} → Adds old new P
    → Adds old new (FailsLast {T = T} (Ok value))
last_ok {T = T} value p = adds_as (FailsLast {T = T} (Ok value)) p (λ a h x. tt)
