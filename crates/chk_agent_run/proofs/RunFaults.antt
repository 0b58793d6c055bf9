-- The faults of the agent as those of the run.
use Rattle.std.proofs.Common.{◌≡◌, ℕ, ◌+◌, ◌≤◌, ◌^◌, ◌-◌, ◌++◌, Option, Result, Ok, Err, sym, subst, ap, ◌∙◌, append_assoc, arith}
use Rattle.std.specs.Prelude.{min}
use Rattle.chk_site.specs.declared.acts.OutsideFault.{OutsideFault}
use Rattle.chk_site.specs.declared.acts.OutsideFault.TheVariants.{Outside as site_failed, NoMemory as site_wanting}
use Rattle.chk_site.specs.History.{History}
use Rattle.chk_site.specs.Site.{Adds, LastFailed, OutsideCause}
use Rattle.chk_site.proofs.Runs.{adds_as, adds_then}
use Rattle.chk_agent.specs.declared.answers.AgentFault.{AgentFault}
use Rattle.chk_agent.specs.declared.answers.AgentFault.TheVariants.{Damaged, Outside as agent_failed, NoMemory as agent_wanting}
use Rattle.chk_agent.specs.Faults.{AgentCause, FailsLast, IsUndamaged}
use Rattle.chk_agent.proofs.TurningFaults.{last_then}
use Rattle.chk_agent_run.specs.declared.faults.RunFault.{RunFault}
use Rattle.chk_agent_run.specs.declared.faults.RunFault.TheVariants.{Initial, Checkpoint, Outside, NoMemory}
use Rattle.chk_agent_run.specs.Faults.{fault_of, outside_fault, RunCause, LastOfRun, IsNoCheckpoint}

fault_last : (T U : Type 0) (fault : AgentFault) (a h : History) → FailsLast {T = U} (Err fault) a h → LastOfRun {T = T} (Err (fault_of fault)) a h
fault_last T U (Damaged at) a h x = tt
fault_last T U (agent_failed call) a h x = x
fault_last T U agent_wanting a h x = tt

-- the agent's fault behind other calls
pub run_last : {T : Type 0} (U : Type 0) (fault : AgentFault) (result : Result T RunFault) → result ≡ Err (fault_of fault)
    → {P : History → History → Type 0} {old mid new : Option History}
    → Adds old mid P → Adds mid new (FailsLast {T = U} (Err fault)) → Adds old new (LastOfRun result)
run_last {T = T} U fault result is p q =
    adds_as (LastOfRun result) (last_then {T = U} (Err fault) p q)
    (λ a h x. subst (λ (r : Result T RunFault). LastOfRun r a h) (sym is) (fault_last T U fault a h x))

fault_cause : (T U : Type 0) (before mid now : ℕ) (fault : AgentFault) → before ≤ mid → AgentCause {T = U} mid now (Err fault)
    → RunCause {T = T} before now (Err (fault_of fault))
fault_cause T U before mid now (Damaged at) le cause = omega (arith, le, cause)
fault_cause T U before mid now (agent_failed call) le cause =
    let rose = cause.0 in let on = cause.1 in (omega (arith, le, rose, on), omega (arith, le, on))
fault_cause T U before mid now agent_wanting le cause = omega (arith, le, cause)

pub run_cause : {T : Type 0} (U : Type 0) (before mid now : ℕ) (fault : AgentFault) (result : Result T RunFault) → result ≡ Err (fault_of fault)
    → before ≤ mid → AgentCause {T = U} mid now (Err fault) → RunCause before now result
run_cause {T = T} U before mid now fault result is le cause =
    subst (λ (r : Result T RunFault). RunCause before now r) (sym is) (fault_cause T U before mid now fault le cause)

undamaged : (T U : Type 0) (fault : AgentFault) → IsUndamaged {T = U} (Err fault) → IsNoCheckpoint {T = T} (Err (fault_of fault))
undamaged T U (Damaged at) is = is
undamaged T U (agent_failed call) is = tt
undamaged T U agent_wanting is = tt

pub no_checkpoint : {T : Type 0} (U : Type 0) (fault : AgentFault) (result : Result T RunFault) → result ≡ Err (fault_of fault)
    → IsUndamaged {T = U} (Err fault) → IsNoCheckpoint result
no_checkpoint {T = T} U fault result is none =
    subst (λ (r : Result T RunFault). IsNoCheckpoint r) (sym is) (undamaged T U fault none)

-- the fault of the reads of the file
pub outside_last : {T : Type 0} (U : Type 0) (fault : OutsideFault) (result : Result T RunFault) → result ≡ Err (outside_fault fault)
    → {old new : Option History} → Adds old new (LastFailed {T = U} (Err fault)) → Adds old new (LastOfRun result)
outside_last {T = T} U fault result is p =
    adds_as (LastOfRun result) p (λ a h x. subst (λ (r : Result T RunFault). LastOfRun r a h) (sym is) (of fault a h x))
  where
    of : (f : OutsideFault) (a h : History) → LastFailed {T = U} (Err f) a h → LastOfRun {T = T} (Err (outside_fault f)) a h
    of (site_failed call) a h x = x
    of site_wanting a h x = tt

pub outside_cause : {T : Type 0} (U : Type 0) (before now : ℕ) (fault : OutsideFault) (result : Result T RunFault) → result ≡ Err (outside_fault fault)
    → OutsideCause {T = U} before now (Err fault) → RunCause before now result
outside_cause {T = T} U before now fault result is cause =
    subst (λ (r : Result T RunFault). RunCause before now r) (sym is) (of fault cause)
  where
    of : (f : OutsideFault) → OutsideCause {T = U} before now (Err f) → RunCause {T = T} before now (Err (outside_fault f))
    of (site_failed call) c = c
    of site_wanting c = omega (arith, c)

-- ---- the same fault of another call of the run

pub none_of : {T : Type 0} (U : Type 0) (f : RunFault) (result : Result T RunFault) → result ≡ Err f → IsNoCheckpoint {T = U} (Err f)
    → IsNoCheckpoint result
none_of {T = T} U f result is none = subst (λ (r : Result T RunFault). IsNoCheckpoint r) (sym is) (of f none)
  where
    of : (f : RunFault) → IsNoCheckpoint {T = U} (Err f) → IsNoCheckpoint {T = T} (Err f)
    of (Initial at) x = tt
    of (Checkpoint at) x = x
    of (Outside call) x = tt
    of NoMemory x = tt

pub last_of : {T : Type 0} (U : Type 0) (f : RunFault) (result : Result T RunFault) → result ≡ Err f
    → {P : History → History → Type 0} {old mid new : Option History}
    → Adds old mid P → Adds mid new (LastOfRun {T = U} (Err f)) → Adds old new (LastOfRun result)
last_of {T = T} U f result is {P = P} {old = old} {mid = mid} {new = new} p q =
    subst (λ (r : Result T RunFault). Adds old new (LastOfRun r)) (sym is) (of f q)
  where
    of : (f : RunFault) → Adds mid new (LastOfRun {T = U} (Err f)) → Adds old new (LastOfRun {T = T} (Err f))
    of (Initial at) q = adds_then (LastOfRun {T = T} (Err (Initial at))) p q (λ a b h x y. tt)
    of (Checkpoint at) q = adds_then (LastOfRun {T = T} (Err (Checkpoint at))) p q (λ a b h x y. tt)
    of (Outside call) q = last_then {T = U} (Err (agent_failed call)) p q
    of NoMemory q = adds_then (LastOfRun {T = T} (Err NoMemory)) p q (λ a b h x y. tt)
