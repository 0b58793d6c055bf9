-- A drain that begins, and what it comes to.
use Rattle.std.proofs.Common.{◌≡◌, ◌≤◌, ℕ, false, List, [], ◌∷◌, ◌++◌, Option, Result, Ok, Err, sym, subst, append_assoc, arith}
use Rattle.chk_site.specs.declared.acts.Call.{Call}
use Rattle.chk_site.specs.declared.acts.Who.{Who}
use Rattle.chk_site.specs.History.{History, is_stopped}
use Rattle.chk_site.specs.Site.{Adds, EndsIn}
use Rattle.chk_site.specs.Runs.{Leads}
use Rattle.chk_site.proofs.Leads.{leads_as, leads_then}
use Rattle.chk_site.proofs.Runs.{adds_as, adds_then}
use Rattle.chk_world.specs.Rules.{Legal}
use Rattle.chk_agent.specs.States.{State, process}
use Rattle.chk_agent.specs.Facts.{Matches}
use Rattle.chk_agent.proofs.TurningTold.{TalksOn}
use Rattle.chk_agent_run.specs.declared.faults.RunFault.{RunFault}
use Rattle.chk_agent_run.specs.declared.faults.RunFault.TheVariants as runs
use Rattle.chk_agent_run.specs.Faults.{LastOfRun, RunCause}
use Rattle.chk_agent_run.specs.Runs.{InRun}
use Rattle.chk_agent_run.proofs.Started.{talks_in_run}
use Rattle.chk_cmd_drain.specs.declared.begin.Begun.{Begun}
use Rattle.chk_cmd_drain.specs.declared.faults.DrainFault.{DrainFault}
use Rattle.chk_cmd_drain.specs.declared.faults.DrainFault.TheVariants.{Run, Pending, Growing, Shrank, Refused}
use Rattle.chk_cmd_drain.specs.Begins.{BeginsWith}
use Rattle.chk_cmd_drain.specs.Drains.{DrainEnds, IsNoDamage, LastOfDrain, DrainCause}
use Rattle.chk_site.proofs.LastCalls.{ends_in_both as ends_later}

-- ---- where it didn't begin

unbegun_as : (stamped : List (List ℕ)) (who : Who) (fault : RunFault) (h : History)
    → BeginsWith stamped who (Err fault) h → DrainEnds stamped who (Err (Run fault)) h
unbegun_as stamped who (runs.Initial at) h x = x
unbegun_as stamped who (runs.Checkpoint at) h x = x
unbegun_as stamped who (runs.Outside call) h x = x
unbegun_as stamped who runs.NoMemory h x = x

pub unbegun_ends : (stamped : List (List ℕ)) (who writer : Who)
    (fault : RunFault) {old new : Option History}
    → Adds old new (Leads (InRun stamped who writer) (Legal stamped)
    (BeginsWith stamped who (Err fault)))
    → Adds old new (Leads (InRun stamped who writer) (Legal stamped)
    (DrainEnds stamped who (Err (Run fault))))
unbegun_ends stamped who writer fault p = leads_as (λ h x. x) (unbegun_as stamped who fault) p

pub unbegun_last : (fault : RunFault) {old new : Option History}
    → Adds old new (LastOfRun {T = Begun} (Err fault))
    → Adds old new (LastOfDrain (Err (Run fault)))
unbegun_last fault p = adds_as (LastOfDrain (Err (Run fault))) p (of fault)
  where
    of : (f : RunFault) (a h : History) → LastOfRun {T = Begun} (Err f) a h
        → LastOfDrain (Err (Run f)) a h
    of (runs.Initial at) a h x = tt
    of (runs.Checkpoint at) a h x = tt
    of (runs.Outside call) a h x = λ other. x
    of runs.NoMemory a h x = tt

pub unbegun_cause : (before now : ℕ) (fault : RunFault)
    → RunCause {T = Begun} before now (Err fault)
    → DrainCause before now (Err (Run fault))
unbegun_cause before now (runs.Initial at) cause = cause
unbegun_cause before now (runs.Checkpoint at) cause = cause
unbegun_cause before now (runs.Outside call) cause = cause
unbegun_cause before now runs.NoMemory cause = cause

-- ---- where it began

legal_as : (stamped : List (List ℕ)) (who : Who) (result : Result (Unit {0}) DrainFault)
    → IsNoDamage result
    → (h : History) → Legal stamped h → DrainEnds stamped who result h
legal_as stamped who (Ok value) none h x = x
legal_as stamped who (Err (Run (runs.Initial at))) none h x = x
legal_as stamped who (Err (Run (runs.Checkpoint at))) none h x = absurd none
legal_as stamped who (Err (Run (runs.Outside call))) none h x = x
legal_as stamped who (Err (Run runs.NoMemory)) none h x = x
legal_as stamped who (Err (Pending stem got want)) none h x = x
legal_as stamped who (Err (Growing path reads)) none h x = x
legal_as stamped who (Err (Shrank path had size)) none h x = x
legal_as stamped who (Err (Refused code)) none h x = x

pub ran_ends : (stamped : List (List ℕ)) (who writer : Who) (s t : State)
    (result : Result (Unit {0}) DrainFault)
    {old mid new : Option History} → who ≡ process s → IsNoDamage result
    → Adds old mid (Leads (InRun stamped who writer) (Legal stamped) (Matches stamped s))
    → TalksOn s t mid new
    → Adds old new (Leads (InRun stamped who writer) (Legal stamped) (DrainEnds stamped who result))
ran_ends stamped who writer s t result {mid = mid} {new = new} me none begun talks =
    leads_as (λ h x. x) (λ h x. legal_as stamped who result none h x.legal)
    (leads_then begun
    (subst (λ (w : Who). Adds mid new
    (Leads (InRun stamped w writer) (Matches stamped s) (Matches stamped t))) (sym me)
    (talks_in_run stamped (process s) writer (talks stamped))))

pub ran_last : (result : Result (Unit {0}) DrainFault) {P : History → History → Type 0}
    {old mid new : Option History}
    → Adds old mid P → Adds mid new (LastOfDrain result) → Adds old new (LastOfDrain result)
ran_last result {P = P} p q = adds_then (LastOfDrain result) p q (of result)
  where
    of : (r : Result (Unit {0}) DrainFault) (a b h : History) → P a h → LastOfDrain r b (a ++ h)
        → LastOfDrain r (b ++ a) h
    of (Ok value) a b h x y = tt
    of (Err (Run (runs.Initial at))) a b h x y = tt
    of (Err (Run (runs.Checkpoint at))) a b h x y = tt
    of (Err (Run (runs.Outside call))) a b h x y =
        λ other running. ends_later call b a
        (y other (subst (λ (k : History). is_stopped k ≡ false) (append_assoc b a h) running))
    of (Err (Run runs.NoMemory)) a b h x y = tt
    of (Err (Pending stem got want)) a b h x y = tt
    of (Err (Growing path reads)) a b h x y = tt
    of (Err (Shrank path had size)) a b h x y = tt
    of (Err (Refused code)) a b h x y = tt

pub ran_cause : (result : Result (Unit {0}) DrainFault) (before mid now : ℕ) → before ≤ mid
    → DrainCause mid now result → DrainCause before now result
ran_cause (Ok value) before mid now on cause = omega (arith, on, cause)
ran_cause (Err (Run (runs.Initial at))) before mid now on cause = omega (arith, on, cause)
ran_cause (Err (Run (runs.Checkpoint at))) before mid now on cause = omega (arith, on, cause)
ran_cause (Err (Run (runs.Outside call))) before mid now on cause =
    let rose = cause.0 in let up = cause.1 in (omega (arith, on, rose, up), omega (arith, on, up))
ran_cause (Err (Run runs.NoMemory)) before mid now on cause = omega (arith, on, cause)
ran_cause (Err (Pending stem got want)) before mid now on cause = omega (arith, on, cause)
ran_cause (Err (Growing path reads)) before mid now on cause = omega (arith, on, cause)
ran_cause (Err (Shrank path had size)) before mid now on cause = omega (arith, on, cause)
ran_cause (Err (Refused code)) before mid now on cause = omega (arith, on, cause)
