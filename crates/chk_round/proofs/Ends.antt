-- The faults of the parts of a round as those of the round.
use Rattle.std.proofs.Common.{ℕ, ◌≤◌, [], ◌∷◌, ◌++◌, Option, Result, Ok, Err, sym, ap, ◌∙◌, append_assoc, arith}
use Rattle.chk_site.specs.History.{History, is_stopped}
use Rattle.chk_site.specs.Site.{Adds}
use Rattle.chk_site.proofs.Runs.{adds_as, adds_then}
use Rattle.chk_sink.specs.declared.fault.SinkFault.{SinkFault}
use Rattle.chk_sink.specs.declared.fault.SinkFault.TheVariants.{Outside as sink_failed, Damaged as sink_damaged, Spent as sink_spent, NoMemory as sink_wanting}
use Rattle.chk_sink.specs.Faults.{SinkCause, FailsLast as SinkFailsLast}
use Rattle.chk_agent.specs.declared.answers.AgentFault.{AgentFault}
use Rattle.chk_agent.specs.declared.answers.AgentFault.TheVariants.{Damaged as agent_damaged, Outside as agent_failed, NoMemory as agent_wanting}
use Rattle.chk_agent.specs.Faults.{AgentCause, FailsLast as AgentFailsLast}
use Rattle.chk_round.specs.declared.faults.RoundFault.{RoundFault}
use Rattle.chk_round.specs.declared.faults.RoundFault.TheVariants.{Outside, NoMemory, Damaged, Length, Growing, Shrank, Spent, Refused, Checkpoint}
use Rattle.chk_record_index.specs.declared.fault.JobFault.{JobFault}
use Rattle.chk_record_index.specs.declared.fault.JobFault.TheVariants.{Outside as job_failed, Damaged as job_damaged, Spent as job_spent, NoMemory as job_wanting}
use Rattle.chk_record_index.specs.Faults.{FailsLast as JobFailsLast}
use Rattle.chk_round.specs.Faults.{of_agent, of_job, of_sinks, RoundCause, FailsLast}

-- ---- the last call

-- a fault's last call is the same behind other calls
late_fault : (T : Type 0) (fault : RoundFault) (b a history : History) → FailsLast {T = T} (Err fault) b (a ++ history)
    → FailsLast {T = T} (Err fault) (b ++ a) history
late_fault T (Outside call) [] a history x = λ running. absurd (x running)
late_fault T (Outside call) (step ∷ b) a history x =
    λ running. x (ap is_stopped (sym (append_assoc (step ∷ b) a history)) ∙ running)
late_fault T NoMemory b a history x = tt
late_fault T (Damaged name at) b a history x = tt
late_fault T (Checkpoint at) b a history x = tt
late_fault T (Length stem got want) b a history x = tt
late_fault T (Growing path reads) b a history x = tt
late_fault T (Shrank path had is) b a history x = tt
late_fault T (Spent number) b a history x = tt
late_fault T (Refused code) b a history x = tt

pub last_late : (T : Type 0) (fault : RoundFault) {P : History → History → Type 0} {old mid new : Option History}
    → Adds old mid P → Adds mid new (FailsLast {T = T} (Err fault)) → Adds old new (FailsLast {T = T} (Err fault))
last_late T fault p q = adds_then (FailsLast {T = T} (Err fault)) p q (λ a b history x y. late_fault T fault b a history y)

agent_one : (T U : Type 0) (fault : AgentFault) (a h : History) → AgentFailsLast {T = U} (Err fault) a h
    → FailsLast {T = T} (Err (of_agent fault)) a h
agent_one T U (agent_damaged at) a h x = tt
agent_one T U (agent_failed call) a h x = x
agent_one T U agent_wanting a h x = tt

pub agent_last : (T U : Type 0) (fault : AgentFault) {old new : Option History}
    → Adds old new (AgentFailsLast {T = U} (Err fault)) → Adds old new (FailsLast {T = T} (Err (of_agent fault)))
agent_last T U fault p = adds_as (FailsLast {T = T} (Err (of_agent fault))) p (agent_one T U fault)

sinks_one : (T U : Type 0) (fault : SinkFault) (a h : History) → SinkFailsLast {T = U} (Err fault) a h
    → FailsLast {T = T} (Err (of_sinks fault)) a h
sinks_one T U (sink_failed call) a h x = x
sinks_one T U (sink_damaged name at) a h x = tt
sinks_one T U (sink_spent born) a h x = tt
sinks_one T U sink_wanting a h x = tt

pub sinks_last : (T U : Type 0) (fault : SinkFault) {old new : Option History}
    → Adds old new (SinkFailsLast {T = U} (Err fault)) → Adds old new (FailsLast {T = T} (Err (of_sinks fault)))
sinks_last T U fault p = adds_as (FailsLast {T = T} (Err (of_sinks fault))) p (sinks_one T U fault)

job_one : (T U : Type 0) (fault : JobFault) (a h : History) → JobFailsLast {T = U} (Err fault) a h
    → FailsLast {T = T} (Err (of_job fault)) a h
job_one T U (job_failed call) a h x = x
job_one T U (job_damaged name at) a h x = tt
job_one T U (job_spent number) a h x = tt
job_one T U job_wanting a h x = tt

pub job_last : (T U : Type 0) (fault : JobFault) {old new : Option History}
    → Adds old new (JobFailsLast {T = U} (Err fault)) → Adds old new (FailsLast {T = T} (Err (of_job fault)))
job_last T U fault p = adds_as (FailsLast {T = T} (Err (of_job fault))) p (job_one T U fault)

pub nothing_then : {P Q : History → History → Type 0} {old mid new : Option History} → Adds old mid P → Adds mid new Q
    → Adds old new (λ a h. Unit {0})
nothing_then p q = adds_then (λ a h. Unit {0}) p q (λ a b h x y. tt)

-- ---- the count

pub late_cause : (T U : Type 0) (before mid now : ℕ) (fault : RoundFault) → before ≤ mid → RoundCause {T = U} mid now (Err fault)
    → RoundCause {T = T} before now (Err fault)
late_cause T U before mid now (Outside call) le cause =
    let rose = cause.0 in let on = cause.1 in (omega (arith, le, rose, on), omega (arith, le, on))
late_cause T U before mid now NoMemory le cause = omega (arith, le, cause)
late_cause T U before mid now (Damaged name at) le cause = omega (arith, le, cause)
late_cause T U before mid now (Checkpoint at) le cause = omega (arith, le, cause)
late_cause T U before mid now (Length stem got want) le cause = omega (arith, le, cause)
late_cause T U before mid now (Growing path reads) le cause = omega (arith, le, cause)
late_cause T U before mid now (Shrank path had is) le cause = omega (arith, le, cause)
late_cause T U before mid now (Spent number) le cause = omega (arith, le, cause)
late_cause T U before mid now (Refused code) le cause = omega (arith, le, cause)

pub agent_cause : (T U : Type 0) (before mid now : ℕ) (fault : AgentFault) → before ≤ mid → AgentCause {T = U} mid now (Err fault)
    → RoundCause {T = T} before now (Err (of_agent fault))
agent_cause T U before mid now (agent_damaged at) le cause = omega (arith, le, cause)
agent_cause T U before mid now (agent_failed call) le cause =
    let rose = cause.0 in let on = cause.1 in (omega (arith, le, rose, on), omega (arith, le, on))
agent_cause T U before mid now agent_wanting le cause = omega (arith, le, cause)

pub sinks_cause : (T U : Type 0) (before mid now : ℕ) (fault : SinkFault) → before ≤ mid → SinkCause {T = U} mid now (Err fault)
    → RoundCause {T = T} before now (Err (of_sinks fault))
sinks_cause T U before mid now (sink_failed call) le cause =
    let rose = cause.0 in let on = cause.1 in (omega (arith, le, rose, on), omega (arith, le, on))
sinks_cause T U before mid now (sink_damaged name at) le cause = omega (arith, le, cause)
sinks_cause T U before mid now (sink_spent born) le cause = omega (arith, le, cause)
sinks_cause T U before mid now sink_wanting le cause = omega (arith, le, cause)

-- whatever the result
pub later_cause : {T : Type 0} (r : Result T RoundFault) (before mid now : ℕ) → before ≤ mid → RoundCause mid now r
    → RoundCause before now r
later_cause {T = T} (Ok value) before mid now le cause = omega (arith, le, cause)
later_cause {T = T} (Err fault) before mid now le cause = late_cause T T before mid now fault le cause
