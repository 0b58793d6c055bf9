-- The start of the job.
use Rattle.std.proofs.Common.{ℕ, inl, inr, List, Option, Ok, Err, Result, sym, ◌∙◌, refl}
use Rattle.std.proofs.Common.{true≢false}
use Rattle.std.specs.Prelude.{MatchResult}
use Rattle.chk_site.specs.declared.acts.OutsideFault.{OutsideFault}
use Rattle.chk_site.specs.declared.acts.CallFault.{CallFault}
use Rattle.chk_site.specs.History.{History, Every}
use Rattle.chk_site.specs.Site.{Adds, answered, plain, IsDone, Calls}
use Rattle.chk_site.specs.Site.{Ends}
use Rattle.chk_site.specs.Runs.{Leads}
use Rattle.chk_site.proofs.Runs.{adds_as}
use Rattle.chk_site.proofs.Leads.{ends_leads}
use Rattle.chk_replace.proofs.CallSteps.{OfOwn, call_each}
use Rattle.chk_world.specs.Places.{As}
use Rattle.chk_world.specs.Rules.{Legal}
use Rattle.chk_world.specs.Sight.{job}
use Rattle.chk_world.specs.JobSteps.{IsOf}
use Rattle.chk_world.proofs.ToldCalls.{owned, told_start}
use Rattle.chk_record_index.specs.Pieces.{AsksInPieces}
use Rattle.chk_join.specs.Beginning.{HasStarted}
use Rattle.chk_join.specs.Working.{Worked, Starting, starts, job_result}
use Rattle.chk_archive_parts.proofs.Works.{as_job}
use Rattle.chk_book.proofs.Works.{worked}
use Rattle.chk_archive_parts.proofs.Beginning.{no_read, start_last, StartQ}

not_started : (stamped : List (List ℕ)) (given : Result (Unit {0}) CallFault) (fault : OutsideFault)
    {old new : Option History} → Ends StartQ.call given fault → Adds old new (Calls StartQ (answered plain given))
    → Adds old new (Leads (As stamped job) (Legal stamped) (Legal stamped))
not_started stamped given fault ends told =
    ends_leads (λ f. Legal stamped) plain given fault (owned stamped StartQ refl) ends
    (λ before step theirs f h. (h, f.obeys))
    (λ before files logs running honest h. (
      h,
      record { honest = honest; named = refl; starts = tt; own_files = tt; logs = tt; requests = tt; rule = (refl, tt) },
    ))
    (λ left before files logs running honest h. (
      h,
      record { honest = honest; named = refl; starts = tt; own_files = tt; logs = tt; requests = tt; rule = (refl, tt) },
    ))
    (λ before stopped h. h) (λ before h. h) told

-- by the call's result
pub start_so : (stamped : List (List ℕ)) (r : Result (Unit {0}) OutsideFault) (given : Result (Unit {0}) CallFault)
    {old new : Option History} → MatchResult r (λ _. IsDone given) (λ fault. Ends StartQ.call given fault)
    → Adds old new (Calls StartQ (answered plain given))
    → Adds old new (Leads (As stamped job) (Legal stamped) (HasStarted stamped r))
start_so stamped (Ok value) given is told =
    told_start stamped job (λ h. Unit {0}) given refl (λ before answer files logs was legal. tt) is told
start_so stamped (Err fault) given ends told = not_started stamped given fault ends told

start_is : OfOwn (IsOf Starting) StartQ
start_is before answer files logs running honest =
    inr (record { own = refl; running = running; honest = honest; by = refl }, starts)

pub start_works : (r : Result (Unit {0}) OutsideFault) (given : Result (Unit {0}) CallFault) {old new : Option History}
    → MatchResult r (λ _. IsDone given) (λ fault. Ends StartQ.call given fault)
    → Adds old new (Calls StartQ (answered plain given)) → Adds old new (Worked Starting (job_result r))
start_works r given ends told =
    worked Starting (job_result r)
    (adds_as (Every (IsOf Starting)) told
    (λ added history calls. call_each (IsOf Starting) (answered plain given)
    (λ before step theirs. inl theirs) start_is calls))
    (adds_as (Every AsksInPieces) told
    (λ added history calls. call_each AsksInPieces (answered plain given)
    (λ before step theirs mine name at max is. absurd (true≢false (sym mine ∙ theirs.0)))
    (λ before answer files logs running honest mine name at max is. absurd (no_read name at max is)) calls))
    (as_job r (start_last r given ends told))
