-- The call that failed is the last one.
use Rattle.std.proofs.Common.{ℕ, List, Option, Ok, Err, Result}
use Rattle.std.specs.Prelude.{IfOk, IfErr}
use Rattle.chk_site.specs.declared.acts.OutsideFault.{OutsideFault}
use Rattle.chk_site.specs.declared.acts.OutsideFault.TheVariants.{Outside as site_failed, NoMemory as no_memory}
use Rattle.chk_site.specs.History.{History}
use Rattle.chk_site.specs.Site.{Adds, LastFailed, names_given}
use Rattle.chk_site.specs.Runs.{MadeInTurn}
use Rattle.chk_site.proofs.Runs.{adds_as, adds_then}
use Rattle.chk_replace.proofs.CallSteps.{script_last}
use Rattle.chk_site.proofs.LastCalls.{ended_last as ends_last}
use Rattle.chk_site.proofs.LastCalls.{last_of_both as last_then}
use Rattle.chk_world.specs.Sight.{job}
use Rattle.chk_record_index.specs.Faults.{FailsLast, job_fault}
use Rattle.chk_archive.specs.Calling.{removals, Listed}

-- of a listing, by its result
pub listed_last : {T : Type 0} (items : T → List (List ℕ)) (folder : List ℕ)
    (r : Result T OutsideFault) {old new : Option History}
    → IfOk r (λ v. Listed job folder (Ok (items v)) old new) → IfErr r
    (λ fault. Listed job folder (Err fault) old new)
    → Adds old new (LastFailed r)
listed_last items folder (Ok v) gave refused = adds_as (LastFailed (Ok v)) gave
    (λ added history calls. tt)
listed_last {T = T} items folder (Err fault) gave refused =
    adds_as (LastFailed {T = T} (Err fault)) refused.2
    (λ added history calls. ends_last T names_given refused.0 fault refused.1 calls)

-- of removals behind other calls
pub removals_last : {P : History → History → Type 0}
    (ws : List (List ℕ)) {result : Result (Unit {0}) OutsideFault}
    {old mid new : Option History} → Adds old mid P → MadeInTurn (removals job ws) result mid new
    → Adds old new (LastFailed result)
removals_last ws {result = result} so_far script =
    adds_then (LastFailed result) so_far (script_last script)
    (λ a b history p q. last_then result b a history q)

-- as a fault of the job
pub as_fails : (T U : Type 0) (fault : OutsideFault) {old new : Option History} → Adds old new
    (LastFailed {T = T} (Err fault))
    → Adds old new (FailsLast {T = U} (Err (job_fault fault)))
as_fails T U (site_failed call) told = told
as_fails T U no_memory told = told
