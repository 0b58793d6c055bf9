-- What the own calls of a part of a run are, by its answer.
use Rattle.std.proofs.Common.{◌≡◌, ℕ, List, Option, Ok, Err, Result, subst}
use Rattle.chk_site.specs.declared.acts.OutsideFault.{OutsideFault}
use Rattle.chk_site.specs.declared.acts.OutsideFault.TheVariants.{Outside as site_failed}
use Rattle.chk_site.specs.declared.acts.OutsideFault.TheVariants.{NoMemory as no_memory}
use Rattle.chk_site.specs.Acts.{Deed}
use Rattle.chk_site.specs.History.{History, Every}
use Rattle.chk_site.specs.Site.{Adds, LastFailed}
use Rattle.chk_site.proofs.Runs.{adds_as, adds_none}
use Rattle.chk_world.specs.JobSteps.{IsOf, WritesTo}
use Rattle.chk_record_index.specs.Faults.{FailsLast, Worked, job_result}
use Rattle.chk_record_index.specs.declared.fault.JobFault.{JobFault}
use Rattle.chk_record_index.specs.declared.fault.JobFault.TheVariants.{Outside, Damaged, Spent, NoMemory}
use Rattle.chk_book.proofs.Works.{worked, own_of, pieces_of, last_of}
use Rattle.chk_archive_parts.proofs.StepKinds.{as_kind, no_reads, writes_no_reads}

-- the same refusal
pub fails_same : (T U : Type 0) (fault : JobFault) (added history : History)
    → FailsLast {T = T} (Err fault) added history → FailsLast {T = U} (Err fault) added history
fails_same T U (Outside call) added history k = k
fails_same T U (Damaged name at) added history k = k
fails_same T U (Spent n) added history k = k
fails_same T U NoMemory added history k = k

pub works_fail : (T U : Type 0) (K : Deed → Type 0) (fault : JobFault) {old new : Option History}
    → Adds old new (Worked {T = T} K (Err fault)) → Adds old new (Worked {T = U} K (Err fault))
works_fail T U K fault told =
    adds_as (Worked {T = U} K (Err fault)) told
    (λ added history w. record { own = w.own; pieces = w.pieces; last = fails_same T U fault added history w.last })

-- of a wider kind
pub works_as : {T : Type 0} (K M : Deed → Type 0) → ((call : Deed) → K call → M call) → (r : Result T JobFault)
    → {old new : Option History} → Adds old new (Worked K r) → Adds old new (Worked M r)
works_as K M wider r told =
    worked M r (as_kind K M wider (own_of K r told)) (pieces_of K r told) (last_of K r told)

-- want of memory behind other calls, or another answer
pub works_end : (T U : Type 0) (K : Deed → Type 0) (value : T) {old new : Option History}
    → Adds old new (Worked {T = T} K (Ok value)) → Adds old new (Worked {T = U} K (Err NoMemory))
works_end T U K value told =
    adds_as (Worked {T = U} K (Err NoMemory)) told (λ added history w. record { own = w.own; pieces = w.pieces; last = tt })

pub works_value : (T U : Type 0) (K : Deed → Type 0) (value : T) (other : U) {old new : Option History}
    → Adds old new (Worked {T = T} K (Ok value)) → Adds old new (Worked {T = U} K (Ok other))
works_value T U K value other told =
    adds_as (Worked {T = U} K (Ok other)) told (λ added history w. record { own = w.own; pieces = w.pieces; last = tt })

pub works_memory : (T : Type 0) (K : Deed → Type 0) (now : Option History)
    → Adds now now (Worked {T = T} K (Err NoMemory))
works_memory T K now = adds_none now (Worked {T = T} K (Err NoMemory)) (λ history. record { own = tt; pieces = tt; last = tt })

-- writes of one file
pub worked_writes : {T : Type 0} (w : List ℕ) (r : Result T JobFault) {old new : Option History}
    → Adds old new (Every (IsOf (WritesTo w))) → Adds old new (FailsLast r) → Adds old new (Worked (WritesTo w) r)
worked_writes w r own last = worked (WritesTo w) r own (no_reads (WritesTo w) (writes_no_reads w) own) last

-- a call of the site's
pub as_job : {T : Type 0} (r : Result T OutsideFault) {old new : Option History}
    → Adds old new (LastFailed r) → Adds old new (FailsLast (job_result r))
as_job (Ok value) told = adds_as (FailsLast (Ok value)) told (λ added history k. tt)
as_job {T = T} (Err (site_failed call)) told = adds_as (FailsLast {T = T} (Err (Outside call))) told (λ added history k. k)
as_job {T = T} (Err no_memory) told = adds_as (FailsLast {T = T} (Err NoMemory)) told (λ added history k. tt)

-- by what it answered
pub works_result : {T : Type 0} (U : Type 0) (K : Deed → Type 0) (r : Result T JobFault) (fault : JobFault) → r ≡ Err fault
    → {old new : Option History} → Adds old new (Worked K r) → Adds old new (Worked {T = U} K (Err fault))
works_result {T} U K r fault e {old} {new} told =
    works_fail T U K fault (subst (λ x. Adds old new (Worked K x)) e told)
