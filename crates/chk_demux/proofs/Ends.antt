-- What the parts of a run lead to, one behind the other.
use Rattle.std.proofs.Common.{◌≡◌, ℕ, List, Option, Ok, Err, Result, subst}
use Rattle.chk_site.specs.History.{History}
use Rattle.chk_site.specs.Site.{Adds}
use Rattle.chk_site.specs.Runs.{Leads}
use Rattle.chk_site.proofs.Leads.{leads_as}
use Rattle.chk_world.specs.Places.{As}
use Rattle.chk_world.specs.Sight.{job, Sight, AtJob}
use Rattle.chk_record_index.specs.Faults.{JobCause}
use Rattle.chk_record_index.specs.declared.fault.JobFault.{JobFault}
use Rattle.chk_record_index.specs.declared.fault.JobFault.TheVariants.{Outside, Damaged, Spent, NoMemory}
use Rattle.chk_demux.specs.Working.{Failed, EndsSo}

-- where the site was stopped before
pub failed_bottom : (stamped : List (List ℕ)) (fault : JobFault) (h : History)
    → AtJob stamped (λ u. ⊥) h → Failed stamped fault h
failed_bottom stamped (Outside call) h z = z.legal
failed_bottom stamped (Damaged name at) h z =
    record { legal = z.legal; may_act = z.may_act; alive = z.alive }
failed_bottom stamped (Spent n) h z =
    record { legal = z.legal; may_act = z.may_act; alive = z.alive }
failed_bottom stamped NoMemory h z = z.legal

pub ends_bottom : {T : Type 0} (stamped : List (List ℕ)) (P : T → Sight → Type 0)
    (r : Result T JobFault) (h : History) → AtJob stamped (λ u. ⊥) h → EndsSo stamped P r h
ends_bottom stamped P (Ok value) h z =
    record { legal = z.legal; may_act = z.may_act; alive = λ runs. absurd (z.alive runs) }
ends_bottom stamped P (Err fault) h z = failed_bottom stamped fault h z

-- a refusal is one of what follows too
pub so_fails : {T U : Type 0} (stamped : List (List ℕ)) (A : History → Type 0)
    (P : T → Sight → Type 0) (Q : U → Sight → Type 0) (r : Result T JobFault) (fault : JobFault) → r ≡ Err fault
    → {old new : Option History} → Adds old new (Leads (As stamped job) A (EndsSo stamped P r))
    → Adds old new (Leads (As stamped job) A (EndsSo stamped Q (Err fault)))
so_fails stamped A P Q r fault e told =
    leads_as (λ h k. k) (λ h k. subst (λ x. EndsSo stamped P x h) e k) told

-- and what was done is what follows begins with
pub so_done : {T : Type 0} (stamped : List (List ℕ)) (A : History → Type 0)
    (P : T → Sight → Type 0) (r : Result T JobFault) (value : T) → r ≡ Ok value → {old new : Option History}
    → Adds old new (Leads (As stamped job) A (EndsSo stamped P r))
    → Adds old new (Leads (As stamped job) A (AtJob stamped (P value)))
so_done stamped A P r value e told =
    leads_as (λ h k. k) (λ h k. subst (λ x. EndsSo stamped P x h) e k) told

-- what is said of the value and of what the job knows, in other words
pub ends_as : {T : Type 0} (stamped : List (List ℕ)) (P Q : T → Sight → Type 0)
    → ((value : T) (u : Sight) → P value u → Q value u) → (r : Result T JobFault) (h : History)
    → EndsSo stamped P r h → EndsSo stamped Q r h
ends_as stamped P Q so (Ok value) h k =
    record { legal = k.legal; may_act = k.may_act; alive = λ runs. so value _ (k.alive runs) }
ends_as stamped P Q so (Err fault) h k = k

pub at_as : (stamped : List (List ℕ)) (P Q : Sight → Type 0) → ((u : Sight) → P u → Q u) → (h : History)
    → AtJob stamped P h → AtJob stamped Q h
at_as stamped P Q so h k = record { legal = k.legal; may_act = k.may_act; alive = λ runs. so _ (k.alive runs) }

-- want of memory behind what was done
pub no_more : {U : Type 0} (stamped : List (List ℕ)) (A : History → Type 0) (P : Sight → Type 0)
    (Q : U → Sight → Type 0) {old new : Option History} → Adds old new (Leads (As stamped job) A (AtJob stamped P))
    → Adds old new (Leads (As stamped job) A (EndsSo stamped Q (Err NoMemory)))
no_more stamped A P Q told = leads_as (λ h k. k) (λ h k. k.legal) told

-- the count of the calls that failed, behind calls that left it as it was
pub cause_behind : {T : Type 0} (U : Type 0) (r : Result T JobFault) (fault : JobFault) → r ≡ Err fault
    → (before mid now : ℕ) → mid ≡ before → JobCause mid now r → JobCause {T = U} before now (Err fault)
cause_behind {T} U r fault e before mid now same cause =
    go fault (subst (λ n. JobCause {T = T} n now (Err fault)) same (subst (λ x. JobCause mid now x) e cause))
  where
    go : (fault : JobFault) → JobCause {T = T} before now (Err fault) → JobCause {T = U} before now (Err fault)
    go (Outside call) k = k
    go (Damaged name at) k = k
    go (Spent n) k = k
    go NoMemory k = k
