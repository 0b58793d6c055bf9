-- The cause of a damage that is told, through calls in turn.
use Rattle.std.proofs.Common.{ℕ, List, ◌++◌, Option, Ok, Err, Result}
use Rattle.chk_site.specs.History.{History}
use Rattle.chk_site.specs.Site.{Adds}
use Rattle.chk_site.specs.declared.acts.OutsideFault.{OutsideFault}
use Rattle.chk_site.specs.declared.acts.OutsideFault.TheVariants.{Outside as site_failed, NoMemory as no_memory}
use Rattle.chk_site.proofs.Runs.{adds_then, adds_as}
use Rattle.chk_record_index.specs.declared.fault.JobFault.{JobFault}
use Rattle.chk_record_index.specs.declared.fault.JobFault.TheVariants.{Outside, Damaged, Spent, NoMemory}
use Rattle.chk_record_index.specs.Faults.{job_fault, IsOfWrite}
use Rattle.chk_record_index.specs.Causes.{Cause, Shows}

-- a cause that later steps show is one that all of them show
abbrev pub IsLate : Cause → Type 0
IsLate C = (name : List ℕ) (at : ℕ) (b a history : History) → C name at b (a ++ history) → C name at (b ++ a) history

-- the one cause is the other
abbrev pub Implies : Cause → Cause → Type 0
Implies C D = (name : List ℕ) (at : ℕ) (added history : History) → C name at added history → D name at added history

said_as : (T U : Type 0) (C D : Cause) → Implies C D → (fault : JobFault) (added history : History) → Shows {T = U} C (Err fault) added history
    → Shows {T = T} D (Err fault) added history
said_as T U C D so (Outside call) added history x = tt
said_as T U C D so (Damaged name at) added history x = so name at added history x
said_as T U C D so (Spent number) added history x = tt
said_as T U C D so NoMemory added history x = tt

-- the same refusal, of a cause that implies this one
pub shows_as : (T U : Type 0) (C D : Cause) → Implies C D → (fault : JobFault) {old new : Option History} → Adds old new (Shows {T = U} C (Err fault))
    → Adds old new (Shows {T = T} D (Err fault))
shows_as T U C D so fault told = adds_as (Shows {T = T} D (Err fault)) told (λ added history x. said_as T U C D so fault added history x)

pub shows_first : (T U : Type 0) (C : Cause) (fault : JobFault) {old new : Option History} → Adds old new (Shows {T = U} C (Err fault))
    → Adds old new (Shows {T = T} C (Err fault))
shows_first T U C fault told = shows_as T U C C (λ name at added history x. x) fault told

-- a result, behind earlier steps
pub shows_behind : {T : Type 0} (C : Cause) → IsLate C → (result : Result T JobFault) {P : History → History → Type 0} {old mid new : Option History}
    → Adds old mid P → Adds mid new (Shows C result) → Adds old new (Shows C result)
shows_behind {T = T} C late result so_far told =
    adds_then (Shows C result) so_far told (λ a b history x y. said result b a history y)
  where
    said : (result : Result T JobFault) (b a history : History) → Shows C result b (a ++ history) → Shows C result (b ++ a) history
    said (Ok value) b a history y = tt
    said (Err (Outside call)) b a history y = tt
    said (Err (Damaged name at)) b a history y = late name at b a history y
    said (Err (Spent number)) b a history y = tt
    said (Err NoMemory) b a history y = tt

-- the refusal of a later call
pub shows_then : (T U : Type 0) (C : Cause) → IsLate C → (fault : JobFault) {P : History → History → Type 0} {old mid new : Option History}
    → Adds old mid P → Adds mid new (Shows {T = U} C (Err fault)) → Adds old new (Shows {T = T} C (Err fault))
shows_then T U C late fault so_far told = shows_first T U C fault (shows_behind {T = U} C late (Err fault) so_far told)

-- no damage is told
pub shows_ok : {T : Type 0} (C : Cause) (value : T) {P : History → History → Type 0} {old new : Option History} → Adds old new P
    → Adds old new (Shows C (Ok value))
shows_ok C value told = adds_as (Shows C (Ok value)) told (λ added history x. tt)

pub shows_outside : (T : Type 0) (C : Cause) (fault : OutsideFault) {P : History → History → Type 0} {old new : Option History} → Adds old new P
    → Adds old new (Shows {T = T} C (Err (job_fault fault)))
shows_outside T C (site_failed call) told = adds_as (Shows {T = T} C (Err (Outside call))) told (λ added history x. tt)
shows_outside T C no_memory told = adds_as (Shows {T = T} C (Err NoMemory)) told (λ added history x. tt)

pub shows_write : (T : Type 0) (C : Cause) (fault : JobFault) {P : History → History → Type 0} {old new : Option History} → IsOfWrite fault
    → Adds old new P → Adds old new (Shows {T = T} C (Err fault))
shows_write T C (Outside call) of told = adds_as (Shows {T = T} C (Err (Outside call))) told (λ added history x. tt)
shows_write T C (Damaged name at) of told = absurd of
shows_write T C (Spent number) of told = absurd of
shows_write T C NoMemory of told = adds_as (Shows {T = T} C (Err NoMemory)) told (λ added history x. tt)
