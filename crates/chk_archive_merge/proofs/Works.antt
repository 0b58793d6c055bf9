-- Own calls, one stretch behind the other.
use Rattle.std.proofs.Common.{◌≡◌, ℕ, List, Option, Ok, Err, Result, ◌∙◌, ap, subst}
use Rattle.chk_site.specs.Acts.{Deed}
use Rattle.chk_site.specs.History.{History, Every}
use Rattle.chk_site.specs.Site.{Adds}
use Rattle.chk_site.proofs.Runs.{adds_as}
use Rattle.chk_world.specs.JobSteps.{IsOf, ReadsFile, WritesTo, ReadsOrWrites}
use Rattle.chk_record_index.specs.Faults.{FailsLast, Worked}
use Rattle.chk_record_index.specs.declared.fault.JobFault.{JobFault}
use Rattle.chk_record_index.specs.declared.fault.JobFault.TheVariants.{Outside, Damaged, Spent, NoMemory}
use Rattle.chk_book.specs.Folders.{segment_name}
use Rattle.chk_book.specs.Segmenting.{Writing}
use Rattle.chk_record_reader.proofs.Writing.{reads_as, writes_as, writes_ask}
use Rattle.chk_book.proofs.Works.{worked, own_of, pieces_of, last_of}

-- nothing was called, or no call failed
pub works_value : {T U : Type 0} (K : Deed → Type 0) (value : T) (other : U) {old new : Option History}
    → Adds old new (Worked {T = T} K (Ok value)) → Adds old new (Worked {T = U} K (Ok other))
works_value K value other told = adds_as (Worked K (Ok other)) told (λ added history w. record { own = w.own; pieces = w.pieces; last = tt })

pub works_memory : {T U : Type 0} (K : Deed → Type 0) (value : T) {old new : Option History}
    → Adds old new (Worked {T = T} K (Ok value)) → Adds old new (Worked {T = U} K (Err NoMemory))
works_memory {U = U} K value told = adds_as (Worked {T = U} K (Err NoMemory)) told (λ added history w. record { own = w.own; pieces = w.pieces; last = tt })

-- the same fault of another call
pub works_fault : {T U : Type 0} (K : Deed → Type 0) (fault : JobFault) {old new : Option History}
    → Adds old new (Worked {T = T} K (Err fault)) → Adds old new (Worked {T = U} K (Err fault))
works_fault {T = T} {U = U} K fault told =
    adds_as (Worked {T = U} K (Err fault)) told
    (λ added history w. record { own = w.own; pieces = w.pieces; last = go fault added history w.last })
  where
    go : (fault : JobFault) (added history : History) → FailsLast {T = T} (Err fault) added history → FailsLast {T = U} (Err fault) added history
    go (Outside call) added history x = x
    go (Damaged name at) added history x = tt
    go (Spent n) added history x = tt
    go NoMemory added history x = tt

-- ---- beside a segment under writing

pub works_read : {T : Type 0} (segment : List ℕ) (r : Result T JobFault) {old new : Option History}
    → Adds old new (Worked ReadsFile r) → Adds old new (Worked (ReadsOrWrites segment) r)
works_read segment r told =
    worked (ReadsOrWrites segment) r (reads_as segment (own_of ReadsFile r told)) (pieces_of ReadsFile r told) (last_of ReadsFile r told)

pub works_write : {T : Type 0} (segment : List ℕ) (r : Result T JobFault) {old new : Option History}
    → Adds old new (Every (IsOf (WritesTo segment))) → Adds old new (FailsLast r) → Adds old new (Worked (ReadsOrWrites segment) r)
works_write segment r own last = worked (ReadsOrWrites segment) r (writes_as segment own) (writes_ask segment own) last

pub works_named : {T : Type 0} (w : Writing) (folder : List ℕ) (next : ℕ) (r : Result T JobFault) → w.folder ≡ folder → w.number ≡ next
    → {old new : Option History} → Adds old new (Worked (ReadsOrWrites (segment_name w.folder w.number)) r)
    → Adds old new (Worked (ReadsOrWrites (segment_name folder next)) r)
works_named w folder next r f n {old = old} {new = new} told =
    subst (λ (s : List ℕ). Adds old new (Worked (ReadsOrWrites s) r)) (ap (λ x. segment_name x w.number) f ∙ ap (segment_name folder) n) told
