-- One stream, by the book that was read.
use Rattle.std.proofs.Common.{◌≡◌, inl, inr, ℕ, List, [], ◌∷◌, ◌++◌, Option, Some, None, Ok, Err, Result, refl, sym, subst, ◌∙◌}
use Rattle.chk_site.specs.Files.{Files}
use Rattle.chk_site.specs.Acts.{deed}
use Rattle.chk_site.specs.History.{Step, History, Every}
use Rattle.chk_site.specs.Site.{Adds}
use Rattle.chk_site.proofs.Runs.{adds_as, adds_none, adds_then, every_join}
use Rattle.chk_world.specs.Books.{End}
use Rattle.chk_world.specs.JobSteps.{IsOf, ReadsFile}
use Rattle.chk_record_index.specs.declared.fault.JobFault.{JobFault}
use Rattle.chk_record_index.specs.declared.fault.JobFault.TheVariants.{Outside as job_outside, Damaged as job_damaged, Spent as job_spent, NoMemory as job_no_memory}
use Rattle.chk_record_index.specs.Faults.{JobCause, FailsLast as JobFailsLast}
use Rattle.chk_ctl_cat.specs.declared.course.Course.{Course}
use Rattle.chk_ctl_cat.specs.declared.fault.LookFault.{LookFault}
use Rattle.chk_ctl_cat.specs.declared.stream.Came.{Came}
use Rattle.chk_ctl_cat.specs.declared.stream.Came.TheVariants.{Unknown}
use Rattle.chk_ctl_cat.specs.Archives.{PrintedAll}
use Rattle.chk_ctl_cat.specs.Courses.{KeepsCourse}
use Rattle.chk_ctl_cat.specs.Faults.{FailsLast, LookCause}
use Rattle.chk_ctl_cat.specs.Looking.{LooksOrSays, looks, Sees}
use Rattle.chk_ctl_cat.specs.Streams.{course_from, look_of, printed_result, CameTo, PrintedBy, Stays}
use Rattle.chk_ctl_cat.proofs.Texts.{sees_as}
use Rattle.chk_ctl_cat.proofs.SegmentLemmas.{looks_last, looks_cause}

-- the book doesn't have the stream
pub unknown_seen : (now : Option History) (most : ℕ) (names : List (List ℕ)) (o : Option End) (c : Course) → o ≡ None
    → Adds now now (Sees (PrintedBy most names o c c (Ok Unknown)))
unknown_seen now most names o c e =
    subst (λ (o : Option End). Adds now now (Sees (PrintedBy most names o c c (Ok Unknown)))) (sym e)
    (adds_none now (Sees (PrintedBy most names None c c (Ok Unknown))) (λ history. record { sees = λ held s h. (refl, refl); own = tt }))

-- it has it, and the segments were printed
pub booked_seen : (most : ℕ) (names : List (List ℕ)) (o : Option End) (e : End) (c b d : Course) (result : Result Came LookFault)
    {old new : Option History} → o ≡ Some e → b ≡ course_from c e → CameTo d result
    → Adds old new (Sees (PrintedAll most names b d (printed_result result))) → Adds old new (Sees (PrintedBy most names o c d result))
booked_seen most names o e c b d result {old = old} {new = new} is begun came told =
    subst (λ (o : Option End). Adds old new (Sees (PrintedBy most names o c d result))) (sym is)
    (sees_as (PrintedBy most names (Some e) c d result)
    (λ held t h x. (came, subst (λ (k : Course). PrintedAll most names k d (printed_result result) held t h) begun x)) told)

-- the course is as it was, where the book doesn't have its stream
pub unknown_stays : (o : Option End) (c : Course) → o ≡ None → Stays o c c
unknown_stays o c e = subst (λ (o : Option End). Stays o c c) (sym e) refl

-- and else the one from the stream's start there, come further
pub booked_stays : (o : Option End) (e : End) (c b d : Course) → o ≡ Some e → b ≡ course_from c e
    → KeepsCourse b d → Stays o c d
booked_stays o e c b d is begun keeps =
    subst (λ (o : Option End). Stays o c d) (sym is)
    (subst (λ (k : Course). KeepsCourse k d) begun keeps)

reads_look : (before : History) (step : Step) → IsOf ReadsFile before step → IsOf LooksOrSays before step
reads_look before step (inl theirs) = inl theirs
reads_look before step (inr own) = inr (own.0, looks (deed step.act) own.1)

every_look : (added history : History) → Every (IsOf ReadsFile) added history → Every (IsOf LooksOrSays) added history
every_look [] history each = tt
every_look (step ∷ added) history each = (every_look added history each.0, reads_look (added ++ history) step each.1)

pub reads_own : {old new : Option History} → Adds old new (Every (IsOf ReadsFile)) → Adds old new (Every (IsOf LooksOrSays))
reads_own told = adds_as (Every (IsOf LooksOrSays)) told (λ added history x. every_look added history x)

-- a read of the book, and then what is seen
pub own_then : {A : Files → List ℕ → History → Type 0} {old mid new : Option History} → Adds old mid (Every (IsOf ReadsFile))
    → Adds mid new (Sees A) → Adds old new (Every (IsOf LooksOrSays))
own_then reads seen =
    adds_then (Every (IsOf LooksOrSays)) (reads_own reads) seen (λ a b history p q. every_join (IsOf LooksOrSays) b a history p q.own)

pub load_last : (T V : Type 0) (fault : JobFault) {old new : Option History} → Adds old new (JobFailsLast {T = V} (Err fault))
    → Adds old new (FailsLast {T = T} (Err (look_of fault)))
load_last T V fault told = adds_as (FailsLast {T = T} (Err (look_of fault))) told (λ added history x. by fault added history x)
  where
    by : (fault : JobFault) (added history : History) → JobFailsLast {T = V} (Err fault) added history → FailsLast {T = T} (Err (look_of fault)) added history
    by (job_outside call) added history x = x
    by (job_damaged name at) added history x = tt
    by (job_spent number) added history x = tt
    by job_no_memory added history x = tt

pub load_cause : (T V : Type 0) (fault : JobFault) (before now : ℕ) → JobCause {T = V} before now (Err fault)
    → LookCause {T = T} before now (Err (look_of fault))
load_cause T V (job_outside call) before now cause = cause
load_cause T V (job_damaged name at) before now cause = cause
load_cause T V (job_spent number) before now cause = cause
load_cause T V job_no_memory before now cause = cause

-- after a load that is done
pub done_last : (T : Type 0) {P : History → History → Type 0} (result : Result T LookFault) {old mid new : Option History} → Adds old mid P
    → Adds mid new (FailsLast result) → Adds old new (FailsLast result)
done_last T (Ok value) so_far last = adds_then (FailsLast (Ok value)) so_far last (λ a b history p q. tt)
done_last T (Err fault) so_far last = looks_last T T fault so_far last

pub done_cause : (T : Type 0) (result : Result T LookFault) (before mid now : ℕ) → mid ≡ before → LookCause mid now result
    → LookCause before now result
done_cause T (Ok value) before mid now same cause = cause ∙ same
done_cause T (Err fault) before mid now same cause = looks_cause T T fault before mid now same cause
