-- Which calls the tidying makes.
use Rattle.std.proofs.Common.{◌≡◌, ℕ, inl, inr, List, [], ◌∷◌, Option, Ok, Err, Result, refl}
use Rattle.std.specs.Prelude.{MatchResult, IfErr, codes}
use Rattle.chk_site.specs.declared.acts.OutsideFault.{OutsideFault}
use Rattle.chk_site.specs.declared.acts.CallFault.{CallFault}
use Rattle.chk_site.specs.declared.acts.ActAnswer.{ActAnswer}
use Rattle.chk_site.specs.declared.acts.Call.TheVariants.{Remove, List as ListNames}
use Rattle.chk_site.specs.Acts.{Deed, Reads}
use Rattle.chk_site.specs.History.{History, Every}
use Rattle.chk_site.specs.Site.{Adds, LastFailed, Asked, asked, answered, plain, IsDone, Calls}
use Rattle.chk_site.specs.Site.{Ends}
use Rattle.chk_site.proofs.Runs.{adds_as}
use Rattle.chk_replace.proofs.CallSteps.{OfOwn, call_each}
use Rattle.chk_site.proofs.LastCalls.{ended_last as ends_last}
use Rattle.chk_world.specs.Books.{Book}
use Rattle.chk_world.specs.Sight.{job}
use Rattle.chk_world.specs.JobSteps.{IsOf}
use Rattle.chk_archive_parts.proofs.StepKinds.{no_reads}
use Rattle.chk_join.specs.Names.{IsStray}
use Rattle.chk_join.specs.Working.{Worked, TidiesBy, lists_joined, removes_stray, job_result}
use Rattle.chk_archive_parts.proofs.Works.{as_job}
use Rattle.chk_book.proofs.Works.{worked}

pub tidies_no_reads : (b : Book) (call : Deed) → TidiesBy b call → (name : List ℕ) (at max : ℕ)
    → call ≡ Reads name at max → ⊥
tidies_no_reads b call lists_joined name at max is = absurd (cc)
tidies_no_reads b call (removes_stray w stray) name at max is = absurd (cc)

abbrev pub listing : Asked
listing = asked job ListNames (codes "joined" ∷ []) 0 0

list_is : (b : Book) → OfOwn (IsOf (TidiesBy b)) listing
list_is b before answer files logs running honest =
    inr (record { own = refl; running = running; honest = honest; by = refl }, lists_joined)

list_last : {T V : Type 0} (how : V → ActAnswer) (given : Result V CallFault) (r : Result T OutsideFault)
    {old new : Option History} → IfErr r (λ fault. Ends ListNames given fault)
    → Adds old new (Calls listing (answered how given)) → Adds old new (LastFailed r)
list_last how given (Ok value) ends told = adds_as (LastFailed (Ok value)) told (λ added history calls. tt)
list_last {T = T} how given (Err fault) ends told =
    adds_as (LastFailed {T = T} (Err fault)) told (λ added history calls. ends_last T how given fault ends calls)

pub list_works : {T V : Type 0} (b : Book) (given : Result V CallFault) (how : V → ActAnswer) (r : Result T OutsideFault)
    {old new : Option History} → Adds old new (Calls listing (answered how given))
    → IfErr r (λ fault. Ends ListNames given fault) → Adds old new (Worked (TidiesBy b) (job_result r))
list_works b given how r {old = old} {new = new} told ends =
    let own : Adds old new (Every (IsOf (TidiesBy b))) =
    adds_as (Every (IsOf (TidiesBy b))) told
    (λ added history calls. call_each (IsOf (TidiesBy b)) (answered how given)
    (λ before step theirs. inl theirs) (list_is b) calls) in
    worked (TidiesBy b) (job_result r) own (no_reads (TidiesBy b) (tidies_no_reads b) own)
    (as_job r (list_last how given r ends told))

-- how the listing ended, where it gave no names
pub list_ends : {V : Type 0} (given : Result V CallFault) (r : Result V OutsideFault)
    → MatchResult r (λ value. given ≡ Ok value) (λ fault. Ends ListNames given fault)
    → IfErr r (λ fault. Ends ListNames given fault)
list_ends given (Ok value) is = tt
list_ends given (Err fault) ends = ends

abbrev pub removal : List ℕ → Asked
removal w = asked job Remove (w ∷ []) 0 0

remove_is : (b : Book) (w : List ℕ) → IsStray b w → OfOwn (IsOf (TidiesBy b)) (removal w)
remove_is b w stray before answer files logs running honest =
    inr (record { own = refl; running = running; honest = honest; by = refl }, removes_stray w stray)

remove_last : (w : List ℕ) (given : Result (Unit {0}) CallFault) (r : Result (Unit {0}) OutsideFault)
    {old new : Option History} → MatchResult r (λ _. IsDone given) (λ fault. Ends Remove given fault)
    → Adds old new (Calls (removal w) (answered plain given)) → Adds old new (LastFailed r)
remove_last w given (Ok value) ends told = adds_as (LastFailed (Ok value)) told (λ added history calls. tt)
remove_last w given (Err fault) ends told =
    adds_as (LastFailed {T = Unit {0}} (Err fault)) told
    (λ added history calls. ends_last (Unit {0}) plain given fault ends calls)

pub remove_works : (b : Book) (w : List ℕ) → IsStray b w → (given : Result (Unit {0}) CallFault)
    (r : Result (Unit {0}) OutsideFault) {old new : Option History}
    → MatchResult r (λ _. IsDone given) (λ fault. Ends Remove given fault)
    → Adds old new (Calls (removal w) (answered plain given)) → Adds old new (Worked (TidiesBy b) (job_result r))
remove_works b w stray given r {old = old} {new = new} ends told =
    let own : Adds old new (Every (IsOf (TidiesBy b))) =
    adds_as (Every (IsOf (TidiesBy b))) told
    (λ added history calls. call_each (IsOf (TidiesBy b)) (answered plain given)
    (λ before step theirs. inl theirs) (remove_is b w stray) calls) in
    worked (TidiesBy b) (job_result r) own (no_reads (TidiesBy b) (tidies_no_reads b) own)
    (as_job r (remove_last w given r ends told))
