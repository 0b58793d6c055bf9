-- Which calls the tidying makes.
use Rattle.std.proofs.Common.{◌≡◌, inl, inr, Bool, true, false, cond, List, [], ◌∷◌, Option, Ok, Err, Result, refl, ℕ}
use Rattle.std.specs.Prelude.{codes, filter, map}
use Rattle.chk_site.specs.declared.acts.OutsideFault.{OutsideFault}
use Rattle.chk_site.specs.History.{Step, History, Every}
use Rattle.chk_site.specs.Honest.{in_folder}
use Rattle.chk_site.specs.Site.{Adds, answered, names_given}
use Rattle.chk_site.specs.Runs.{Leads, MadeInTurn}
use Rattle.chk_site.proofs.Runs.{adds_as, adds_then, every_join}
use Rattle.chk_site.proofs.Leads.{leads_as}
use Rattle.chk_replace.proofs.CallSteps.{OfEach, OfOwn, call_each, script_each}
use Rattle.chk_world.specs.Books.{Book}
use Rattle.chk_world.specs.Rules.{Legal}
use Rattle.chk_world.specs.Places.{As}
use Rattle.chk_world.specs.Sight.{job, AtJob}
use Rattle.chk_world.specs.JobSteps.{IsOf}
use Rattle.chk_archive.specs.Calling.{listing, removals, Listed}
use Rattle.chk_archive.specs.FolderNames.{is_stray, strays_in}
use Rattle.chk_archive.specs.Tidying.{HasBook, TidiesBy, lists_archive, removes_stray}
use Rattle.chk_archive.proofs.Looking.{archive_listed}

abbrev Works : Book → History → Step → Type 0
Works b = IsOf (TidiesBy b)

list_is : (b : Book) → OfOwn (Works b) (listing job (codes "archive"))
list_is b before answer files logs running honest =
    inr (record { own = refl; running = running; honest = honest; by = refl }, lists_archive)

pub listed_works : (b : Book) (result : Result
    (List (List ℕ)) OutsideFault) {old new : Option History}
    → Listed job (codes "archive") result old new → Adds old new (Every (Works b))
listed_works b (Ok names) told =
    adds_as (Every (Works b)) told
    (λ added history calls. call_each (Works b) (Ok (names_given names))
    (λ before step theirs. inl theirs) (list_is b) calls)
listed_works b (Err fault) told =
    adds_as (Every (Works b)) told.2
    (λ added history calls. call_each (Works b) (answered names_given told.0)
    (λ before step theirs. inl theirs) (list_is b) calls)

each_stray : (b : Book) (names : List (List ℕ)) → OfEach (Works b)
    (removals job (strays_in b names))
each_stray b [] = tt
each_stray b (name ∷ names) = go (is_stray b name) refl (each_stray b names)
  where
    go : (t : Bool) → is_stray b name ≡ t → OfEach (Works b) (removals job (strays_in b names))
        → OfEach (Works b) (removals job (map (in_folder (codes "archive"))
        (cond t (name ∷ filter (is_stray b) names) (filter (is_stray b) names))))
    go true e rest = (
      λ before answer files logs running honest.
          inr (record { own = refl; running = running; honest = honest; by = refl }, removes_stray name e),
      rest,
    )
    go false e rest = rest

-- a listing, and then the removals in turn
pub tidy_works : (b : Book) (names : List (List ℕ)) {result : Result
    (Unit {0}) OutsideFault} {old mid new : Option History}
    → Listed job (codes "archive") (Ok names) old mid → MadeInTurn
    (removals job (strays_in b names)) result mid new
    → Adds old new (Every (Works b))
tidy_works b names listed script =
    adds_then (Every (Works b)) (listed_works b (Ok names) listed)
    (script_each (Works b) (λ before step theirs. inl theirs) (each_stray b names) script)
    (λ a b' history x y. every_join (Works b) b' a history x y)

-- a listing alone
pub only_listed : (stamped : List (List ℕ)) (b : Book)
    (names : List (List ℕ)) {old new : Option History}
    → Listed job (codes "archive") (Ok names) old new
    → Adds old new (Leads (As stamped job) (AtJob stamped (HasBook b)) (Legal stamped))
only_listed stamped b names listed = leads_as (λ h k. k) (λ h k. k.legal)
    (archive_listed stamped b names listed)
