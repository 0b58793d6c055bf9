-- Calls that list nothing leave the job's last listing.
use Rattle.std.proofs.Common.{◌≡◌, inl, inr, Bool, List, [], ◌∷◌, ◌++◌, Option, ◌∙◌, refl, ℕ}
use Rattle.chk_site.specs.declared.acts.ActAnswer.{ActAnswer}
use Rattle.chk_site.specs.Acts.{Deed, deed}
use Rattle.chk_site.specs.History.{History, Every, Others}
use Rattle.chk_site.specs.Site.{Adds}
use Rattle.chk_site.specs.Runs.{Leads}
use Rattle.chk_site.proofs.Runs.{adds_both}
use Rattle.chk_world.specs.ArchiveRuns.{Listing, last_listing, listing_by}
use Rattle.chk_world.specs.Places.{As, Foreign}
use Rattle.chk_world.specs.Sight.{job}
use Rattle.chk_world.specs.JobSteps.{IsOf}
use Rattle.chk_world.proofs.Frames.{listing_stays}
use Rattle.chk_archive.specs.Sinks.{RemovesShown, removes_shown}

-- such calls are no listing
abbrev pub ListsNothing : (Deed → Type 0) → Type 0
ListsNothing K =
    (call : Deed) → K call → (by_job : Bool) (answer : ActAnswer) (upto : History) (earlier : Option Listing)
    → listing_by by_job call answer upto earlier ≡ earlier

module _ (stamped : List (List ℕ)) (K : Deed → Type 0) (quiet : ListsNothing K) where
  kept : (added history : History) → Every (IsOf K) added history
      → Others (Foreign stamped job) added history → last_listing (added ++ history) ≡ last_listing history
  kept [] history every others = refl
  kept (step ∷ added) history every others = elim every.1 [
    | inl theirs ↦
        listing_stays stamped (added ++ history) step (others.1 theirs.0)
        ∙ kept added history every.0 others.0
    | inr mine ↦
        quiet (deed step.act) mine.1 _ step.act.answer (step ∷ (added ++ history)) (last_listing (added ++ history))
        ∙ kept added history every.0 others.0
  ]

  pub keeps_listing : (A B : History → Type 0) (l : Option Listing) {old new : Option History}
      → Adds old new (Leads (As stamped job) A B) → Adds old new (Every (IsOf K))
      → Adds old new (Leads (As stamped job) (λ h. A h × (last_listing h ≡ l)) (λ h. B h × (last_listing h ≡ l)))
  keeps_listing A B l told own =
      adds_both (Leads (As stamped job) (λ h. A h × (last_listing h ≡ l)) (λ h. B h × (last_listing h ≡ l))) told own
      (λ added history x made. record {
        leads = λ others h. (x.leads others h.0, kept added history made others ∙ h.1);
        own = x.own;
      })

-- removals are no listing
pub removals_list_nothing : (names : List (List ℕ)) → ListsNothing (RemovesShown names)
removals_list_nothing names call (removes_shown name one closed) by_job answer upto earlier = refl
