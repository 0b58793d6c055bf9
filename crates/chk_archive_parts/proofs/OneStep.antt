-- One step more.
use Rattle.std.proofs.Common.{◌≡◌, ℕ, false, List, [], ◌∷◌, ◌++◌, Some, sym, subst, refl}
use Rattle.std.proofs.lemmas.List.{append_cancel_right}
use Rattle.std.proofs.lemmas.Option.{same_Some, none-some}
use Rattle.chk_site.specs.History.{Step, History}
use Rattle.chk_site.specs.Runs.{Leads}
use Rattle.chk_site.specs.Site.{Adds}
use Rattle.chk_world.specs.Places.{As, Foreign}
use Rattle.chk_world.specs.Sight.{job}

-- one step more
pub single : (before : History) (step : Step) (Q : History → History → Type 0) → Q (step ∷ []) before
    → Adds (Some before) (Some (step ∷ before)) Q
single before step Q q = record {
  told = λ history e.
      subst (λ h. (added : History) × (Some (step ∷ before) ≡ Some (added ++ h)) × Q added h)
      (same_Some before history e) (step ∷ [], refl, q);
  untold = λ e. absurd (none-some before (sym e));
}

pub single_leads : (stamped : List (List ℕ)) (before : History) (step : Step) (A B : History → Type 0)
    → Adds (Some before) (Some (step ∷ before)) (Leads (As stamped job) A B)
    → (step.own ≡ false → Foreign stamped job before step) → A before → B (step ∷ before)
single_leads stamped before step A B told theirs a =
    let x = told.told before refl in
    let same : x.0 ≡ step ∷ [] =
    append_cancel_right x.0 (step ∷ []) before (same_Some (x.0 ++ before) (step ∷ before) (sym x.1)) in
    let led : Leads (As stamped job) A B (step ∷ []) before =
    subst (λ (l : History). Leads (As stamped job) A B l before) same x.2 in
    led.leads (tt, theirs) a
