-- A call whose contract ranges over what the job knows as the call begins.
use Rattle.std.proofs.Common.{◌≡◌, inl, inr, ℕ, Bool, true, false, List, ◌++◌, Option, sym, subst, ◌∙◌, refl, true≢false}
use Rattle.std.proofs.lemmas.Bool.{cases_Bool}
use Rattle.std.proofs.lemmas.List.{append_cancel_right}
use Rattle.std.proofs.lemmas.Option.{same_Some}
use Rattle.chk_site.specs.Acts.{Deed, Starts}
use Rattle.chk_site.specs.History.{History, Every, Others, is_stopped}
use Rattle.chk_site.specs.Site.{Adds}
use Rattle.chk_site.specs.Runs.{Leads}
use Rattle.chk_site.proofs.Runs.{adds_as, adds_both}
use Rattle.chk_world.specs.Places.{As, Foreign}
use Rattle.chk_world.specs.Rules.{Legal}
use Rattle.chk_world.specs.Sight.{job, Sight, sight, AtJob}
use Rattle.chk_world.specs.JobSteps.{IsOf}
use Rattle.chk_world.proofs.ToldCalls.{talks}
use Rattle.chk_world.proofs.Lifts.{steps_keep, owned_by}
use Rattle.chk_archive_parts.proofs.OneFile.{Knows, stays_stopped}

-- from this history on the steps lead to C
abbrev pub Reaches : List (List ℕ) → History → (History → Type 0) → History → History → Type 0
Reaches stamped h C added history =
    history ≡ h → Others (Foreign stamped job) added history → C (added ++ history)

pub reach : (stamped : List (List ℕ)) (h : History) (A C : History → Type 0) {old new : Option History}
    → Adds old new (Leads (As stamped job) A C) → A h → Adds old new (Reaches stamped h C)
reach stamped h A C told a =
    adds_as (Reaches stamped h C) told
    (λ added history l e others. l.leads others (subst A (sym e) a))

-- where it knows just this
pub reach_known : (stamped : List (List ℕ)) (h : History) (P : Sight → Type 0) (C : History → Type 0)
    {old new : Option History}
    → Adds old new (Leads (As stamped job) (Knows stamped (sight h)) C) → AtJob stamped P h
    → Adds old new (Reaches stamped h C)
reach_known stamped h P C told a =
    reach stamped h (Knows stamped (sight h)) C told
    (record { legal = a.legal; may_act = a.may_act; alive = λ runs. refl })

module _ (stamped : List (List ℕ)) (K : Deed → Type 0) (no_starts : K Starts → ⊥)
    (quiet : (call : Deed) → K call → talks call ≡ false) where
  -- where the site was stopped nothing is claimed
  pub stopped_on : (added history : History) → Every (IsOf K) added history
      → Others (Foreign stamped job) added history → Legal stamped history
      → is_stopped history ≡ true → AtJob stamped (λ u. ⊥) (added ++ history)
  stopped_on added history every others legal e =
      steps_keep stamped K no_starts (λ u. ⊥) (λ before step o k l p. absurd p)
      (λ before step o k l goes p. absurd p) added history every others
      (record {
        legal = legal;
        may_act = λ runs. absurd (true≢false (sym e ∙ runs));
        alive = λ runs. absurd (true≢false (sym e ∙ runs));
      })

  -- for what the job knows then the contract is used
  pub from_known : (P : Sight → Type 0) (C : History → Type 0) {old new : Option History}
      → Adds old new (Every (IsOf K))
      → ((h : History) → AtJob stamped P h → is_stopped h ≡ false → Adds old new (Reaches stamped h C))
      → ((h : History) → AtJob stamped (λ u. ⊥) h → C h)
      → Adds old new (Leads (As stamped job) (AtJob stamped P) C)
  from_known P C own led bottom = record {
    told = λ history e.
        let y = own.told history e in (
          y.0,
          y.1,
          record {
            leads = λ others h.
                let go : (b : Bool) → is_stopped history ≡ b → C (y.0 ++ history) =
                λ b. elim b as (λ b. is_stopped history ≡ b → C (y.0 ++ history)) [
                  | true ↦ λ r. bottom (y.0 ++ history)
                      (stopped_on y.0 history y.2 others h.legal r)
                  | false ↦ λ r.
                      let w = (led history h r).told history e in
                      let same : w.0 ≡ y.0 = append_cancel_right w.0 y.0 history
                      (same_Some (w.0 ++ history) (y.0 ++ history) (sym w.1 ∙ y.1)) in
                      (subst (λ (a : History). Reaches stamped history C a history) same w.2) refl others
                ] in
                go (is_stopped history) refl;
            own = owned_by K quiet y.0 history y.2;
          },
        );
    untold = own.untold;
  }

  -- what holds of values before, where the site runs, holds still where it does
  pub with_fact : (X : Type 0) (P : Sight → Type 0) (B : History → Type 0) {old new : Option History}
      → Adds old new (Every (IsOf K)) → Adds old new (Leads (As stamped job) (AtJob stamped P) B)
      → Adds old new (Leads (As stamped job) (AtJob stamped (λ u. P u × X))
      (λ h. B h × (is_stopped h ≡ false → X)))
  with_fact X P B own told =
      adds_both (Leads (As stamped job) (AtJob stamped (λ u. P u × X))
      (λ h. B h × (is_stopped h ≡ false → X))) told own
      (λ added history x made. record {
        leads = λ others h. (
          x.leads others (record { legal = h.legal; may_act = h.may_act; alive = λ runs. (h.alive runs).0 }),
          λ runs. (h.alive (ran added history made runs)).1,
        );
        own = x.own;
      })
    where
      ran : (added history : History) → Every (IsOf K) added history
          → is_stopped (added ++ history) ≡ false → is_stopped history ≡ false
      ran added history made runs = elim (cases_Bool (is_stopped history)) [
        | inr so ↦ so
        | inl stopped ↦ absurd (true≢false (sym (stays_stopped K added history made stopped) ∙ runs))
      ]
