-- Parts of inspections.
use Rattle.std.proofs.Common.{◌≡◌, ℕ, List, [], ◌∷◌, map, ap, refl, subst, sym, Bool, Result, Ok, Err}
use Rattle.std.specs.Prelude.{IfOk, ◌||◌}
use Rattle.std.specs.List.{list_any}
use Rattle.chk_ctl_run.specs.declared.outcome.Outcome.{Outcome}
use Rattle.chk_ctl_run.specs.Outcomes.{outcome_status}
use Rattle.chk_ctl_machine.specs.Deeds.{ended, Told}
use Rattle.chk_ctl_inspect.specs.declared.kept.Seen.TheVariants.{Failed}
use Rattle.chk_ctl_inspect.specs.Folders.{failed, Fails}

-- what follows from a value that is there
pub ok_map : {T E : Type 0} {P Q : T → Type 0} (result : Result T E)
    → ((value : T) → P value → Q value) → IfOk result P → IfOk result Q
ok_map (Ok value) weaker holds = weaker value holds
ok_map (Err fault) weaker holds = tt

pub fails_so : (outcome : Outcome) (status : ℕ) {old new : Told}
    → status ≡ outcome_status outcome → new ≡ ended outcome old
    → Fails outcome (Failed status) old new
fails_so outcome status {old = old} {new = new} is told =
    subst (λ (n : ℕ). Fails outcome (Failed n) old new) (sym is) (failed told)

pub any_map : {A B : Type 0} (p : B → Bool) (f : A → B) (xs : List A)
    → list_any p (map f xs) ≡ list_any (λ x. p (f x)) xs
any_map p f [] = refl
any_map p f (x ∷ xs) = ap (λ b. p (f x) || b) (any_map p f xs)
