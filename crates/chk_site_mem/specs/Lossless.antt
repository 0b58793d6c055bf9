-- No message is lost.
use Rattle.std.specs.Prelude.{◌≡◌, ℕ, true, List, [], ◌∷◌}
use Rattle.chk_site.specs.Acts.{deed}
use Rattle.chk_site.specs.History.{History}
use Rattle.chk_site_mem_calls.specs.Plans.{LosesNothing}
use Rattle.chk_site_mem_store.specs.Repeating.{Repeating}

-- Each own taking gave whole the oldest message that waited at its door, but for the takings that are repeated, whose
-- numbers are such, and each own question for an answer got whole the oldest one that counts.
abbrev pub NothingLost : (List ℕ → Type 0) → History → Type 0
NothingLost Repeated [] = Unit {0}
NothingLost Repeated (step ∷ history) =
    NothingLost Repeated history
    × (step.own ≡ true
    → (repeated : List ℕ) × Repeated repeated × LosesNothing repeated history step.act.who (deed step.act) step.act.answer)

-- some takings may be repeated
abbrev pub any : List ℕ → Type 0
any repeated = Unit {0}

-- no taking is repeated
abbrev pub none : List ℕ → Type 0
none repeated = repeated ≡ []

-- no taking was repeated, and none will be
pub record RepeatsNone (r : Repeating) : Type 0 where
  pub again : r.again ≡ []
  pub numbers : r.numbers ≡ []
