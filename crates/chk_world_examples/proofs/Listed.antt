-- What a listing owes, of a list of names.
use Rattle.std.proofs.Common.{◌≡◌, ℕ, zero, suc, ◌<◌, Bool, true, false, ◌||◌, List, [], ◌∷◌, length, is_some, ap, sym, ◌∙◌, subst, arith, refl, true≢false, bytes_eq}
use Rattle.std.specs.Prelude.{codes, IsSome, Contains, slice_index_or}
use Rattle.std.specs.List.{list_any}
use Rattle.chk_site.specs.Files.{Files}
use Rattle.chk_site.specs.Honest.{in_folder}
use Rattle.chk_world.proofs.Ends.{bytes_same}
use Rattle.chk_world_examples.proofs.Present.{is_among, NoOthers}
use Rattle.chk_world.proofs.SightStays.{name_in as is_listed}

-- it holds of each
abbrev pub AllOf : {X : Type 0} → (X → Type 0) → List X → Type 0
AllOf P [] = Unit {0}
AllOf P (x ∷ xs) = P x × AllOf P xs

pub of_all : {X : Type 0} (P : X → Type 0) (xs : List X) (z : X) → AllOf P xs → Contains xs z → P z
of_all {X = X} P xs z all c = go xs c.0 all c.1 c.2
  where
    go : (xs : List X) (k : ℕ) → AllOf P xs → k < length xs → slice_index_or xs k z ≡ z → P z
    go [] k all below at = absurd (let w : ⊥ = omega (arith, below) in w)
    go (x ∷ xs) zero all below at = subst P at all.0
    go (x ∷ xs) (suc k) all below at = go xs k all.1 (omega (arith, below)) at

-- where no other file is there, a file of the folder is one of these
pub none_missed : (all names : List (List ℕ)) (files : Files) → NoOthers all files
    → ((name : List ℕ) → is_among all (in_folder (codes "sinks") name) ≡ list_any (bytes_eq name) names)
    → (name : List ℕ) → IsSome (files (in_folder (codes "sinks") name)) → Contains names name
none_missed all names files none same name there = is_listed names name (go (list_any (bytes_eq name) names) refl)
  where
    go : (b : Bool) → list_any (bytes_eq name) names ≡ b → list_any (bytes_eq name) names ≡ true
    go true e = e
    go false e = absurd (true≢false (sym there ∙ ap is_some (none (in_folder (codes "sinks") name) (same name ∙ e))))
