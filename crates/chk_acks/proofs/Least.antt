-- The least of a list.
use Rattle.std.proofs.Common.{◌≡◌, ◌⊎◌, inl, inr, ◌≤◌, ℕ, suc, min, List, [], ◌∷◌, refl, arith, Option, Some, None, sym, fold}
use Rattle.std.specs.List.{All, Contains, reduce}
use Rattle.std.specs.Option.{IfSome, IsNone}
use Rattle.std.proofs.lemmas.Bool.{cases_lt}
use Rattle.std.proofs.lemmas.List.Elements.{All-cons, All-contains, All-nil}

fold_min : (x : ℕ) (xs : List ℕ)
    → (fold min x xs ≤ x) × All (λ y. fold min x xs ≤ y) xs
    × ((fold min x xs ≡ x) ⊎ Contains xs (fold min x xs))
fold_min x [] = (omega arith, All-nil (λ y. x ≤ y), inl refl)
fold_min x (y ∷ ys) =
    let rest = fold_min (min x y) ys in
    let m = fold min (min x y) ys in (
      omega (arith, rest.0),
      All-cons (λ z. m ≤ z) y ys (omega (arith, rest.0)) rest.1,
      elim rest.2 [
        | inl same ↦ elim (cases_lt x y) [
          | inl lt ↦ inl (omega (arith, same))
          | inr ge ↦ inr (0, omega arith, omega (arith, same))
        ]
        | inr (k, within, is) ↦ inr (suc k, omega arith, is)
      ],
    )

-- it is in the list, and none is below it
pub least_in : (xs : List ℕ) → IfSome (reduce min xs) (Contains xs)
least_in [] = tt
least_in (x ∷ xs) =
    elim (fold_min x xs).2 [
      | inl same ↦ (0, omega arith, sym same)
      | inr (k, within, is) ↦ (suc k, omega arith, is)
    ]

pub least_below : (xs : List ℕ) → IfSome (reduce min xs) (λ m. All (λ y. m ≤ y) xs)
least_below [] = tt
least_below (x ∷ xs) = All-cons (λ y. fold min x xs ≤ y) x xs (fold_min x xs).0 (fold_min x xs).1

-- there is none only in the empty list
pub least_none : (xs : List ℕ) → IsNone (reduce min xs) → xs ≡ []
least_none [] none = refl
least_none (x ∷ xs) none = cc

-- where all have P, one that is there has
pub some_of_all : (P : ℕ → Type 0) (xs : List ℕ) (r : Option ℕ) → IfSome r (Contains xs) → All P xs
    → IfSome r P
some_of_all P xs None there all = tt
some_of_all P xs (Some x) there all = All-contains P xs x all there
