-- A fact of each element of a list.
use Rattle.std.proofs.Common.{◌≡◌, ℕ, zero, suc, ◌<◌, Bool, true, false, cond, List, [], ◌∷◌, length, ap, sym, subst, ◌∙◌, refl, arith, true≢false}
use Rattle.std.specs.Prelude.{Contains, filter, slice_index_or}
use Rattle.std.proofs.lemmas.Bool.{cond_both}

-- a fact of each element, by recursion
abbrev pub Each : {X : Type 0} → (X → Type 0) → List X → Type 0
Each P [] = Unit {0}
Each P (x ∷ xs) = P x × Each P xs

pub each_from : {X : Type 0} (P : X → Type 0) (xs : List X) → ((x : X) → Contains xs x → P x)
    → Each P xs
each_from P [] h = tt
each_from P (x ∷ xs) h = (h x (0, omega arith, refl), each_from P xs (λ y one. h y (suc one.0, omega (arith, one.1), one.2)))

pub each_filter : {X : Type 0} (P : X → Type 0) (p : X → Bool) (xs : List X) → Each P xs
    → Each P (filter p xs)
each_filter P p [] h = tt
each_filter P p (x ∷ xs) h =
    let rest = each_filter P p xs h.1 in
    cond_both (p x) (x ∷ filter p xs) (filter p xs) (Each P) (λ e. (h.0, rest)) (λ e. rest)

pub later_one : {X : Type 0} (x : X) (xs : List X) (y : X) → Contains xs y → Contains (x ∷ xs) y
later_one x xs y one = (suc one.0, omega (arith, one.1), one.2)

pub passes_in : {X : Type 0} (p : X → Bool) (xs : List X) (x : X) → Contains xs x → p x ≡ true
    → Contains (filter p xs) x
passes_in {X = X} p xs x one h = go xs one.0 one.1 one.2
  where
    go : (xs : List X) (k : ℕ) → k < length xs → slice_index_or xs k x ≡ x
        → Contains (filter p xs) x
    go [] k below at = absurd (let z : ⊥ = omega arith in z)
    go (y ∷ xs) zero below at =
        cond_both (p y) (y ∷ filter p xs) (filter p xs) (λ l. Contains l x)
        (λ e. (0, omega arith, at)) (λ e. absurd (true≢false (sym h ∙ (sym (ap p at) ∙ e))))
    go (y ∷ xs) (suc k) below at =
        let rest = go xs k (omega (arith, below)) at in
        cond_both (p y) (y ∷ filter p xs) (filter p xs) (λ l. Contains l x) (λ e. later_one y (filter p xs) x rest) (λ e. rest)

-- what passes was there
pub filter_each : {X : Type 0} (p : X → Bool) (xs : List X) → Each (λ x. p x ≡ true) (filter p xs)
filter_each p [] = tt
filter_each p (x ∷ xs) =
    let rest = filter_each p xs in
    cond_both (p x) (x ∷ filter p xs) (filter p xs) (Each (λ x. p x ≡ true)) (λ e. (e, rest)) (λ e. rest)

pub each_both : {X : Type 0} (P Q : X → Type 0) (xs : List X) → Each P xs → Each Q xs
    → Each (λ x. P x × Q x) xs
each_both P Q [] a b = tt
each_both P Q (x ∷ xs) a b = ((a.0, b.0), each_both P Q xs a.1 b.1)

pub each_as : {X : Type 0} (P Q : X → Type 0) (xs : List X) → ((x : X) → P x → Q x) → Each P xs
    → Each Q xs
each_as P Q [] f a = tt
each_as P Q (x ∷ xs) f a = (f x a.0, each_as P Q xs f a.1)

pub each_at : {X : Type 0} (P : X → Type 0) (xs : List X) (x : X) → Each P xs → Contains xs x → P x
each_at {X = X} P xs x all one = go xs one.0 all one.1 one.2
  where
    go : (xs : List X) (k : ℕ) → Each P xs → k < length xs → slice_index_or xs k x ≡ x → P x
    go [] k all below at = absurd (let z : ⊥ = omega arith in z)
    go (y ∷ xs) zero all below at = subst P at all.0
    go (y ∷ xs) (suc k) all below at = go xs k all.1 (omega (arith, below)) at

-- an element that a list begins with
pub first_in : {X : Type 0} (ys : List X) (x : X) (xs : List X) → ys ≡ x ∷ xs → Contains ys x
first_in ys x xs e = subst (λ l. Contains l x) (sym e) (0, omega arith, refl)

-- what passes was in the list
pub filter_in : {X : Type 0} (p : X → Bool) (xs : List X) (x : X) → Contains (filter p xs) x
    → Contains xs x
filter_in {X = X} p xs x one = go xs one
  where
    pick : (y : X) (ys : List X) (b : Bool) → Contains (cond b (y ∷ filter p ys) (filter p ys)) x
        → (Contains (filter p ys) x → Contains ys x) → Contains (y ∷ ys) x
    pick y ys true (zero, below, at) rest = (0, omega arith, at)
    pick y ys true (suc k, below, at) rest = later_one y ys x (rest (k, omega (arith, below), at))
    pick y ys false one rest = later_one y ys x (rest one)

    go : (xs : List X) → Contains (filter p xs) x → Contains xs x
    go [] one = one
    go (y ∷ ys) one = pick y ys (p y) one (λ k. go ys k)
