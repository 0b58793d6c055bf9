-- Places in a list: what is found first, and what a change of one leaves.
use Rattle.std.proofs.Common.{◌≡◌, ℕ, zero, suc, ◌+◌, ◌<◌, Bool, true, false, cond, List, [], ◌∷◌}
use Rattle.std.proofs.Common.{◌++◌, length, map, Some, None, refl, sym, ap, ap₂, ◌∙◌, inl, inr, ◌⊎◌}
use Rattle.std.proofs.Common.{arith, nat_lt}
use Rattle.std.specs.Prelude.{position, slice_get, slice_set}
use Rattle.std.specs.List.{position_from, position_or_len}
use Rattle.std.specs.Map.{values_of}
use Rattle.std.proofs.lemmas.Iterator.Adapters.{position_from-zero}
use Rattle.std.proofs.lemmas.Bool.{ltb-true}
use Rattle.std.proofs.lemmas.Option.{same_Some, none-some}
use Rattle.indexmap.specs.IndexMap.{set_value_at}

module _ {X : Type 0} where
  -- nothing is found where nothing passes
  none_from : (p : X → Bool) (i : ℕ) (xs : List X)
      → ((k : ℕ) (x : X) → slice_get xs k ≡ Some x → p x ≡ false)
      → position_from p i xs ≡ None
  none_from p i [] none = refl
  none_from p i (x ∷ xs) none =
      ap (λ b. cond b (Some i) (position_from p (i + 1) xs)) (none 0 x refl)
      ∙ none_from p (i + 1) xs (λ k y at. none (suc k) y at)

  pub none_passes : (p : X → Bool) (xs : List X)
      → ((k : ℕ) (x : X) → slice_get xs k ≡ Some x → p x ≡ false)
      → position p xs ≡ None
  none_passes p xs none = position_from-zero p xs ∙ none_from p 0 xs none

  -- nothing passes where nothing is found
  fails_from : (p : X → Bool) (i : ℕ) (xs : List X) → position_from p i xs ≡ None
      → (k : ℕ) (x : X) → slice_get xs k ≡ Some x → p x ≡ false
  fails_from p i [] e k x at = absurd (none-some x at)
  fails_from p i (y ∷ ys) e k x at = go (p y) refl e k x at (fails_from p (i + 1) ys)
    where
      go : (b : Bool) → p y ≡ b → cond b (Some i) (position_from p (i + 1) ys) ≡ None
          → (k : ℕ) (x : X) → slice_get (y ∷ ys) k ≡ Some x
          → (position_from p (i + 1) ys ≡ None → (k : ℕ) (x : X) → slice_get ys k ≡ Some x → p x
          ≡ false) → p x ≡ false
      go true is e k x at rest = absurd (none-some i (sym e))
      go false is e zero x at rest = sym (ap p (same_Some y x at)) ∙ is
      go false is e (suc k) x at rest = rest e k x at

  pub fails : (p : X → Bool) (xs : List X) → position p xs ≡ None
      → (k : ℕ) (x : X) → slice_get xs k ≡ Some x → p x ≡ false
  fails p xs e = fails_from p 0 xs (sym (position_from-zero p xs) ∙ e)

  -- the one that passes is found
  found_from : (p : X → Bool) (i : ℕ) (xs : List X) (n : ℕ) (x : X) → slice_get xs n ≡ Some x → p x
      ≡ true
      → ((k : ℕ) (y : X) → slice_get xs k ≡ Some y → p y ≡ true → k ≡ n) → position_from p i xs
      ≡ Some (i + n)
  found_from p i [] n x at passes only = absurd (none-some x at)
  found_from p i (y ∷ ys) zero x at passes only =
      let here : p y ≡ true = ap p (same_Some y x at) ∙ passes in
      let end : i ≡ i + 0 = omega arith in
      ap (λ b. cond b (Some i) (position_from p (i + 1) ys)) here ∙ ap Some end
  found_from p i (y ∷ ys) (suc n) x at passes only =
      go (p y) refl (found_from p (i + 1) ys n x at passes
      (λ k z there passed. one_less k (only (suc k) z there passed)))
    where
      one_less : (k : ℕ) → suc k ≡ suc n → k ≡ n
      one_less k e = omega (arith, e)

      go : (b : Bool) → p y ≡ b → position_from p (i + 1) ys ≡ Some (i + 1 + n)
          → cond b (Some i) (position_from p (i + 1) ys) ≡ Some (i + suc n)
      go true is rest = let same : 0 ≡ suc n = only 0 y refl is in absurd (omega (arith, same))
      go false is rest = let end : i + 1 + n ≡ i + suc n = omega arith in rest ∙ ap Some end

  pub found_only : (p : X → Bool) (xs : List X) (n : ℕ) (x : X) → slice_get xs n ≡ Some x → p x
      ≡ true
      → ((k : ℕ) (y : X) → slice_get xs k ≡ Some y → p y ≡ true → k ≡ n) → position p xs ≡ Some n
  found_only p xs n x at passes only =
      let end : 0 + n ≡ n = omega arith in
      position_from-zero p xs ∙ found_from p 0 xs n x at passes only ∙ ap Some end

  -- two tests that agree on each find the same
  same_from : (p q : X → Bool) (i : ℕ) (xs : List X)
      → ((k : ℕ) (x : X) → slice_get xs k ≡ Some x → p x ≡ q x)
      → position_from p i xs ≡ position_from q i xs
  same_from p q i [] same = refl
  same_from p q i (x ∷ xs) same =
      ap₂ (λ b r. cond b (Some i) r) (same 0 x refl)
      (same_from p q (i + 1) xs (λ k y at. same (suc k) y at))

  pub same_place : (p q : X → Bool) (xs : List X)
      → ((k : ℕ) (x : X) → slice_get xs k ≡ Some x → p x ≡ q x)
      → position p xs ≡ position q xs
  same_place p q xs same =
      position_from-zero p xs ∙ same_from p q 0 xs same ∙ sym (position_from-zero q xs)

  -- what stands at a place, once another one was set
  pub set_same : (xs : List X) (i : ℕ) (x y : X) → slice_get xs i ≡ Some x
      → slice_get (slice_set xs i y) i ≡ Some y
  set_same [] i x y at = absurd (none-some x at)
  set_same (z ∷ xs) zero x y at = refl
  set_same (z ∷ xs) (suc i) x y at = set_same xs i x y at

  pub set_other : (xs : List X) (i k : ℕ) (y : X) → (k ≡ i → ⊥)
      → slice_get (slice_set xs i y) k ≡ slice_get xs k
  set_other [] i k y apart = refl
  set_other (z ∷ xs) zero zero y apart = absurd (apart refl)
  set_other (z ∷ xs) zero (suc k) y apart = refl
  set_other (z ∷ xs) (suc i) zero y apart = refl
  set_other (z ∷ xs) (suc i) (suc k) y apart = set_other xs i k y (λ e. apart (ap suc e))

  -- what stands there is the new one, or stood there before at another place
  pub set_cases : (xs : List X) (i k : ℕ) (y r : X) → slice_get (slice_set xs i y) k ≡ Some r
      → ((k ≡ i) × (r ≡ y)) ⊎ ((k ≡ i → ⊥) × (slice_get xs k ≡ Some r))
  set_cases [] i k y r at = absurd (none-some r at)
  set_cases (z ∷ xs) zero zero y r at = inl (refl, sym (same_Some y r at))
  set_cases (z ∷ xs) zero (suc k) y r at = inr (λ e. omega (arith, e), at)
  set_cases (z ∷ xs) (suc i) zero y r at = inr (λ e. omega (arith, e), at)
  set_cases (z ∷ xs) (suc i) (suc k) y r at = go (set_cases xs i k y r at)
    where
      go : ((k ≡ i) × (r ≡ y)) ⊎ ((k ≡ i → ⊥) × (slice_get xs k ≡ Some r))
          → ((suc k ≡ suc i) × (r ≡ y)) ⊎ ((suc k ≡ suc i → ⊥) × (slice_get xs k ≡ Some r))
      go (inl e) = inl (ap suc e.0, e.1)
      go (inr e) = inr (λ s. e.0 (omega (arith, s)), e.1)

  -- a list with one more behind it
  pub push_before : (xs : List X) (y : X) (k : ℕ) (r : X) → slice_get xs k ≡ Some r
      → slice_get (xs ++ y ∷ []) k ≡ Some r
  push_before [] y k r at = absurd (none-some r at)
  push_before (x ∷ xs) y zero r at = at
  push_before (x ∷ xs) y (suc k) r at = push_before xs y k r at

  pub push_last : (xs : List X) (y : X) → slice_get (xs ++ y ∷ []) (length xs) ≡ Some y
  push_last [] y = refl
  push_last (x ∷ xs) y = push_last xs y

  pub push_cases : (xs : List X) (y : X) (k : ℕ) (r : X) → slice_get (xs ++ y ∷ []) k ≡ Some r
      → ((k ≡ length xs) × (r ≡ y)) ⊎ (slice_get xs k ≡ Some r)
  push_cases [] y zero r at = inl (refl, sym (same_Some y r at))
  push_cases [] y (suc k) r at = absurd (none-some r at)
  push_cases (x ∷ xs) y zero r at = inr at
  push_cases (x ∷ xs) y (suc k) r at = go (push_cases xs y k r at)
    where
      go : ((k ≡ length xs) × (r ≡ y)) ⊎ (slice_get xs k ≡ Some r)
          → ((suc k ≡ suc (length xs)) × (r ≡ y)) ⊎ (slice_get xs k ≡ Some r)
      go (inl e) = inl (ap suc e.0, e.1)
      go (inr e) = inr e

-- what a map makes of a list, and of a list with one set
module _ {X Y : Type 0} (f : X → Y) where
  image_from : (p : Y → Bool) (i : ℕ) (xs : List X)
      → position_from (λ x. p (f x)) i xs ≡ position_from p i (map f xs)
  image_from p i [] = refl
  image_from p i (x ∷ xs) = ap (cond (p (f x)) (Some i)) (image_from p (i + 1) xs)

  pub place_in_image : (p : Y → Bool) (xs : List X) → position (λ x. p (f x)) xs
      ≡ position p (map f xs)
  place_in_image p xs =
      position_from-zero (λ x. p (f x)) xs ∙ image_from p 0 xs
      ∙ sym (position_from-zero p (map f xs))

  pub same_image : (xs : List X) (i : ℕ) (x y : X) → slice_get xs i ≡ Some x → f y ≡ f x
      → map f (slice_set xs i y) ≡ map f xs
  same_image [] i x y at same = refl
  same_image (z ∷ xs) zero x y at same = ap (λ w. w ∷ map f xs)
      (same ∙ sym (ap f (same_Some z x at)))
  same_image (z ∷ xs) (suc i) x y at same = ap (λ ws. f z ∷ ws) (same_image xs i x y at same)

-- the values, once one was written
pub values_set : {K X : Type 0} (es : List (K × X)) (i : ℕ) (w : X)
    → values_of (set_value_at es i w) ≡ slice_set (values_of es) i w
values_set [] i w = refl
values_set (e ∷ es) zero w = refl
values_set (e ∷ es) (suc i) w = ap (λ xs. e.1 ∷ xs) (values_set es i w)

pub keys_set : {K X Y : Type 0} (f : K → Y) (es : List (K × X)) (i : ℕ) (w : X)
    → map f (map (λ e. e.0) (set_value_at es i w)) ≡ map f (map (λ e. e.0) es)
keys_set f [] i w = refl
keys_set f (e ∷ es) zero w = refl
keys_set f (e ∷ es) (suc i) w = ap (λ xs. f e.0 ∷ xs) (keys_set f es i w)

-- what is found lies within
pub position_below : {X : Type 0} (p : X → Bool) (xs : List X) (i : ℕ) → position p xs ≡ Some i
    → i < length xs
position_below p xs i e =
    go (nat_lt (position_or_len p xs) (length xs)) (ltb-true (position_or_len p xs) (length xs)) e
  where
    go : (b : Bool) → (b ≡ true → position_or_len p xs < length xs)
        → cond b (Some (position_or_len p xs)) None ≡ Some i → i < length xs
    go true lt e = let same = same_Some (position_or_len p xs) i e in let below = lt refl in
        omega (arith, same, below)
    go false lt e = absurd (none-some i e)
