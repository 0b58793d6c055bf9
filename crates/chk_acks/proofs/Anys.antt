-- Some element of a list: of its first element and the others, of a filter, of a map.
use Rattle.std.proofs.Common.{◌≡◌, ◌⊎◌, inl, inr, zero, suc, Bool, true, false, cond, List, [], ◌∷◌, ◌++◌, map, refl, subst, sym, arith}
use Rattle.std.specs.List.{Any, filter}

module _ {X : Type 0} (P : X → Type 0) where
  -- the first
  pub any_here : (x : X) (xs : List X) → P x → Any P (x ∷ xs)
  any_here x xs p = (0, x, omega arith, refl, p)

  -- a later one
  pub any_there : (x : X) (xs : List X) → Any P xs → Any P (x ∷ xs)
  any_there x xs (k, y, within, is, p) = (suc k, y, omega arith, is, p)

  pub any_cases : (x : X) (xs : List X) → Any P (x ∷ xs) → P x ⊎ Any P xs
  any_cases x xs (zero, y, within, is, p) = inl (subst P (sym is) p)
  any_cases x xs (suc k, y, within, is, p) = inr (k, y, omega arith, is, p)

  pub any_none : Any P [] → ⊥
  any_none (k, y, within, is, p) = omega arith

  -- one of the front or one of the back
  pub any_append : (xs ys : List X) → Any P (xs ++ ys) → Any P xs ⊎ Any P ys
  any_append [] ys some = inr some
  any_append (x ∷ xs) ys some =
      elim (any_cases x (xs ++ ys) some) [
        | inl p ↦ inl (any_here x xs p)
        | inr later ↦ elim (any_append xs ys later)
            [ inl front ↦ inl (any_there x xs front) | inr back ↦ inr back ]
      ]

  pub any_front : (xs ys : List X) → Any P xs → Any P (xs ++ ys)
  any_front [] ys some = absurd (any_none some)
  any_front (x ∷ xs) ys some =
      elim (any_cases x xs some) [
        | inl p ↦ any_here x (xs ++ ys) p
        | inr later ↦ any_there x (xs ++ ys) (any_front xs ys later)
      ]

  pub any_back : (xs ys : List X) → Any P ys → Any P (xs ++ ys)
  any_back [] ys some = some
  any_back (x ∷ xs) ys some = any_there x (xs ++ ys) (any_back xs ys some)

  -- one that a filter keeps is one of the list
  pub any_from_filter : (keeps : X → Bool) (xs : List X) → Any P (filter keeps xs) → Any P xs
  any_from_filter keeps [] some = some
  any_from_filter keeps (x ∷ xs) some =
      by (keeps x) some (λ later. any_there x xs (any_from_filter keeps xs later))
    where
      by : (kept : Bool) → Any P (cond kept (x ∷ filter keeps xs) (filter keeps xs))
          → (Any P (filter keeps xs) → Any P (x ∷ xs)) → Any P (x ∷ xs)
      by true all f =
          elim (any_cases x (filter keeps xs) all) [ inl p ↦ any_here x xs p | inr later ↦ f later ]
      by false all f = f all

-- each one that has P has Q
pub any_all : {X : Type 0} (P Q : X → Type 0) → ((x : X) → P x → Q x) → (xs : List X) → Any P xs
    → Any Q xs
any_all P Q f xs (k, y, within, is, p) = (k, y, within, is, f y p)

-- one of a map is the image of one of the list
pub any_from_map : {X Y : Type 0} (P : Y → Type 0) (f : X → Y) (xs : List X) → Any P (map f xs)
    → Any (λ x. P (f x)) xs
any_from_map P f [] some = absurd (any_none P some)
any_from_map P f (x ∷ xs) some =
    elim (any_cases P (f x) (map f xs) some) [
      | inl p ↦ any_here (λ x. P (f x)) x xs p
      | inr later ↦ any_there (λ x. P (f x)) x xs (any_from_map P f xs later)
    ]

pub any_map : {X Y : Type 0} (P : Y → Type 0) (f : X → Y) (xs : List X) → Any (λ x. P (f x)) xs
    → Any P (map f xs)
any_map P f [] some = absurd (any_none (λ x. P (f x)) some)
any_map P f (x ∷ xs) some =
    elim (any_cases (λ x. P (f x)) x xs some) [
      | inl p ↦ any_here P (f x) (map f xs) p
      | inr later ↦ any_there P (f x) (map f xs) (any_map P f xs later)
    ]

-- one of the list is kept by a filter, or it is one that the filter drops
pub any_filter : {X : Type 0} (P : X → Type 0) (keeps : X → Bool) (xs : List X) → Any P xs
    → Any (λ x. (keeps x ≡ false) × P x) xs ⊎ Any P (filter keeps xs)
any_filter P keeps [] some = inr some
any_filter {X} P keeps (x ∷ xs) some =
    elim (any_cases P x xs some) [
      | inl p ↦ first (keeps x) refl p
      | inr later ↦
          elim (any_filter P keeps xs later) [
            | inl dropped ↦ inl (any_there (λ y. (keeps y ≡ false) × P y) x xs dropped)
            | inr kept ↦ inr (behind (keeps x) kept)
          ]
    ]
  where
    first : (kept : Bool) → keeps x ≡ kept → P x
        → Any (λ y. (keeps y ≡ false) × P y) (x ∷ xs)
        ⊎ Any P (cond kept (x ∷ filter keeps xs) (filter keeps xs))
    first true is p = inr (any_here P x (filter keeps xs) p)
    first false is p = inl (any_here (λ y. (keeps y ≡ false) × P y) x xs (is, p))

    behind : (kept : Bool) → Any P (filter keeps xs)
        → Any P (cond kept (x ∷ filter keeps xs) (filter keeps xs))
    behind true kept = any_there P x (filter keeps xs) kept
    behind false kept = kept
