-- The names in a folder, as they were listed.
use Rattle.std.specs.Prelude.{◌≡◌, ℕ, ◌<◌, ◌≤◌, ◌==◌, ◌&&◌, Bool, true, false, List, [], ◌∷◌, length, slice_index_or, Option, Some, filter}
use Rattle.std.specs.List.{AllWithin}
use Rattle.chk_bytes.specs.Words.{text_lt}
use Rattle.chk_site_listings.specs.declared.stamps.Stamp.{Stamp}

-- both are there, and are this same one
abbrev pub IsOfBoth : Option Stamp → Option Stamp → Type 0
IsOfBoth kept now = (stamp : Stamp) × (kept ≡ Some stamp) × (now ≡ Some stamp)

-- none stands before an earlier one in byte order
abbrev pub IsInOrder : List (List ℕ) → Type 0
IsInOrder names =
    (i j : ℕ) (d : List ℕ) → i ≤ j → j < length names
    → text_lt (slice_index_or names j d) (slice_index_or names i d) ≡ false

-- the text begins so
abbrev pub begins : List ℕ → List ℕ → Bool
begins [] text = true
begins (b ∷ front) [] = false
begins (b ∷ front) (c ∷ text) = (b == c) && begins front text

-- those that begin so
abbrev pub with_front : List ℕ → List (List ℕ) → List (List ℕ)
with_front front names = filter (begins front) names

-- those up to this place come before the text, and no other does
pub record IsEndOfLower (names : List (List ℕ)) (text : List ℕ) (place : ℕ) : Type 0 where
  pub lower : AllWithin (λ name. text_lt name text ≡ true) names 0 place
  pub others : AllWithin (λ name. text_lt name text ≡ false) names place (length names)

-- those up to this place begin so, and no other does
pub record IsEndOfFront (names : List (List ℕ)) (front : List ℕ) (place : ℕ) : Type 0 where
  pub fronts : AllWithin (λ name. begins front name ≡ true) names 0 place
  pub others : AllWithin (λ name. begins front name ≡ false) names place (length names)

-- they are in order, and none comes before the text
pub record IsFrom (text : List ℕ) (names : List (List ℕ)) : Type 0 where
  pub in_order : IsInOrder names
  pub not_lower : AllWithin (λ name. text_lt name text ≡ false) names 0 (length names)
