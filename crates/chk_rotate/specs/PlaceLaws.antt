-- What holds of the places of offsets that a reader still knows.
use Rattle.std.specs.Prelude.{◌≡◌, ℕ, ◌<◌, ◌≤◌, List, [], ◌∷◌, ◌++◌}
use Rattle.chk_tail.specs.Walks.{Spot}
use Rattle.chk_rotate.specs.Marks.{place_of, forgotten, kept_to, BeginsBelow, RiseTo}

-- each begins above the offset
abbrev pub AllAbove : ℕ → List Spot → Type 0
AllAbove o [] = Unit {0}
AllAbove o (m ∷ marks) = (o < m.first) × AllAbove o marks

-- The place has this offset and lies in a known generation that begins at or below it, and each
-- later known one begins above it.
pub record IsInNewest (marks : List Spot) (o : ℕ) (p : Spot) : Type 0 where
  pub earlier : List Spot
  pub mark : Spot
  pub later : List Spot
  pub known : marks ≡ earlier ++ mark ∷ later
  pub begins : mark.first ≤ o
  pub none_later : AllAbove o later
  pub is : p ≡ record mark { offset = o }

-- the place of an offset is such a place
abbrev pub PlaceIsInNewest : Type 0
PlaceIsInNewest =
    (marks : List Spot) (end o : ℕ) → RiseTo marks end → BeginsBelow o marks
    → IsInNewest marks o (place_of marks o)

-- Once an offset is committed and what lies below is forgotten, the offsets from it on are known as
-- before.
pub record KnownFrom (o q : ℕ) (marks : List Spot) : Type 0 where
  pub begins : BeginsBelow q (forgotten o marks)
  pub place : place_of (forgotten o marks) q ≡ place_of marks q

abbrev pub ForgettingKeepsLater : Type 0
ForgettingKeepsLater =
    (marks : List Spot) (o q : ℕ) → BeginsBelow o marks → o ≤ q → KnownFrom o q marks

-- Once a reader has gone back to an offset, the offsets up to it are known as before.
pub record KnownTo (o q : ℕ) (marks : List Spot) : Type 0 where
  pub begins : BeginsBelow q (kept_to o marks)
  pub place : place_of (kept_to o marks) q ≡ place_of marks q

abbrev pub GoingBackKeepsEarlier : Type 0
GoingBackKeepsEarlier =
    (marks : List Spot) (end o q : ℕ) → RiseTo marks end → BeginsBelow q marks → q ≤ o
    → KnownTo o q marks
