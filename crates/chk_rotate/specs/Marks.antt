-- The places behind the generations that a reader has passed, the oldest first.
use Rattle.std.specs.Prelude.{ℕ, ◌≤◌, nat_le, List, [], ◌∷◌, filter, if◌then◌else◌, None}
use Rattle.chk_tail.specs.Walks.{Spot}

-- The newest of them that begins at or below an offset, where the first one does. Each begins at or
-- below the next.
abbrev pub mark_at : List Spot → Spot → ℕ → Spot
mark_at [] found o = found
mark_at (m ∷ marks) found o = if nat_le m.first o then mark_at marks m o else found

-- the place with this offset in the newest known generation that begins at or below it
abbrev pub place_of : List Spot → ℕ → Spot
place_of [] o = record { after = None; first = 0; offset = o }
place_of (m ∷ marks) o = record (mark_at marks m o) { offset = o }

-- those that are still needed once this offset is committed
abbrev pub forgotten : ℕ → List Spot → List Spot
forgotten o [] = []
forgotten o (m ∷ []) = m ∷ []
forgotten o (m ∷ n ∷ marks) = if nat_le n.first o then forgotten o (n ∷ marks) else m ∷ n ∷ marks

-- those that begin at or below an offset
abbrev pub kept_to : ℕ → List Spot → List Spot
kept_to o marks = filter (λ (m : Spot). nat_le m.first o) marks

-- the oldest one begins at or below the offset
abbrev pub BeginsBelow : ℕ → List Spot → Type 0
BeginsBelow o [] = ⊥
BeginsBelow o (m ∷ marks) = m.first ≤ o

-- there is one, each begins at or below the next, and the last one at or below the offset
abbrev pub RiseTo : List Spot → ℕ → Type 0
RiseTo [] o = ⊥
RiseTo (m ∷ []) o = m.first ≤ o
RiseTo (m ∷ n ∷ marks) o = (m.first ≤ n.first) × RiseTo (n ∷ marks) o

-- the last one
abbrev pub last_of : Spot → List Spot → Spot
last_of m [] = m
last_of m (n ∷ marks) = last_of n marks

-- the place with this offset in the newest known generation
abbrev pub newest_at : List Spot → ℕ → Spot
newest_at [] o = record { after = None; first = 0; offset = o }
newest_at (m ∷ marks) o = record (last_of m marks) { offset = o }
