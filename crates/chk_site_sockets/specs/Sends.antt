-- The streams on which answers come, the one opened last at the end.
use Rattle.std.specs.Prelude.{◌≡◌, ◌⊎◌, ℕ, Bool, true, false, nat_eq, nat_lt, if◌then◌else◌, Some, List, [], ◌∷◌, ◌++◌, codes, drop, length, position, remove}
use Rattle.std.specs.List.{starts_with}

-- nobody asks for the answer to this message
abbrev pub is_unanswered : List ℕ → Bool
is_unanswered bytes = starts_with nat_eq bytes (codes "CHKT")

-- of more than 64 the first one goes
abbrev pub with_most : {X : Type 0} → List X → List X
with_most kept = if nat_lt 64 (length kept) then drop 1 kept else kept

-- the stream of this message stands last
pub record IsOpened {X : Type 0} (old new : List X) (number : X → ℕ) (message : ℕ) : Type 0 where
  pub sent : X
  pub of_message : number sent ≡ message
  pub left : new ≡ with_most (old ++ sent ∷ [])

-- a message that was sent has its stream, but where nobody asks for its answer
abbrev pub IsSent : {X : Type 0} → List X → List X → (X → ℕ) → ℕ → List ℕ → Type 0
IsSent old new number message bytes =
    ((is_unanswered bytes ≡ true) × (new ≡ old))
    ⊎ ((is_unanswered bytes ≡ false) × IsOpened old new number message)

-- the stream of this message is closed
pub record IsClosed {X : Type 0} (old new : List X) (number : X → ℕ) (message : ℕ) : Type 0 where
  pub place : ℕ
  pub first : position (λ sent. nat_eq (number sent) message) old ≡ Some place
  pub left : new ≡ remove old place
