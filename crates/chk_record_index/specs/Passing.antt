-- What stands behind a text that the bytes begin with.
use Rattle.std.specs.Prelude.{◌≡◌, ◌≢◌, ℕ, List, ◌++◌, Option, MatchOption}
use Rattle.std.specs.Borrow.{Bor}

-- what is behind the text where the bytes begin with it, none where they don't
abbrev pub Passes : List ℕ → List ℕ → Option (Bor (List ℕ)) → Type 0
Passes text bytes result = MatchOption result ((rest : List ℕ) → bytes ≢ text ++ rest) (λ rest. bytes ≡ text ++ rest.now)
