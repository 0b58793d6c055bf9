-- Where two lists of bytes differ.
use Rattle.std.specs.Prelude.{ℕ, suc, ◌+◌, ◌==◌, List, [], ◌∷◌, Option, None, Some, option_map, if◌then◌else◌}

-- the first place at which both have a byte and these differ
abbrev pub first_difference : List ℕ → List ℕ → Option ℕ
first_difference [] b = None
first_difference (x ∷ a) [] = None
first_difference (x ∷ a) (y ∷ b) = if x == y then option_map suc (first_difference a b) else Some 0

-- a place that is so much further on
abbrev pub further : ℕ → Option ℕ → Option ℕ
further n place = option_map (λ k. n + k) place
