-- The numbers of default names.
use Rattle.std.specs.Prelude.{◌≡◌, ℕ, ◌+◌, ◌<◌, Bool, true, false, List, [], ◌∷◌, codes, replicate}
use Rattle.std.specs.Prelude.{slice_set, option_and_then, if◌then◌else◌, Option, Some, None}
use Rattle.chk_bytes.specs.Words.{behind_front}
use Rattle.chk_bytes.specs.Numbers.{plain_number}
use Rattle.chk_agent_adaptor.specs.Adaptors.{Adaptor, is_past}
use Rattle.chk_agent.specs.Adds.{default_name, named_in}

-- the number in a default name
abbrev pub number_in : List ℕ → Option ℕ
number_in name = option_and_then plain_number (behind_front (codes "adaptor_") name)

-- the number of the default name that an adaptor has, where it isn't past
abbrev pub name_number : Adaptor → Option ℕ
name_number a = if is_past a.phase then None else number_in a.name

abbrev pub marked_one : List Bool → Option ℕ → List Bool
marked_one taken None = taken
marked_one taken (Some n) = slice_set taken n true

-- the marks, with those of the numbers that these adaptors take
abbrev pub marked : List Bool → List Adaptor → List Bool
marked taken [] = taken
marked taken (a ∷ adaptors) = marked (marked_one taken (name_number a)) adaptors

-- 0, which no default name has, is marked, and none of the numbers up to one more than there are
-- adaptors
abbrev pub unmarked : ℕ → List Bool
unmarked count = true ∷ replicate (count + 1) false

-- the least number from 1 on whose default name is free
pub record IsLeastFree (adaptors : List Adaptor) (n : ℕ) : Type 0 where
  pub some : 0 < n
  pub free : named_in (default_name n) 0 adaptors ≡ None
  pub least : (k : ℕ) → 0 < k → k < n → named_in (default_name k) 0 adaptors ≡ None → ⊥
