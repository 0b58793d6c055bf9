-- Numbers as marks: what stands at a place says whether the number of that place is one of them.
use Rattle.std.specs.Prelude.{ℕ, suc, Bool, true, not, List, [], ◌∷◌, slice_set, if◌then◌else◌}
use Rattle.chk_acks.specs.Resets.{is_gone}

-- one number more
abbrev pub with_mark : List Bool → ℕ → List Bool
with_mark marks number = slice_set marks number true

-- the number isn't marked
abbrev pub is_left : List Bool → ℕ → Bool
is_left marks number = not (is_gone marks number)

-- the marked numbers, where the first mark is of this one
abbrev pub marked_from : ℕ → List Bool → List ℕ
marked_from number [] = []
marked_from number (mark ∷ marks) =
    if mark then number ∷ marked_from (suc number) marks else marked_from (suc number) marks
