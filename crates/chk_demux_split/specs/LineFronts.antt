-- What bytes add to a line, and lines to a record.
use Rattle.std.specs.Prelude.{◌≡◌, ℕ, ◌≤◌, ◌<◌, Bool, true, false, ◌==◌, ◌||◌, nat_le, List, [], ◌∷◌, ◌++◌, length, if◌then◌else◌}
use Rattle.std.specs.Char.{is_ascii_digit}
use Rattle.chk_chunk.specs.Keys.{chunk_limit}
use Rattle.chk_world.specs.Splits.{lines_from}

-- the byte ends a line of so many bytes, with it
abbrev pub ends_line : ℕ → ℕ → Bool
ends_line byte size = byte == 10 || nat_le chunk_limit size

-- the byte fits a byte of a pattern
abbrev pub fits_one : ℕ → ℕ → Bool
fits_one wanted byte = if wanted == 100 then is_ascii_digit byte else wanted == byte

-- what is left of a line that isn't complete
abbrev pub open_line : List ℕ → List ℕ → List ℕ
open_line line [] = line
open_line line (b ∷ bytes) =
    elim (ends_line b (length (line ++ b ∷ [])))
    [ true ↦ open_line [] bytes | false ↦ open_line (line ++ b ∷ []) bytes ]

-- these bytes go on with the line, and it ends behind the last of them or not at all
pub record GoesOn (line bytes : List ℕ) (ends : Bool) : Type 0 where
  pub lines : lines_from line bytes ≡ (if ends then (line ++ bytes) ∷ [] else [])
  pub left : open_line line bytes ≡ (if ends then [] else line ++ bytes)
  pub some : ends ≡ true → 0 < length bytes
  pub room : ends ≡ false → length (line ++ bytes) < chunk_limit
  pub most : length (line ++ bytes) ≤ chunk_limit
