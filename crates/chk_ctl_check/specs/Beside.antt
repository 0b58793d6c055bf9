-- The files that stand beside a log, by what stands in their names behind its own.
use Rattle.std.specs.Prelude.{ℕ, ◌==◌, ◌&&◌, ◌||◌, Bool, true, false, nat_eq, nat_lt, List, []}
use Rattle.std.specs.Prelude.{◌∷◌}
use Rattle.std.specs.Prelude.{codes, length, if◌then◌else◌, Option, Some, None}
use Rattle.std.specs.Char.{is_ascii_digit}
use Rattle.std.specs.List.{ends_with, list_all, list_any}
use Rattle.chk_bytes.specs.Words.{behind_front}
use Rattle.chk_site.specs.Suffixes.{is_suffix}
use Rattle.chk_ctl_check.specs.declared.beside.Beside.{Beside}
use Rattle.chk_ctl_check.specs.declared.beside.Beside.TheVariants.{Dated, Numbered, Compressed}
use Rattle.chk_ctl_check.specs.declared.beside.Beside.TheVariants.{Other}

-- a dot and digits
abbrev pub is_numbered : List ℕ → Bool
is_numbered [] = false
is_numbered (b ∷ digits) = b == 46 && (nat_lt 0 (length digits) && list_all is_ascii_digit digits)

-- a dot or a hyphen, and `gz` at the end
abbrev pub is_compressed : List ℕ → Bool
is_compressed [] = false
is_compressed (b ∷ name) = (b == 46 || b == 45) && ends_with nat_eq name (codes "gz")

-- what a file is that has this behind the log's name
abbrev pub beside_behind : List ℕ → Beside
beside_behind rest =
    if is_suffix rest then Dated
    else if is_numbered rest then Numbered
    else if is_compressed rest then Compressed else Other

abbrev pub beside_by : Option (List ℕ) → Beside
beside_by None = Other
beside_by (Some rest) = beside_behind rest

-- what a file of this name is beside a log of that one
abbrev pub beside_of : List ℕ → List ℕ → Beside
beside_of base name = beside_by (behind_front base name)

abbrev pub same_beside : Beside → Beside → Bool
same_beside Dated Dated = true
same_beside Numbered Numbered = true
same_beside Compressed Compressed = true
same_beside Other Other = true
same_beside _ _ = false

abbrev pub is_beside : List ℕ → Beside → List ℕ → Bool
is_beside base beside name = same_beside (beside_of base name) beside

-- such a file stands beside it
abbrev pub has_beside : List ℕ → Beside → List (List ℕ) → Bool
has_beside base beside names = list_any (is_beside base beside) names
