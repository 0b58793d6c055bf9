-- What is wrong with a text that is no filter.
use Rattle.std.specs.Prelude.{◌≡◌, ℕ, List, Option, None, Some, Err}
use Rattle.std.specs.Borrow.{Bor}
use Rattle.chk_bytes.specs.Words.{behind_front}
use Rattle.chk_tee.specs.Filters.{asked_too, added, filter_in}
use Rattle.chk_tee.specs.declared.filters.Filter.{Filter}
use Rattle.chk_tee.specs.declared.filters.FilterFault.{FilterFault}
use Rattle.chk_tee.specs.declared.filters.FilterFault.TheVariants.{BadPart, NoMemory}

-- the place is that of the text's first part that isn't one
abbrev pub IsFilterFault : List ℕ → FilterFault → Type 0
IsFilterFault text (BadPart at) = filter_in text ≡ Err at
IsFilterFault text NoMemory = Unit {0}

-- the text at this place adds no part
abbrev pub IsAddFault : Filter → List ℕ → ℕ → FilterFault → Type 0
IsAddFault f text at (BadPart place) = (added f text ≡ None) × (place ≡ at)
IsAddFault f text at NoMemory = Unit {0}

-- the name can't be asked for this
abbrev pub IsWordFault : Option (List ℕ) → List ℕ → ℕ → FilterFault → Type 0
IsWordFault field text at (BadPart place) = (asked_too field text ≡ None) × (place ≡ at)
IsWordFault field text at NoMemory = Unit {0}

-- what stands behind the front, where the text has it
abbrev pub IsBehind : List ℕ → List ℕ → Option (Bor (List ℕ)) → Type 0
IsBehind front text None = behind_front front text ≡ None
IsBehind front text (Some rest) = behind_front front text ≡ Some rest.now
