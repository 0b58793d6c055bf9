-- The names of a log's rotated generations among those in a folder.
use Rattle.std.specs.Prelude.{ℕ, Bool, true, if◌then◌else◌, Option, Some, None, List, [], ◌∷◌}
use Rattle.chk_bytes.specs.Words.{behind_front, text_lt}
use Rattle.chk_site.specs.Suffixes.{is_suffix}
pub use Rattle.chk_site.specs.Honest.{text_at}

-- the first of the two that is there
abbrev pub or_else : Option (List ℕ) → Option (List ℕ) → Option (List ℕ)
or_else (Some s) other = Some s
or_else None other = other

-- a text that is a suffix
abbrev pub if_suffix : Option (List ℕ) → Option (List ℕ)
if_suffix None = None
if_suffix (Some rest) = if is_suffix rest then Some rest else None

-- what the name has behind the base name, where that is a suffix
abbrev pub suffix_in : List ℕ → List ℕ → Option (List ℕ)
suffix_in base name = if_suffix (behind_front base name)

-- a suffix that comes behind this one
abbrev pub if_later : List ℕ → Option (List ℕ) → Option (List ℕ)
if_later after None = None
if_later after (Some s) = if text_lt after s then Some s else None

abbrev pub later_in : List ℕ → List ℕ → List ℕ → Option (List ℕ)
later_in base after name = if_later after (suffix_in base name)

-- the first name's whose suffix comes behind this one
abbrev pub first_in : List ℕ → List ℕ → List (List ℕ) → Option (List ℕ)
first_in base after [] = None
first_in base after (name ∷ names) = or_else (later_in base after name) (first_in base after names)

-- the suffix comes before this one, where that is given
abbrev pub is_below : Option (List ℕ) → List ℕ → Bool
is_below None s = true
is_below (Some below) s = text_lt s below

abbrev pub if_shown : Option (List ℕ) → Option (List ℕ) → Option (List ℕ)
if_shown below None = None
if_shown below (Some s) = if is_below below s then Some s else None

abbrev pub shown_in : List ℕ → Option (List ℕ) → List ℕ → Option (List ℕ)
shown_in base below name = if_shown below (suffix_in base name)

-- the last name's whose suffix comes before that
abbrev pub newest_in : List ℕ → Option (List ℕ) → List (List ℕ) → Option (List ℕ)
newest_in base below [] = None
newest_in base below (name ∷ names) = or_else (newest_in base below names) (shown_in base below name)
