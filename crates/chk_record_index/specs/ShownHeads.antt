-- The heads of some files' records, as own reads show them.
use Rattle.std.specs.Prelude.{◌≡◌, ℕ, ◌+◌, List, [], ◌∷◌, ◌++◌, Contains, Result, Ok, Err}
use Rattle.chk_site.specs.History.{History}
use Rattle.chk_world.specs.Books.{AllChunks}
use Rattle.chk_record_index.specs.Heads.{Head, heads_in}
use Rattle.chk_record_index.specs.Feeding.{IsBadAt}
use Rattle.chk_record_index.specs.Shown.{Shown, Within}
use Rattle.chk_record_index.specs.declared.fault.JobFault.{JobFault}
use Rattle.chk_record_index.specs.declared.fault.JobFault.TheVariants.{Damaged}

-- the file of this number is one of chunks, and these are the heads of its records
abbrev pub HasJust : ℕ → ℕ → List Head → List ℕ → Type 0
HasJust most number heads bytes = AllChunks most bytes × (heads ≡ heads_in most number bytes)

-- a stretch of own reads shows it of this file
abbrev pub ShowsHeads : ℕ → ℕ → List ℕ → List Head → History → History → Type 0
ShowsHeads most number name heads added history = Within (Shown name (HasJust most number heads)) added history

-- own reads show it of each of these files; the heads stand file after file, and the first file has this number
abbrev pub ShowAll : ℕ → ℕ → List (List ℕ) → List Head → History → History → Type 0
ShowAll most number [] heads added history = heads ≡ []
ShowAll most number (name ∷ names) heads added history =
    (own : List Head) × (rest : List Head) × (heads ≡ own ++ rest) × ShowsHeads most number name own added history
    × ShowAll most (number + 1) names rest added history

-- a stretch of own reads of the file shows that from this place on it isn't one of chunks
abbrev pub ShowsBad : ℕ → List ℕ → ℕ → History → History → Type 0
ShowsBad most name at added history = Within (Shown name (λ bytes. IsBadAt most bytes at)) added history

-- At Ok own reads show the heads of these files' records; damage is of one of them, and own reads of it show it.
abbrev pub ShowsAllGathered : ℕ → List (List ℕ) → Result (List Head) JobFault → History → History → Type 0
ShowsAllGathered most names (Ok heads) added history = ShowAll most 0 names heads added history
ShowsAllGathered most names (Err (Damaged name at)) added history = Contains names name × ShowsBad most name at added history
ShowsAllGathered most names (Err fault) added history = Unit {0}
