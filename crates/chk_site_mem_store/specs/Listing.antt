-- The names in a folder.
use Rattle.std.specs.Prelude.{ℕ, Bool, ◌&&◌, ◌==◌, not, List, [], ◌∷◌, Option, Some, None, if◌then◌else◌}
use Rattle.std.specs.List.{filter_map, list_any}
use Rattle.chk_bytes.specs.Words.{is_word, behind_front}
use Rattle.chk_site_mem_store.specs.declared.named.Named.{Named}

-- the name may be listed: it is a word without a slash
abbrev pub is_listed : List ℕ → Bool
is_listed name = is_word name && not (list_any (λ b. b == 47) name)

-- what stands behind a slash at the front
abbrev pub past_slash : Option (List ℕ) → Option (List ℕ)
past_slash None = None
past_slash (Some []) = None
past_slash (Some (b ∷ name)) = if b == 47 then Some name else None

-- the name, where it may be listed
abbrev pub if_listed : Option (List ℕ) → Option (List ℕ)
if_listed None = None
if_listed (Some name) = if is_listed name then Some name else None

-- the name under which a path is listed in a folder
abbrev pub name_in : List ℕ → List ℕ → Option (List ℕ)
name_in folder path = if_listed (past_slash (behind_front folder path))

-- the names that are listed of these entries, one for each
abbrev pub names_of : {T : Type 0} → List ℕ → List (Named T) → List (List ℕ)
names_of folder entries = filter_map (λ e. name_in folder e.name) entries
