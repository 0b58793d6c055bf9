-- Lists of what stands under a name.
use Rattle.std.specs.Prelude.{ℕ, Bool, List, [], ◌∷◌, Option, Some, None, bytes_eq, if◌then◌else◌}
use Rattle.chk_site_mem_store.specs.declared.named.Named.{Named}

-- the entry has this name
abbrev pub is_named : {T : Type 0} → List ℕ → Named T → Bool
is_named name entry = bytes_eq name entry.name

-- what stands under each name, as a function sees it: the first of that name
abbrev pub under : {T V : Type 0} → (T → V) → List (Named T) → List ℕ → Option V
under seen [] name = None
under seen (entry ∷ entries) name = if is_named name entry then Some (seen entry.value) else under seen entries name
