-- The files of the machine that are kept open, and what of them isn't synced yet.
use Rattle.std.specs.Prelude.{◌≡◌, ◌≢◌, ◌⊎◌, ℕ, Bool, nat_eq, List, codes, if◌then◌else◌, Option, Some, None, IfSome, string_bytes}
use Rattle.std.specs.List.{ends_with}
use Rattle.chk_site_files.specs.declared.kept.Kept.{Kept}

-- the file is to be renamed, which syncs its folder
abbrev pub is_temporary : List ℕ → Bool
is_temporary name = ends_with nat_eq name (codes ".tmp")

-- the file says how far a sink was taken over
abbrev pub is_mark : List ℕ → Bool
is_mark name = ends_with nat_eq name (codes ".mark")

-- behind a creation the folder of the new file isn't synced where that is to be renamed
abbrev pub unsettled_by : List ℕ → Option (List ℕ)
unsettled_by name = if is_temporary name then Some name else None

-- no file of this name is kept open any more, and none that wasn't
pub record IsClosed (old new : Option Kept) (name : List ℕ) : Type 0 where
  pub other : IfSome new (λ kept. string_bytes kept.name ≢ name)
  pub stays : (new ≡ old) ⊎ (new ≡ None)
