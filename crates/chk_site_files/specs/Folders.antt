-- The folders that files stand in.
use Rattle.std.specs.Prelude.{◌≡◌, ◌≢◌, ◌⊎◌, ◌<◌, ◌==◌, ◌+◌, ℕ, List, if◌then◌else◌, codes, drop, get_or, length, take}

-- `b'/'`
abbrev pub slash : ℕ
slash = 47

-- the last slash of the name stands at this place
pub record IsLastSlash (name : List ℕ) (at : ℕ) : Type 0 where
  pub within : at < length name
  pub there : get_or name at 0 ≡ slash
  pub last : (i : ℕ) → at < i → i < length name → get_or name i 0 ≢ slash

-- the name has no slash
abbrev pub HasNoSlash : List ℕ → Type 0
HasNoSlash name = (i : ℕ) → i < length name → get_or name i 0 ≢ slash

-- the folder, of what stands before its slash: nothing stands before that of the root
abbrev pub folder_before : List ℕ → List ℕ
folder_before front = if length front == 0 then codes "/" else front

-- a file of this name stands in this folder: in the current one where the name has no slash
abbrev pub IsFolderOf : List ℕ → List ℕ → Type 0
IsFolderOf name folder =
    (HasNoSlash name × (folder ≡ codes "."))
    ⊎ ((at : ℕ) × IsLastSlash name at × (folder ≡ folder_before (take at name)))

-- a file of this name has this one in its folder: what stands behind the last slash, all of the name
-- where it has none
abbrev pub IsBaseOf : List ℕ → List ℕ → Type 0
IsBaseOf name base =
    (HasNoSlash name × (base ≡ name))
    ⊎ ((at : ℕ) × IsLastSlash name at × (base ≡ drop (at + 1) name))
