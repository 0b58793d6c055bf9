-- The addresses and files of which something was told.
use Rattle.std.specs.Prelude.{◌≡◌, ◌⊎◌, ℕ, Bool, false, nat_le, nat_lt, if◌then◌else◌, Some, None, List, [], ◌∷◌, ◌++◌, length, drop, slice_get, remove, position, bytes_eq, string_bytes}
use Rattle.chk_site_log.specs.declared.trouble.Trouble.{Trouble}

abbrev pub is_of : List ℕ → Trouble → Bool
is_of name t = bytes_eq (string_bytes t.name) name

-- calls at it fail
abbrev pub is_failing : Trouble → Bool
is_failing t = nat_lt 0 t.failures

-- of this name nothing was told, and no call failed
pub record IsNew (t : Trouble) (name : List ℕ) : Type 0 where
  pub of_name : string_bytes t.name ≡ name
  pub failures : t.failures ≡ 0
  pub told : t.told ≡ false
  pub said : t.said ≡ None

-- those that stay where one more comes: at most 255
abbrev pub with_room : List Trouble → List Trouble
with_room kept = if nat_le 256 (length kept) then drop 1 kept else kept

-- what was told of the name is taken out
pub record IsTaken (old new : List Trouble) (name : List ℕ) (t : Trouble) : Type 0 where
  pub place : ℕ
  pub first : position (is_of name) old ≡ Some place
  pub there : slice_get old place ≡ Some t
  pub left : new ≡ remove old place

-- of the name nothing is known: it is new
pub record IsMade (old new : List Trouble) (name : List ℕ) (t : Trouble) : Type 0 where
  pub absent : position (is_of name) old ≡ None
  pub fresh : IsNew t name
  pub left : new ≡ with_room old

-- it stands last; where memory was wanting it is forgotten
abbrev pub IsKept : List Trouble → List Trouble → Trouble → Type 0
IsKept old new t = (new ≡ old ++ t ∷ []) ⊎ (new ≡ old)

-- what is known of the name goes on so, and the answer is this of it
pub record GoesOn (X : Type 0) (act : Trouble → Trouble) (says : Trouble → X) (old new : List Trouble) (name : List ℕ) (answer : X) : Type 0 where
  pub trouble : Trouble
  pub left : List Trouble
  pub taken : IsTaken old left name trouble ⊎ IsMade old left name trouble
  pub kept : IsKept left new (act trouble)
  pub said : answer ≡ says trouble

-- there was no memory for a name of which nothing is known
pub record IsUnknown (old new : List Trouble) (name : List ℕ) : Type 0 where
  pub absent : position (is_of name) old ≡ None
  pub left : new ≡ old
