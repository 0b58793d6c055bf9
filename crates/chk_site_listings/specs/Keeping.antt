-- The listings that are kept, the one asked for last at the end.
use Rattle.std.specs.Prelude.{◌≡◌, ◌⊎◌, ℕ, ◌+◌, ◌≤◌, Bool, ◌&&◌, nat_lt, nat_le, if◌then◌else◌, Some, List, [], ◌∷◌, ◌++◌, length, vec_len, slice_get, remove, position, sum_by, bytes_eq, is_some, string_bytes}
use Rattle.chk_site_listings.specs.declared.names.Listing.{Listing}

abbrev pub name_count : Listing → ℕ
name_count l = vec_len l.names

-- the listing is of this folder
abbrev pub is_of : List ℕ → Listing → Bool
is_of folder l = bytes_eq (string_bytes l.folder) folder

-- the most names that are kept in all
abbrev pub most_names : ℕ
most_names = 65536

-- the most folders whose listings are kept
abbrev pub most_folders : ℕ
most_folders = 64

-- no more folders than that, and no more names in all
pub record IsBounded (kept : List Listing) : Type 0 where
  pub folders : length kept ≤ most_folders
  pub names : sum_by name_count kept ≤ most_names

-- a listing of so many names can be kept beside these
abbrev pub has_room : ℕ → List Listing → Bool
has_room names kept = nat_lt (length kept) most_folders && nat_le (sum_by name_count kept + names) most_names

-- those that stay when one of so many names comes: the first go, and no more than have to
abbrev pub with_room : ℕ → List Listing → List Listing
with_room names [] = []
with_room names (l ∷ kept) =
    if has_room names (l ∷ kept) then l ∷ kept else with_room names kept

-- the first listing of the folder is this one, and all others are left
pub record IsTaken (old new : List Listing) (folder : List ℕ) (listing : Listing) : Type 0 where
  pub place : ℕ
  pub first : position (is_of folder) old ≡ Some place
  pub there : slice_get old place ≡ Some listing
  pub left : new ≡ remove old place

-- the listing has a stamp, and not too many names
abbrev pub may_keep : Listing → Bool
may_keep l = is_some l.stamp && nat_le (name_count l) most_names

-- it stands last behind those that stay; where memory was wanting these are left alone
abbrev pub IsKept : List Listing → List Listing → Listing → Type 0
IsKept old new l =
    (new ≡ with_room (name_count l) old ++ l ∷ []) ⊎ (new ≡ with_room (name_count l) old)
