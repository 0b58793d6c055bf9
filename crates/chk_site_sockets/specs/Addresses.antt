-- The addresses that are kept, the one found last at the end.
use Rattle.std.specs.Prelude.{◌≡◌, ◌⊎◌, ℕ, Bool, nat_lt, if◌then◌else◌, Some, List, [], ◌∷◌, ◌++◌, drop, length, slice_get, remove, position, bytes_eq, string_bytes}
use Rattle.std.specs.declared.net.SocketAddr.{SocketAddr}
use Rattle.chk_site_sockets.specs.declared.addresses.Route.{Route}

-- the address was found for this text
abbrev pub is_of : List ℕ → Route → Bool
is_of text route = bytes_eq (string_bytes route.text) text

-- the first address for the text is this one, and all others are left
pub record IsTaken (old new : List Route) (text : List ℕ) (address : SocketAddr) : Type 0 where
  pub place : ℕ
  pub route : Route
  pub first : position (is_of text) old ≡ Some place
  pub there : slice_get old place ≡ Some route
  pub found : route.address ≡ address
  pub left : new ≡ remove old place

-- those that stay when one comes: of 64 or more the first one goes
abbrev pub with_place : List Route → List Route
with_place kept = if nat_lt (length kept) 64 then kept else drop 1 kept

-- it stands last behind those that stay; where memory was wanting these are left alone
abbrev pub IsKept : List Route → List Route → Route → Type 0
IsKept old new route = (new ≡ with_place old ++ route ∷ []) ⊎ (new ≡ with_place old)
