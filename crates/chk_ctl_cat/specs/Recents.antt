-- What counts of a key for one who follows a stream, and the key that was read last.
use Rattle.std.specs.Prelude.{◌≡◌, ◌⊎◌, ◌≤◌, ℕ, List, [], length, drop, slice_index, Option, Some, None}
use Rattle.chk_chunk.specs.Keys.{Stream, Key, IsKey, same_stream}
use Rattle.chk_ctl_cat.specs.declared.recent.Row.{Row}
use Rattle.chk_ctl_cat.specs.declared.recent.Recent.{Recent}

-- what counts of a key for one who follows this stream
abbrev pub row_of : Stream → Key → Row
row_of s k = record { of = same_stream s k.stream; start = k.start; seq = k.seq }

-- the bytes are a key, and this counts of it
abbrev pub IsRow : Stream → List ℕ → Row → Type 0
IsRow s bytes row = (k : Key) × IsKey k bytes × (row ≡ row_of s k)

-- so much of a key is kept
pub record IsKept (s : Stream) (r : Recent) : Type 0 where
  pub key : Key
  pub is : IsKey key r.bytes
  pub of : r.of ≡ same_stream s key.stream
  pub start : r.start ≡ key.start

-- no key is kept, or one with what counts of it
abbrev pub IsRecent : Stream → Recent → Type 0
IsRecent s r = (r.bytes ≡ []) ⊎ IsKept s r

-- both are as long as a key's first two fields at least, and the same but for the second one
pub record IsAlike (last bytes : List ℕ) : Type 0 where
  pub kept : 9 ≤ length last
  pub long : 9 ≤ length bytes
  pub version : slice_index bytes 0 ≡ slice_index last 0
  pub tail : drop 9 bytes ≡ drop 9 last

-- what counts of the key that the bytes are; or they are none
abbrev pub ReadRow : Stream → List ℕ → Option Row → Type 0
ReadRow s bytes (Some row) = IsRow s bytes row
ReadRow s bytes None = (k : Key) → IsKey k bytes → ⊥
