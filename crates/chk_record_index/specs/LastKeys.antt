-- A key that is the last one but for its sequence id.
use Rattle.std.specs.Prelude.{◌≡◌, ℕ, List, [], ◌∷◌, ◌++◌, take, drop, if◌then◌else◌}
use Rattle.chk_bytes.specs.Numbers.{be64}
use Rattle.chk_chunk.specs.Keys.{Key, fits_1, counted, counted_stream}

-- the first byte of a key as it is written
abbrev pub key_version : Key → ℕ
key_version k = if fits_1 k then 1 else 2

-- what stands behind its sequence id
abbrev pub key_tail : Key → List ℕ
key_tail k =
    if fits_1 k then counted_stream k.stream
    else be64 k.start ++ (counted_stream k.stream ++ counted k.cluster)

-- the bytes are the written key, but for the sequence id
pub record IsButSeq (k : Key) (bytes : List ℕ) : Type 0 where
  pub version : take 1 bytes ≡ key_version k ∷ []
  pub tail : drop 9 bytes ≡ key_tail k
