-- What reading a field found.
use Rattle.std.specs.Prelude.{◌≡◌, ℕ, ◌+◌, ◌≤◌, ◌<◌, ◌^◌, List, length, None, IsTrue}
use Rattle.chk_bytes.specs.Numbers.{spelled_at}
use Rattle.chk_bytes.specs.Stems.{Stem}
use Rattle.chk_chunk.specs.Keys.{Key, is_key, guessed_key, text_at, behind_text}
use Rattle.chk_chunk.specs.Posts.{part_at, behind_part, up_to_part}
use Rattle.chk_tee.specs.Messages.{Teed, is_teed, stem_in, guessed_teed, behind_teed}
use Rattle.chk_tee.specs.Faults.{stem_wrong, offset_wrong, key_wrong, value_wrong, teed_wrong}
pub use Rattle.chk_chunk.specs.Fields.{IsNumberAt}

-- the stem whose length stands at a place, and the place behind it
pub record IsStemAt (at : ℕ) (bytes : List ℕ) (stem : Stem) (end : ℕ) : Type 0 where
  pub fine : stem_wrong at bytes ≡ None
  pub is : stem ≡ stem_in (text_at at bytes)
  pub behind : end ≡ behind_text at bytes
  pub within : end ≤ length bytes

-- the offset that stands at a place
pub record IsOffsetAt (at : ℕ) (bytes : List ℕ) (offset : ℕ) : Type 0 where
  pub fine : offset_wrong at bytes ≡ None
  pub is : offset ≡ spelled_at at 8 bytes
  pub within : at + 8 ≤ length bytes

-- the key whose length stands at a place, and the place behind it
pub record IsKeyAt (at : ℕ) (bytes : List ℕ) (key : Key) (end : ℕ) : Type 0 where
  pub fine : key_wrong at bytes ≡ None
  pub is : key ≡ guessed_key (at + 4) (up_to_part at bytes)
  pub behind : end ≡ behind_part at bytes
  pub within : end ≤ length bytes
  pub valid : IsTrue (is_key key)
  pub low : key.start < 2 ^ 62

-- the data whose length stands at a place, of a chunk with this key, and the place behind it
pub record IsValueAt (key : Key) (at : ℕ) (bytes value : List ℕ) (end : ℕ) : Type 0 where
  pub fine : value_wrong key at bytes ≡ None
  pub is : value ≡ part_at at bytes
  pub behind : end ≡ behind_part at bytes
  pub within : end ≤ length bytes

-- the chunk that stands at a place, with its stem and its offset, and the place behind it
pub record IsTeedAt (at : ℕ) (bytes : List ℕ) (t : Teed) (end : ℕ) : Type 0 where
  pub fine : teed_wrong at bytes ≡ None
  pub is : t ≡ guessed_teed at bytes
  pub valid : IsTrue (is_teed t)
  pub behind : end ≡ behind_teed at bytes
  pub within : end ≤ length bytes
