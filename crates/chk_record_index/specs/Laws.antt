-- What holds of files of chunks.
use Rattle.std.specs.Prelude.{ℕ, List}
use Rattle.chk_world.specs.Books.{AllChunks}
use Rattle.chk_record_index.specs.Feeding.{IsBadAt}

-- a file of which each record is a chunk is damaged nowhere
abbrev pub ChunksHaveNoDamage : Type 0
ChunksHaveNoDamage = (most : ℕ) (bytes : List ℕ) (at : ℕ) → AllChunks most bytes → IsBadAt most bytes at → ⊥
