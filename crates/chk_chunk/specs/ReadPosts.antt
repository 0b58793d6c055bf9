-- A post that was read.
use Rattle.std.specs.Prelude.{ℕ, List}
use Rattle.chk_chunk.specs.Keys.{Chunk}

-- how many chunks it has, and those that it hasn't given yet
pub record ReadPost : Type 0 where
  pub count : ℕ
  pub left : List Chunk
