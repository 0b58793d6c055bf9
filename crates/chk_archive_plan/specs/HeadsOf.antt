-- Heads of chunks.
use Rattle.std.specs.Prelude.{◌≡◌, List}
use Rattle.std.specs.List.{AllZip}
use Rattle.chk_chunk.specs.Keys.{Chunk, chunk_begin}
use Rattle.chk_record_index.specs.Heads.{Head}

-- the head says what the chunk has
pub record IsHeadOf (h : Head) (c : Chunk) : Type 0 where
  pub key : h.key ≡ c.key
  pub begin : h.begin ≡ chunk_begin c

-- heads of chunks, one for each
abbrev pub AreHeads : List Head → List Chunk → Type 0
AreHeads hs cs = AllZip IsHeadOf hs cs
