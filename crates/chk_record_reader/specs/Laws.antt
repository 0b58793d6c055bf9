-- What holds of heads and of the records that they are of.
use Rattle.std.specs.Prelude.{◌≡◌, ℕ, List, map}
use Rattle.chk_world.specs.Books.{chunks_within}
use Rattle.chk_record_index.specs.Heads.{heads_in}
use Rattle.chk_record_reader.specs.ReadBack.{chunk_at}

-- the heads of a file stand for its chunks
abbrev pub HeadsStandForChunks : Type 0
HeadsStandForChunks = (most file : ℕ) (bytes : List ℕ) → map (chunk_at bytes)
    (heads_in most file bytes) ≡ chunks_within most bytes
