-- Whether a step gave as much as one may, so that its log may have more.
use Rattle.std.specs.Prelude.{◌==◌, Bool, length, drop}
use Rattle.std.specs.List.{list_any}
use Rattle.chk_chunk.specs.Keys.{chunk_limit}
use Rattle.chk_chunk.specs.declared.Chunk.{Chunk}
use Rattle.chk_agent.specs.States.{State}

-- the chunk has as much data as a step may give
abbrev pub is_piece : Chunk → Bool
is_piece c = length c.body == chunk_limit

-- one of the chunks that were put behind those that waited is such
abbrev pub gave_piece : State → State → Bool
gave_piece s t = list_any is_piece (drop (length s.delivery.queue.chunks) t.delivery.queue.chunks)
