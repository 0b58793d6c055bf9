-- Why a queue refuses a chunk.
use Rattle.std.specs.Prelude.{◌≡◌, ◌+◌, ◌<◌, length}
use Rattle.chk_chunk.specs.declared.Chunk.{Chunk}
use Rattle.chk_queue.specs.Queues.{Waiting, data_size, HasRoom}
use Rattle.chk_queue.specs.declared.PutFault.{PutFault}
use Rattle.chk_queue.specs.declared.PutFault.TheVariants.{Full, NoMemory}

-- the limit would be passed, or else memory is wanting; the chunk comes back
abbrev pub IsRefusal : Waiting → Chunk → PutFault → Type 0
IsRefusal q chunk (Full used need given) =
    (used ≡ data_size q.chunks) × (need ≡ length chunk.body) × (given ≡ chunk) × (q.limit < used + need)
IsRefusal q chunk (NoMemory given) = (given ≡ chunk) × HasRoom q (length chunk.body)
