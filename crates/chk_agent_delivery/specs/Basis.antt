-- What is said of the adaptors beside the state: the stream of each, and the lines of the checkpoint.
use Rattle.std.specs.Prelude.{◌≡◌, ℕ, ◌≤◌, List, [], ◌∷◌, length, Some, find, slice_get}
use Rattle.chk_chunk.specs.Keys.{Stream}
use Rattle.chk_chunk.specs.declared.Chunk.{Chunk}
use Rattle.chk_world.specs.Checkpoints.{Line, is_line_of}
use Rattle.chk_agent_delivery.specs.States.{State}

-- The agent's source and its cluster, the stream of each adaptor by its number, and the lines of the checkpoint.
pub record Basis : Type 0 where
  pub source : List ℕ
  pub cluster : List ℕ
  pub streams : List Stream
  pub lines : List Line

-- the stream of a chunk
abbrev pub stream_of_chunk : Chunk → Stream
stream_of_chunk c = record { source = c.source; kind = c.kind; name = c.name }

-- each chunk is of its adaptor's stream, and of the cluster
abbrev pub AreOwned : Basis → List ℕ → List Chunk → Type 0
AreOwned b [] [] = Unit {0}
AreOwned b (i ∷ owners) (c ∷ chunks) =
    (slice_get b.streams i ≡ Some (stream_of_chunk c)) × (c.cluster ≡ b.cluster) × AreOwned b owners chunks
AreOwned b owners chunks = ⊥

-- each stream is of the source and has a line in the checkpoint
pub record IsSaved (b : Basis) (t : Stream) : Type 0 where
  pub source : t.source ≡ b.source
  pub line : Line
  pub there : find (is_line_of t) b.lines ≡ Some line

-- the state is one of these streams
pub record Fits (b : Basis) (s : State) : Type 0 where
  pub saved : (i : ℕ) (t : Stream) → slice_get b.streams i ≡ Some t → IsSaved b t
  pub owned : AreOwned b s.owners s.queue.chunks
  pub known : length b.streams ≤ length s.table.committed
