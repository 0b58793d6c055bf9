-- What the told history holds of a state: facts that each legal step keeps, but a start of the agent.
use Rattle.std.specs.Prelude.{◌≡◌, ℕ, IsTrue, List, take, Contains, Option, Some, None, find, slice_get, slice_index}
use Rattle.chk_site.specs.History.{History, since_start}
use Rattle.chk_chunk.specs.Keys.{Stream, Chunk, chunk_begin, chunk_end, is_chunk}
use Rattle.chk_chunk.specs.declared.Chunk.{Chunk as OwnedChunk}
use Rattle.chk_chunk.specs.Lent.{chunk_of, chunks_of}
use Rattle.chk_http_grammar.specs.Messages.{ack_of, WrittenPost, WrittenPoll}
use Rattle.chk_acks.specs.declared.row.Row.{Row}
use Rattle.chk_world.specs.Checkpoints.{Line, is_line_of}
use Rattle.chk_world.specs.Agents.{Sent, Acknowledged}
use Rattle.chk_world.specs.Streams.{Founding, founding, is_stream_cut}
use Rattle.chk_world.specs.Reading.{ChunkStands}
use Rattle.chk_world.specs.Answering.{IsAnswered, AllAcknowledged}
use Rattle.chk_world.specs.Knowing.{agent, Told}
use Rattle.chk_agent_delivery.specs.States.{Post, Poll, State}
use Rattle.chk_agent_delivery.specs.Basis.{Basis}

-- a row tells of a chunk that was sent and answered since the start; where it is marked, the chunk is acknowledged
pub record RowStands (source : List ℕ) (streams : List Stream) (row : Row) (history : History) : Type 0 where
  pub t : Stream
  pub known : slice_get streams row.adaptor ≡ Some t
  pub c : Chunk
  pub valid : IsTrue (is_chunk c)
  pub stream : c.key.stream ≡ t
  pub of : t.source ≡ source
  pub begin : chunk_begin c ≡ row.begin
  pub end : chunk_end c ≡ row.end
  pub stands : ChunkStands history c
  pub answered : IsAnswered (since_start (agent source) history) c (ack_of row.stem row.offset)
  pub marked : IsTrue row.marked → Acknowledged (since_start (agent source) history) c

-- from the saved offset up to its committed end a stream was acknowledged, and a reader may stop at that end
pub record EndStands (source : List ℕ) (o : ℕ) (t : Stream) (saved : Line) (history : History) : Type 0 where
  pub acknowledged : AllAcknowledged (since_start (agent source) history) t saved.offset o
  pub first : Founding
  pub founded : founding history t ≡ Some first
  pub cut : IsTrue (is_stream_cut history t o)

-- a post that is out was sent, and is of the queue's front
abbrev pub PostStands : List ℕ → List OwnedChunk → Option Post → History → Type 0
PostStands source chunks None history = Unit {0}
PostStands source chunks (Some p) history =
    (address : List ℕ) × (bytes : List ℕ) × Sent (since_start (agent source) history) p.message address bytes
    × WrittenPost address (chunks_of (take p.count chunks)) bytes

-- a poll that is out was sent
abbrev pub PollStands : List ℕ → Option Poll → History → Type 0
PollStands source None history = Unit {0}
PollStands source (Some p) history =
    (address : List ℕ) × (bytes : List ℕ) × Sent (since_start (agent source) history) p.message address bytes
    × WrittenPoll address p.stems bytes

pub record Holds (b : Basis) (s : State) (history : History) : Type 0 where
  pub queue : (c : OwnedChunk) → Contains s.queue.chunks c → ChunkStands history (chunk_of c)
  pub rows : (r : Row) → Contains s.table.rows r → RowStands b.source b.streams r history
  pub ends : (i : ℕ) (t : Stream) (saved : Line) → slice_get b.streams i ≡ Some t
      → find (is_line_of t) b.lines ≡ Some saved
      → EndStands b.source (slice_index s.table.committed i) t saved history
  pub post : PostStands b.source s.queue.chunks s.post history
  pub poll : PollStands b.source s.poll history

-- The told history is legal, and where the site wasn't stopped the checkpoint has the lines, all that was sent since the
-- start is of the cluster, and the history holds the state.
abbrev pub Matches : List (List ℕ) → Basis → State → History → Type 0
Matches stamped b s history = Told stamped b.source b.cluster b.lines (Holds b s) history
