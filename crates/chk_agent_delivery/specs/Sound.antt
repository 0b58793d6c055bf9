-- What holds of each state: how its parts fit. It speaks of no history.
use Rattle.std.specs.Prelude.{◌≡◌, ℕ, ◌+◌, ◌≤◌, ◌<◌, List, [], ◌∷◌, length, take, slice_index, slice_set, Option, Some, None}
use Rattle.chk_chunk.specs.declared.Chunk.{Chunk}
use Rattle.chk_chunk.specs.Lent.{AreValid, chunks_of}
use Rattle.chk_chunk.specs.Posts.{most_chunks, post_limit, written_post}
use Rattle.chk_agent_delivery.specs.States.{Post, Poll, State}
use Rattle.chk_agent_delivery.specs.Turns.{most_stems}

-- each chunk is of a known adaptor and goes on where the one before it ended, or at the adaptor's last end
abbrev pub InTurn : List ℕ → List ℕ → List Chunk → Type 0
InTurn last owners [] = Unit {0}
InTurn last [] (c ∷ chunks) = ⊥
InTurn last (i ∷ owners) (c ∷ chunks) =
    (i < length last) × (c.seq ≡ slice_index last i + length c.body) × (0 < length c.body)
    × InTurn (slice_set last i c.seq) owners chunks

-- the offset at which each adaptor's next chunk begins: its last end, or the end of its last chunk that waits
abbrev pub ends_after : List ℕ → List ℕ → List Chunk → List ℕ
ends_after last [] chunks = last
ends_after last (i ∷ owners) [] = last
ends_after last (i ∷ owners) (c ∷ chunks) = ends_after (slice_set last i c.seq) owners chunks

abbrev pub next_begins : State → List ℕ
next_begins s = ends_after s.table.last s.owners s.queue.chunks

-- a post that is out is of the queue's front, and the table has room for its rows
pub record PostIsFront (s : State) (p : Post) : Type 0 where
  pub some : 0 < p.count
  pub few : p.count ≤ most_chunks
  pub there : p.count ≤ length s.queue.chunks
  pub room : length s.table.rows + p.count ≤ s.table.room
  pub short : length (written_post (chunks_of (take p.count s.queue.chunks))) ≤ post_limit

abbrev pub PostFits : State → Option Post → Type 0
PostFits s None = Unit {0}
PostFits s (Some p) = PostIsFront s p

-- a poll that is out asks for some sinks
abbrev pub PollFits : Option Poll → Type 0
PollFits None = Unit {0}
PollFits (Some p) = (0 < length p.stems) × (length p.stems ≤ most_stems)

pub record IsSound (s : State) : Type 0 where
  pub as_many : length s.owners ≡ length s.queue.chunks
  pub turn : InTurn s.table.last s.owners s.queue.chunks
  pub valid : AreValid s.queue.chunks
  pub room : s.queue.limit ≡ s.rules.queue
  pub most : s.table.room ≡ s.rules.rows
  pub post : PostFits s s.post
  pub poll : PollFits s.poll
