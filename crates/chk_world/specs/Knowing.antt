-- What an agent knows of the told history: the lines of its checkpoint, and facts that grow.
use Rattle.std.specs.Prelude.{◌≡◌, ℕ, ◌+◌, ◌&&◌, IsTrue, IsFalse, List, ◌∷◌, length, take, Some}
use Rattle.chk_site.specs.declared.acts.Role.TheVariants.{Agent}
use Rattle.chk_site.specs.declared.acts.Who.{Who}
use Rattle.chk_site.specs.declared.suffixes.Piece.{Piece}
use Rattle.chk_site.specs.Acts.{deed}
use Rattle.chk_site.specs.History.{Step, History, files_after, since_start, is_by, is_start}
use Rattle.chk_chunk.specs.Keys.{Stream, Chunk, is_chunk}
use Rattle.chk_world.specs.Checkpoints.{Line, checkpoint_lines}
use Rattle.chk_world.specs.Agents.{AllOfCluster}
use Rattle.chk_world.specs.Rules.{Legal}
use Rattle.chk_world.specs.Places.{AtTold}
use Rattle.chk_world.specs.Standing.{Stands}
use Rattle.chk_world.specs.Reading.{moved, passed, ChunkStands}

-- the agent of a source
abbrev pub agent : List ℕ → Who
agent source = record { role = Agent; name = source }

-- the step is no start of this process
abbrev pub IsNoStart : Who → Step → Type 0
IsNoStart who step = IsFalse (is_by who step && is_start (deed step.act))

-- a fact that each legal step keeps, but a start of the process
abbrev pub Grows : List (List ℕ) → Who → (History → Type 0) → Type 0
Grows stamped who F =
    (history : History) (step : Step) → Legal stamped (step ∷ history) → IsNoStart who step → F history → F (step ∷ history)

-- two facts at once
pub record Both (F G : History → Type 0) (history : History) : Type 0 where
  pub one : F history
  pub two : G history

-- the checkpoint has these lines, all that was sent since the start is of this cluster, and F holds
pub record Knows (source cluster : List ℕ) (lines : List Line) (F : History → Type 0) (history : History) : Type 0 where
  pub one_cluster : AllOfCluster cluster (since_start (agent source) history)
  pub lines_are : checkpoint_lines (files_after history) source ≡ lines
  pub holds : F history

-- the told history is legal, and where the site wasn't stopped the agent knows this of it
abbrev pub Told : List (List ℕ) → List ℕ → List ℕ → List Line → (History → Type 0) → History
    → Type 0
Told stamped source cluster lines F history = AtTold stamped (agent source) (Knows source cluster lines F) history

-- The chunk of so many bytes of the stream from the place on, with this value.
pub record IsChunkFrom (s : Stream) (l : Line) (value : List ℕ) (c : Chunk) : Type 0 where
  pub stream : c.key.stream ≡ s
  pub start : c.key.start ≡ l.start
  pub seq : c.key.seq ≡ l.offset + length value
  pub value_is : c.value ≡ value

-- After a read that gave a piece, of which so many bytes are taken: the place behind them stands,
-- so does each chunk of them, and the place behind a generation that the piece ended.
pub record AfterRead (s : Stream) (l : Line) (piece : Piece) (n : ℕ) (history : History) : Type 0 where
  pub place : Stands history s (moved l n)
  pub chunk : (c : Chunk) → IsTrue (is_chunk c) → IsChunkFrom s l (take n piece.bytes) c
      → ChunkStands history c
  pub end : (suffix : List ℕ) → piece.ended ≡ Some suffix
      → Stands history s (passed l suffix (length piece.bytes))
