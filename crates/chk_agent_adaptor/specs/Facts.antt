-- What the told history holds of an adaptor's reader.
use Rattle.std.specs.Prelude.{◌≡◌, ℕ, IsTrue, List, [], ◌∷◌, Result, Ok}
use Rattle.chk_site.specs.declared.acts.OutsideFault.{OutsideFault}
use Rattle.chk_site.specs.History.{History}
use Rattle.chk_chunk.specs.Keys.{Stream, Chunk, is_chunk}
use Rattle.chk_tail.specs.declared.step.Step.{Step}
use Rattle.chk_tail.specs.declared.step.Step.TheVariants.{Bytes, Shrank}
use Rattle.chk_tail.specs.Walks.{Spot}
use Rattle.chk_world.specs.Checkpoints.{Line}
use Rattle.chk_world.specs.Standing.{Stands}
use Rattle.chk_world.specs.Reading.{ChunkStands}
use Rattle.chk_agent_adaptor.specs.Adaptors.{Adaptor, stream_at, line_at, read_line}

-- the line of a place of an adaptor
abbrev pub place_line : Adaptor → Spot → Line
place_line a p = record (line_at p.offset a) { first = p.first; after = p.after }

-- each mark's generation holds the beginning of the next one as its end, and the last one's the
-- place read
abbrev pub MarksStand : History → Stream → Adaptor → List Spot → Type 0
MarksStand history s a [] = Unit {0}
MarksStand history s a (m ∷ []) =
    Stands history s (place_line a (record m { offset = a.read.offset }))
MarksStand history s a (m ∷ n ∷ marks) =
    Stands history s (place_line a (record m { offset = n.first }))
    × MarksStand history s a (n ∷ marks)

-- the place read stands, and so do the marks
pub record ReaderStands (source : List ℕ) (a : Adaptor) (history : History) : Type 0 where
  pub read : Stands history (stream_at source a) (read_line a)
  pub marks : MarksStand history (stream_at source a) a a.marks

-- a chunk of the bytes that were given, which end at an offset, stands
abbrev pub GaveChunk : Stream → ℕ → Result Step OutsideFault → History → Type 0
GaveChunk s start (Ok (Bytes bytes end)) history =
    (c : Chunk) → IsTrue (is_chunk c) → c.key.stream ≡ s → c.key.start ≡ start → c.key.seq ≡ end
    → c.value ≡ bytes
    → ChunkStands history c
GaveChunk s start result history = Unit {0}

-- the log isn't shorter than the place
abbrev pub IsLong : Result Step OutsideFault → Type 0
IsLong (Ok (Shrank had is)) = ⊥
IsLong result = Unit {0}

-- After a step: the reader stands, and so does each chunk of the bytes that it gave. The log is never
-- shorter than the place.
pub record StepStands (source : List ℕ) (old : Adaptor) (result : Result Step OutsideFault)
    (new : Adaptor) (history : History) : Type 0 where
  pub reader : ReaderStands source new history
  pub chunk : GaveChunk (stream_at source old) old.start result history
  pub long : IsLong result
