-- What a read of a log gives to a reader that stands at a true place.
use Rattle.std.specs.Prelude.{◌≡◌, ℕ, ◌+◌, ◌-◌, ◌^◌, ◌≤◌, ◌<◌, Bool, true, ◌&&◌, not, IsTrue, List, [], ◌∷◌, length, take, drop, min, Contains, if◌then◌else◌, Option, Some}
use Rattle.std.specs.List.{list_all}
use Rattle.chk_bytes.specs.Numbers.{last_number}
use Rattle.chk_bytes.specs.Words.{text_lt}
use Rattle.chk_control.specs.declared.Class.{Class}
use Rattle.chk_control.specs.Classes.{is_plain, breaks_lines}
use Rattle.chk_site.specs.declared.acts.ActAnswer.TheVariants.{Done}
use Rattle.chk_site.specs.Suffixes.{is_after}
use Rattle.chk_site.specs.Honest.{AtLogRead}
use Rattle.chk_site.specs.CutLaws.{MayStop}
use Rattle.chk_site.specs.Logs.{Generation, Shown, Part, TheBase, Past, read_from}
use Rattle.chk_site.specs.History.{Step, History, files_after, logs_after}
use Rattle.chk_chunk.specs.Keys.{Stream, Chunk, chunk_end, is_chunk, chunk_limit}
use Rattle.chk_world.specs.Names.{is_source}
use Rattle.chk_world.specs.Checkpoints.{Line, line_of}
use Rattle.chk_world.specs.Streams.{Founding, founding, start_of, log_of, whole_end, is_stream_cut, IsTrueChunk}
use Rattle.chk_world.specs.Agents.{is_at_or_past}
use Rattle.chk_world.specs.Rules.{Legal}
use Rattle.chk_world.specs.Standing.{Stands}

-- the suffixes rise
abbrev pub rising : List Generation → Bool
rising [] = true
rising (g ∷ gs) = list_all (λ h. text_lt g.suffix h.suffix) gs && rising gs

abbrev pub GenerationsRise : Type 0
GenerationsRise =
    (stamped : List (List ℕ)) (history : History) → Legal stamped history → (path : List ℕ)
    → IsTrue (rising (logs_after history path).rotated)

-- the part that a reader of this class reads
abbrev pub part_for : Class → Option (List ℕ) → Part
part_for class after = if is_plain class then TheBase else Past after

-- what comes after the one comes after the other
abbrev pub IsAtOrBehind : Option (List ℕ) → Option (List ℕ) → Type 0
IsAtOrBehind a b = (suffix : List ℕ) → IsTrue (is_after b suffix) → IsTrue (is_after a suffix)

-- a reader's place is at or past the line, by the part that is read
abbrev pub IsPlacePast : Part → Line → Line → Type 0
IsPlacePast TheBase l line = IsTrue (is_plain line.class) × (line.offset ≤ line.first + (l.offset - l.first))
IsPlacePast (Past after) l line =
    IsTrue (not (is_plain line.class)) × IsTrue (is_at_or_past line.after after) × (line.offset ≤ l.offset)

-- the place so many bytes on
abbrev pub moved : Line → ℕ → Line
moved l n = record l { offset = l.offset + n }

-- the place at the end of a generation of this suffix, so many bytes on
abbrev pub passed : Line → List ℕ → ℕ → Line
passed l suffix n = record l { offset = l.offset + n; first = l.offset + n; after = Some suffix }

-- The read gave bytes of the stream's log from the place on. The places in them at which a reader
-- may stop stand, and so does the one behind a generation that they end.
pub record GivesLog (history : History) (s : Stream) (l : Line) (g : Shown) (words : List (List ℕ)) : Type 0 where
  pub piece : List ℕ
  pub ends : List (List ℕ)
  pub words_are : words ≡ piece ∷ ends
  pub bytes : (n : ℕ) → n ≤ length piece
      → take n piece ≡ take n (drop (l.offset - start_of history s) (log_of history s))
  pub from : MayStop (breaks_lines l.class) g (l.offset - l.first)
  pub stops : (n : ℕ) → n ≤ length piece → MayStop (breaks_lines l.class) g (l.offset - l.first + n)
      → Stands history s (moved l n)
  pub passes : (suffix : List ℕ) → Contains ends suffix
      → Stands history s (passed l suffix (length piece))

-- the reader's class is the stream's, and it stands at or past its line
pub record ReadsOn (history : History) (s : Stream) (l : Line) : Type 0 where
  pub line : Line
  pub there : line_of (files_after history) s ≡ Some line
  pub class : line.class ≡ l.class
  pub behind : IsAtOrBehind line.after l.after
  pub stands : Stands history s l

-- each read of a reader at or past its line gives the log
abbrev pub ReadsGiveLog : Type 0
ReadsGiveLog =
    (stamped : List (List ℕ)) (history : History) → Legal stamped history → (s : Stream) → IsTrue (is_source s.source)
    → (l : Line) → ReadsOn history s l → (max : ℕ) (words : List (List ℕ)) (number of : ℕ)
    → let g = read_from (part_for l.class l.after) (logs_after history s.name) in
    AtLogRead (Done words number of) (l.offset - l.first) max g
    → GivesLog history s l g words

-- Of what a read gave, nothing may be taken and nothing more comes: it ended no generation, and
-- among the bytes that it asked for no place comes at which the reader may stop.
pub record GivesNoMore (lines : Bool) (g : Shown) (at max : ℕ) (words : List (List ℕ)) : Type 0 where
  pub piece : List ℕ
  pub words_are : words ≡ piece ∷ []
  pub none_later : (q : ℕ) → at < q → q ≤ at + max → q ≤ length g.bytes → MayStop lines g q → ⊥

-- a whole piece was asked for, or all up to the greatest place
abbrev pub AsksEnough : Line → ℕ → Type 0
AsksEnough l max = min (last_number - l.offset) chunk_limit ≤ max

-- where such a read gives no more, the whole log ends at the place
abbrev pub ReadsFindEnd : Type 0
ReadsFindEnd =
    (stamped : List (List ℕ)) (history : History) → Legal stamped history → (s : Stream) → IsTrue (is_source s.source)
    → (l : Line) → ReadsOn history s l → (max : ℕ) → AsksEnough l max
    → (words : List (List ℕ)) (number of : ℕ)
    → let g = read_from (part_for l.class l.after) (logs_after history s.name) in
    AtLogRead (Done words number of) (l.offset - l.first) max g
    → GivesNoMore (breaks_lines l.class) g (l.offset - l.first) max words
    → whole_end history s ≡ l.offset

-- the chunk is of a stream that has begun, is true and ends where a reader may stop
pub record ChunkStands (history : History) (c : Chunk) : Type 0 where
  pub first : Founding
  pub founded : founding history c.key.stream ≡ Some first
  pub is_true : IsTrueChunk history c
  pub cut : IsTrue (is_stream_cut history c.key.stream (chunk_end c))

-- a chunk that stands stays so over every legal step
abbrev pub ChunksStand : Type 0
ChunksStand =
    (stamped : List (List ℕ)) (history : History) (step : Step) → Legal stamped (step ∷ history) → (c : Chunk)
    → IsTrue (is_source c.key.stream.source) → IsTrue (is_chunk c) → ChunkStands history c
    → ChunkStands (step ∷ history) c
