-- Which records a demux run finds to write, where the files that it reads stay.
use Rattle.std.specs.Prelude.{ℕ, ◌<◌, Bool, List, length, take, drop, codes, Contains}
use Rattle.chk_site.specs.Files.{Files}
use Rattle.chk_chunk.specs.Keys.{Chunk, chunk_limit}
use Rattle.chk_world.specs.ArchiveRuns.{in_order}
use Rattle.chk_world.specs.Books.{Book, End}
use Rattle.chk_record_reader.specs.Segments.{names_of, chunks_in_files}
use Rattle.chk_demux_split.specs.Splitting.{Splitting, pieces_of}
use Rattle.chk_demux.specs.Giving.{IsSplitting}
use Rattle.chk_demux.specs.Splitting.{past_in, split_from, is_stamped}
use Rattle.chk_demux.specs.Enough.{RunsFrom}
use Rattle.chk_demux.specs.Shown.{PutsIf}

-- the bytes have a complete record
abbrev pub HasRecord : Bool → List ℕ → Type 0
HasRecord by_stamps bytes = 0 < length (pieces_of by_stamps bytes)

-- The splitter was fed what the first chunks, so many, have of the end's stream from the offset on,
-- and no record was put since there were so many, or else these bytes have a complete one.
pub record IsFed (cs : List Chunk) (e : End) (from index : ℕ) (by_stamps : Bool) (s : Splitting)
    (old new : ℕ) : Type 0 where
  pub splits : IsSplitting by_stamps (past_in from e.stream (take index cs)) s
  pub due : PutsIf (HasRecord by_stamps (past_in from e.stream (take index cs))) old new

-- what the stream's chunks have from this offset on has a complete record, by lines or by stamps as
-- its type is split
abbrev pub StreamHasRecord : List (List ℕ) → List Chunk → End → ℕ → Type 0
StreamHasRecord types cs e from =
    HasRecord (is_stamped types e.stream.kind) (past_in from e.stream cs)

-- so has one of the archive's streams, from the place on from which its split goes on by the
-- records' book
abbrev pub HasDue : List (List ℕ) → Book → Book → List Chunk → Type 0
HasDue types archive records cs = (e : End) × Contains archive.ends e
    × StreamHasRecord types cs e (split_from records e)

-- so it is of the chunks of the segments that the archive's book names, from this one on
abbrev pub IsDueFrom : List (List ℕ) → Book → Book → Files → ℕ → Type 0
IsDueFrom types archive records files first =
    HasDue types archive records
    (in_order (chunks_in_files chunk_limit files
    (drop first (names_of (codes "archive") archive))))

-- so it is of the newest ones that suffice
abbrev pub IsDueIn : List (List ℕ) → Book → Book → Files → Type 0
IsDueIn types archive records files =
    (first : ℕ) × RunsFrom archive records files first × IsDueFrom types archive records files first
