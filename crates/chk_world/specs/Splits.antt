-- The records of a stream: how its bytes are split, and those that were demultiplexed.
use Rattle.std.specs.Prelude.{ℕ, ◌+◌, Bool, true, false, ◌&&◌, ◌||◌, ◌==◌, nat_lt, nat_le, List, [], ◌∷◌, ◌++◌, length, map, codes, bytes_eq, if◌then◌else◌}
use Rattle.std.specs.Char.{is_ascii_digit}
use Rattle.std.specs.List.{list_any}
use Rattle.chk_site.specs.Files.{Files}
use Rattle.chk_chunk.specs.Keys.{Stream, Chunk, chunk_end, chunk_limit, record_limit}
use Rattle.chk_world.specs.Names.{DemuxFolder}
use Rattle.chk_world.specs.Books.{Book, chunks_named, chunks_of_stream, book_of}

-- a complete record, and the offset past its last byte
pub record Record : Type 0 where
  pub bytes : List ℕ
  pub end : ℕ

-- the complete lines: a line ends behind a newline, or after 131,072 bytes without one
abbrev pub lines_from : List ℕ → List ℕ → List (List ℕ)
lines_from line [] = []
lines_from line (b ∷ bytes) =
    let longer = line ++ b ∷ [] in
    elim (b == 10 || nat_le chunk_limit (length longer))
    [ true ↦ longer ∷ lines_from [] bytes | false ↦ lines_from longer bytes ]

-- a digit where the pattern has a d, else the pattern's byte
abbrev pub fits_pattern : List ℕ → List ℕ → Bool
fits_pattern [] bytes = true
fits_pattern (p ∷ ps) [] = false
fits_pattern (p ∷ ps) (b ∷ bytes) = (if p == 100 then is_ascii_digit b else p == b) && fits_pattern ps bytes

-- the line begins with a stamp of a day and a time
abbrev pub has_stamp : List ℕ → Bool
has_stamp line = fits_pattern (codes "dddd-dd-dd dd:dd:dd,ddd") line

-- records of lines, behind one that has begun: a stamp begins a new one, and so does a line for which there is no room
abbrev pub records_behind : List ℕ → List (List ℕ) → List (List ℕ)
records_behind begun [] = []
records_behind begun (line ∷ lines) =
    elim (has_stamp line || nat_lt record_limit (length begun + length line)) [
      | true ↦ begun ∷ records_behind line lines
      | false ↦ records_behind (begun ++ line) lines
    ]

-- the records of lines of which some begin with stamps
abbrev pub stamped_records : List (List ℕ) → List (List ℕ)
stamped_records [] = []
stamped_records (line ∷ lines) = records_behind line lines

-- each with the offset of its end
abbrev pub ends_from : ℕ → List (List ℕ) → List Record
ends_from at [] = []
ends_from at (bytes ∷ rest) = record { bytes = bytes; end = at + length bytes } ∷ ends_from (at + length bytes) rest

-- each complete line is a record
abbrev pub split_lines : ℕ → List ℕ → List Record
split_lines start bytes = ends_from start (lines_from [] bytes)

-- a stamp begins a record
abbrev pub split_stamped : ℕ → List ℕ → List Record
split_stamped start bytes = ends_from start (stamped_records (lines_from [] bytes))

-- the complete records of a stream's bytes, the first of which has this offset; its type is one of the
-- stamped ones, or not
abbrev pub split : List (List ℕ) → Stream → ℕ → List ℕ → List Record
split stamped s start bytes =
    if list_any (bytes_eq s.kind) stamped then split_stamped start bytes else split_lines start bytes

-- a record of a segment
abbrev pub record_in : Chunk → Record
record_in c = record { bytes = c.value; end = chunk_end c }

-- the records of a stream in the segments that a book names
abbrev pub records_named : Files → Book → Stream → List Record
records_named files b s = map record_in (chunks_of_stream s (chunks_named files DemuxFolder b))

-- the demultiplexed records of a stream
abbrev pub demuxed_records : Files → Stream → List Record
demuxed_records files s = records_named files (book_of files DemuxFolder) s
