-- A segment that is written: what its file holds, and what the book has once it is entered.
use Rattle.std.specs.Prelude.{◌≡◌, ℕ, ◌+◌, ◌≤◌, ◌^◌, List, [], ◌∷◌, ◌++◌, length, Option, Some, None, if◌then◌else◌}
use Rattle.chk_site.specs.History.{History, files_after}
use Rattle.chk_chunk.specs.Keys.{Chunk, chunk_begin, chunk_end, same_stream, stream_lt}
use Rattle.chk_world.specs.Books.{Segment, End, Book, AllChunks, chunks_within}
use Rattle.chk_world.specs.Committed.{HasFile}
use Rattle.chk_seqfile.specs.Headers.{header, marker_of}
use Rattle.chk_book.specs.Folders.{segment_name, segment_stem}
use Rattle.chk_book.specs.Books.{end_in}

-- what the segment is: its folder and number, the chunks so far, the bytes that its file holds, and those that are still to
-- be appended
pub record Writing : Type 0 where
  pub folder : List ℕ
  pub number : ℕ
  pub chunks : List Chunk
  pub held : List ℕ
  pub left : List ℕ

-- the segment with one chunk more, whose piece is still to be appended
abbrev pub grown : Writing → Chunk → List ℕ → Writing
grown w c piece = record {
  folder = w.folder;
  number = w.number;
  chunks = w.chunks ++ c ∷ [];
  held = w.held;
  left = w.left ++ piece;
}

-- the segment once all its bytes are appended
abbrev pub appended : Writing → Writing
appended w = record { folder = w.folder; number = w.number; chunks = w.chunks; held = w.held ++ w.left; left = [] }

-- the segment of which only the header is written
abbrev pub begun : List ℕ → ℕ → Writing
begun folder number =
    record { folder = folder; number = number; chunks = []; held = header (marker_of (segment_stem number)); left = [] }

-- all its bytes
abbrev pub all_bytes : Writing → List ℕ
all_bytes w = w.held ++ w.left

-- all its bytes are a SequenceFile of those chunks, at most so many bytes each
pub record IsSegmentOf (most : ℕ) (bytes : List ℕ) (chunks : List Chunk) : Type 0 where
  pub form : AllChunks most bytes
  pub are : chunks_within most bytes ≡ chunks
  pub begun : 96 ≤ length bytes
  pub small : length bytes ≤ 2 ^ 62 + 2 ^ 21

-- the file holds what was appended
abbrev pub HoldsSegment : Writing → History → Type 0
HoldsSegment w history = HasFile (files_after history (segment_name w.folder w.number)) (λ f. f.bytes ≡ w.held)

-- the file holds all of it, all synced
abbrev pub IsFinished : Writing → History → Type 0
IsFinished w history =
    HasFile (files_after history (segment_name w.folder w.number)) (λ f. (f.bytes ≡ all_bytes w) × (f.synced ≡ length (all_bytes w)))

-- the end that a chunk gives its stream
abbrev pub end_of : Chunk → End
end_of c = record { stream = c.key.stream; start = c.key.start; end = chunk_end c }

-- the ends with this one's stream raised to it, or put in where the stream has none
abbrev pub raised_end : End → List End → List End
raised_end d [] = d ∷ []
raised_end d (e ∷ es) =
    if same_stream e.stream d.stream then record { stream = e.stream; start = e.start; end = d.end } ∷ es
    else if stream_lt d.stream e.stream then d ∷ e ∷ es else e ∷ raised_end d es

-- the same for each of several, in turn
abbrev pub raised_by : List End → List End → List End
raised_by [] es = es
raised_by (d ∷ ds) es = raised_by ds (raised_end d es)

-- the ends with that of the chunk's stream raised to the chunk's, or put in where the stream has none
abbrev pub raised : Chunk → List End → List End
raised c es = raised_end (end_of c) es

abbrev pub raised_all : List Chunk → List End → List End
raised_all [] es = es
raised_all (c ∷ cs) es = raised_all cs (raised c es)

-- the chunk begins where its stream's archive and the parts so far end
abbrev pub GoesOn : Book → List Chunk → Chunk → Type 0
GoesOn b parts c = chunk_begin c ≡ end_in c.key.start (raised_all parts b.ends) c.key.stream

-- the book with one segment more, and the ends raised by these in turn
abbrev pub entered : Book → Segment → List End → Book
entered b g ends = record { next = g.number + 1; segments = b.segments ++ g ∷ []; ends = raised_by ends b.ends; aside = b.aside }

-- the book with the finished segment
abbrev pub with_segment : Book → Segment → List Chunk → Book
with_segment b g chunks = record {
  next = g.number + 1;
  segments = b.segments ++ g ∷ [];
  ends = raised_all chunks b.ends;
  aside = b.aside;
}

-- the book with the finished segment as its aside segment
abbrev pub with_aside : Book → Option Segment → Book
with_aside b (Some g) = record { next = g.number + 1; segments = b.segments; ends = b.ends; aside = Some g }
with_aside b None = record { next = b.next; segments = b.segments; ends = b.ends; aside = None }

-- the segment that is entered
abbrev pub segment_of : Writing → Segment
segment_of w = record { number = w.number; length = length (all_bytes w) }
