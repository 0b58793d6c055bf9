-- Books, segments, and what a folder of segments holds.
use Rattle.std.specs.Prelude.{◌≡◌, ℕ, zero, suc, ◌+◌, ◌-◌, ◌*◌, Bool, true, false, ◌&&◌, not, ◌==◌, nat_eq, nat_lt, nat_le, min, List, [], ◌∷◌, ◌++◌, length, drop, map, filter, flat_map, filter_map, codes, if◌then◌else◌, Option, Some, None, unwrap_or}
use Rattle.std.specs.List.{list_all, list_any}
use Rattle.chk_bytes.specs.Numbers.{be32, be64, limit, spelled_at}
use Rattle.chk_bytes.specs.Words.{joined, spelling}
use Rattle.chk_bytes.specs.Stems.{is_count}
use Rattle.chk_site.specs.Files.{File, Files}
use Rattle.chk_seqfile.specs.Entries.{Placed, IsSequenceFile, records_of}
use Rattle.chk_chunk.specs.Keys.{Stream, Key, Chunk, is_stream, stream_lt, start_limit, counted_stream, stream_at, behind_stream, read_key, has_value, is_of, record_limit}
use Rattle.chk_world.specs.Names.{Folder, BookFile, SegmentFile, file}

-- a segment: its number and its length
pub record Segment : Type 0 where
  pub number : ℕ
  pub length : ℕ

-- a stream in a book: its start, and the offset past its last byte
pub record End : Type 0 where
  pub stream : Stream
  pub start : ℕ
  pub end : ℕ

-- a book: the next number, the segments, the streams
pub record Book : Type 0 where
  pub next : ℕ
  pub segments : List Segment
  pub ends : List End
  -- the segment of the chunks past a gap
  pub aside : Option Segment

-- a version of the bytes: the second one has starts, the third one an aside segment too
pub data Version : Type 0 where
  One : Version
  Two : Version
  Three : Version

-- the byte of a version
abbrev pub version_byte : Version → ℕ
version_byte One = 1
version_byte Two = 2
version_byte Three = 3

-- the version has a start for each stream
abbrev pub has_starts : Version → Bool
has_starts One = false
has_starts v = true

-- a segment in a book
abbrev pub segment_bytes : Segment → List ℕ
segment_bytes g = be64 g.number ++ be64 g.length

-- a stream in a book
abbrev pub end_bytes : Bool → End → List ℕ
end_bytes starts e =
    (if starts then be64 e.start else []) ++ (be64 e.end ++ counted_stream e.stream)

-- the aside segment in a book
abbrev pub aside_bytes : Option Segment → List ℕ
aside_bytes None = []
aside_bytes (Some g) = segment_bytes g

-- a book in a version
abbrev pub book_bytes : Version → Book → List ℕ
book_bytes v b =
    codes "CHKB" ++ version_byte v ∷ (be64 b.next ++ (be32 (length b.segments) ++ (joined (map segment_bytes b.segments)
    ++ (be32 (length b.ends) ++ (joined (map (end_bytes (has_starts v)) b.ends) ++ aside_bytes b.aside)))))

-- a segment that a book can name
abbrev pub is_segment : ℕ → Segment → Bool
is_segment next g = is_count g.number && (nat_lt g.number next && (nat_le 96 g.length && nat_lt g.length limit))

-- the numbers rise strictly
abbrev pub segments_rise : List Segment → Bool
segments_rise [] = true
segments_rise (g ∷ []) = true
segments_rise (g ∷ h ∷ gs) = nat_lt g.number h.number && segments_rise (h ∷ gs)

-- a stream that a book can have
abbrev pub is_end : End → Bool
is_end e = is_stream e.stream && (nat_lt e.start start_limit && (nat_le e.start e.end && nat_lt e.end limit))

-- the streams rise strictly
abbrev pub ends_rise : List End → Bool
ends_rise [] = true
ends_rise (e ∷ []) = true
ends_rise (e ∷ f ∷ es) = stream_lt e.stream f.stream && ends_rise (f ∷ es)

-- an aside segment that a book can name
abbrev pub is_aside : ℕ → List Segment → Option Segment → Bool
is_aside next segments None = true
is_aside next segments (Some g) = is_segment next g && not (list_any (λ h. nat_eq h.number g.number) segments)

-- the stream's start is 0
abbrev pub begins_at_0 : End → Bool
begins_at_0 e = e.start == 0

-- there is no aside segment
abbrev pub is_nothing : Option Segment → Bool
is_nothing None = true
is_nothing (Some g) = false

-- the version says all of the book
abbrev pub fits_version : Version → Book → Bool
fits_version One b = list_all begins_at_0 b.ends && is_nothing b.aside
fits_version Two b = is_nothing b.aside
fits_version Three b = not (is_nothing b.aside)

-- a book that this version can spell
abbrev pub is_book : Version → Book → Bool
is_book v b =
    is_count b.next && (nat_lt (length b.segments) 4294967296
    && (list_all (is_segment b.next) b.segments && (segments_rise b.segments
    && (nat_lt (length b.ends) 4294967296 && (list_all is_end b.ends && (ends_rise b.ends
    && (is_aside b.next b.segments b.aside && fits_version v b)))))))

-- the least version that says all is written
abbrev pub written_version : Book → Version
written_version b = if not (is_nothing b.aside) then Three else if list_all begins_at_0 b.ends then One else Two

-- the segment that would stand first
abbrev pub guessed_segment : List ℕ → Segment
guessed_segment bytes = record { number = spelled_at 0 8 bytes; length = spelled_at 8 8 bytes }

-- so many segments
abbrev pub guessed_segments : ℕ → List ℕ → List Segment
guessed_segments zero bytes = []
guessed_segments (suc n) bytes = guessed_segment bytes ∷ guessed_segments n (drop 16 bytes)

-- the stream that would stand first, its offsets being so many bytes
abbrev pub guessed_end : ℕ → List ℕ → End
guessed_end at bytes = record {
  stream = stream_at at bytes;
  start = spelled_at 0 (at - 8) bytes;
  end = spelled_at (at - 8) 8 bytes;
}

-- so many streams
abbrev pub guessed_ends : ℕ → ℕ → List ℕ → List End
guessed_ends zero at bytes = []
guessed_ends (suc n) at bytes = guessed_end at bytes ∷ guessed_ends n at (drop (behind_stream at bytes) bytes)

-- the bytes behind so many streams
abbrev pub behind_ends : ℕ → ℕ → List ℕ → List ℕ
behind_ends zero at bytes = bytes
behind_ends (suc n) at bytes = behind_ends n at (drop (behind_stream at bytes) bytes)

-- the version that this byte names
abbrev pub guessed_version : ℕ → Version
guessed_version version = if version == 1 then One else if version == 2 then Two else Three

-- the aside segment that would stand there
abbrev pub guessed_aside : Version → List ℕ → Option Segment
guessed_aside Three bytes = Some (guessed_segment bytes)
guessed_aside v bytes = None

-- the bytes from the count of streams on
abbrev pub guessed_book : Version → ℕ → List Segment → List ℕ → Book
guessed_book v next segments bytes =
    let count = min (spelled_at 0 4 bytes) (length bytes) in
    let at = if has_starts v then 16 else 8 in
    record {
      next = next;
      segments = segments;
      ends = guessed_ends count at (drop 4 bytes);
      aside = guessed_aside v (behind_ends count at (drop 4 bytes));
    }

-- the book of a version that the bytes would be
abbrev pub guessed : Version → List ℕ → Book
guessed v bytes =
    let count = min (spelled_at 13 4 bytes) (length bytes) in
    guessed_book v (spelled_at 5 8 bytes) (guessed_segments count (drop 17 bytes)) (drop (17 + 16 * count) bytes)

-- the book that the bytes are
unfoldable pub read_book : List ℕ → Option Book
read_book bytes =
    let v = guessed_version (spelled_at 4 1 bytes) in
    spelling (is_book v) (book_bytes v) (guessed v bytes) bytes

-- where there is no book
abbrev pub empty_book : Book
empty_book = record { next = 1; segments = []; ends = []; aside = None }

-- the book that a file holds
abbrev pub book_in : Option File → Book
book_in None = empty_book
book_in (Some f) = unwrap_or (read_book f.bytes) empty_book

-- the book of a folder
abbrev pub book_of : Files → Folder → Book
book_of files folder = book_in (file files (BookFile folder))

-- a chunk, where it is one
abbrev pub chunk_if : Bool → Key → List ℕ → Option Chunk
chunk_if ok k value = if ok then Some (record { key = k; value = value }) else None

-- the chunk of a key that was read
abbrev pub chunk_with : ℕ → Option Key → List ℕ → Option Chunk
chunk_with most None value = None
chunk_with most (Some k) value = chunk_if (has_value most k value) k value

-- the record is a chunk, of at most so many bytes
abbrev pub chunk_of : ℕ → Placed → Option Chunk
chunk_of most r = chunk_with most (read_key r.key) r.value

-- the records of a SequenceFile that are chunks
abbrev pub chunks_within : ℕ → List ℕ → List Chunk
chunks_within most bytes = filter_map (chunk_of most) (records_of bytes)

-- a SequenceFile of which each record is a chunk of at most so many bytes
pub record AllChunks (most : ℕ) (bytes : List ℕ) : Type 0 where
  pub form : IsSequenceFile bytes
  pub all : length (chunks_within most bytes) ≡ length (records_of bytes)

-- the chunks of a segment's file
abbrev pub chunks_in : Option File → List Chunk
chunks_in None = []
chunks_in (Some f) = chunks_within record_limit f.bytes

-- the chunks of a segment of a folder
abbrev pub segment_chunks : Files → Folder → Segment → List Chunk
segment_chunks files folder g = chunks_in (file files (SegmentFile folder g.number))

-- the records of the segments that a book names, in the book's order and in order of place, the aside segment left out
abbrev pub chunks_named : Files → Folder → Book → List Chunk
chunks_named files folder b = flat_map (segment_chunks files folder) b.segments

-- the chunks of one stream
abbrev pub chunks_of_stream : Stream → List Chunk → List Chunk
chunks_of_stream s chunks = filter (is_of s) chunks

-- their data, joined
abbrev pub values : List Chunk → List ℕ
values chunks = joined (map (λ c. c.value) chunks)

-- the joined values of a stream's records in a folder
abbrev pub stored : Files → Folder → Stream → List ℕ
stored files folder s = values (chunks_of_stream s (chunks_named files folder (book_of files folder)))

-- the chunks of the aside segment
abbrev pub aside_in : Files → Folder → Option Segment → List Chunk
aside_in files folder None = []
aside_in files folder (Some g) = segment_chunks files folder g
