-- The split of each stream from its last record on.
use Rattle.std.specs.Prelude.{ℕ, ◌-◌, ◌<◌, ◌≤◌, Bool, ◌&&◌, nat_lt, max, IsTrue, IsFalse, List, length, ◌++◌, take, drop, filter, flat_map, map, sum_by, bytes_eq}
use Rattle.std.specs.List.{list_any}
use Rattle.std.specs.Borrow.{Bor}
use Rattle.chk_bytes.specs.Words.{joined}
use Rattle.chk_chunk.specs.Keys.{Stream, Chunk, chunk_begin, stream_lt, is_of}
use Rattle.chk_world.specs.Books.{End, Book}
use Rattle.chk_world.specs.Jobs.{Run}
use Rattle.chk_world.specs.Sight.{Sight}
use Rattle.chk_world.specs.TrueBooks.{HasBytes}
use Rattle.chk_world.proofs.Each.{Each}
use Rattle.chk_record_index.specs.Heads.{Head}
use Rattle.chk_archive_plan.specs.Passes.{head_in}
use Rattle.chk_record_reader.specs.Courses.{is_head_of}
use Rattle.chk_record_reader.specs.declared.reader.RecordReader.{RecordReader}
use Rattle.chk_book.specs.Books.{end_in}
use Rattle.chk_archive_parts.specs.Fetching.{AreWindows}
use Rattle.chk_demux_split.specs.Splitting.{Splitting, pieces_of}
use Rattle.chk_demux.specs.Writes.{IsOutput}
use Rattle.chk_demux.specs.Giving.{IsSplitting, chunks_of_fed}
use Rattle.chk_demux.specs.declared.output.Output.{Output}

-- where the split of the end's stream goes on
abbrev pub split_from : Book → End → ℕ
split_from b e = max e.start (end_in 0 b.ends e.stream)

-- the head is of the end's stream and ends past this offset
abbrev pub ends_past : End → ℕ → Head → Bool
ends_past e from h = is_head_of e.stream h && nat_lt from h.key.seq

-- what a chunk has from this offset on
abbrev pub past_of : ℕ → Chunk → List ℕ
past_of from c = drop (from - chunk_begin c) c.value

-- the same of the stream's chunks
abbrev pub past_in : ℕ → Stream → List Chunk → List ℕ
past_in from s cs = flat_map (past_of from) (filter (is_of s) cs)

-- the stream's chunks run from some offset on up to its end in the book, and the split goes on at that offset or past it
pub record RunsSo (cs : List Chunk) (e : End) (from : ℕ) : Type 0 where
  pub bytes : Each HasBytes cs
  pub first : ℕ
  pub run : Run e.start first (filter (is_of e.stream) cs) e.end
  pub from_on : first ≤ from

-- these texts, without the borrows
abbrev pub texts : List (Bor (List ℕ)) → List (List ℕ)
texts words = map (λ t. t.now) words

-- the type is one of these
abbrev pub is_stamped : List (List ℕ) → List ℕ → Bool
is_stamped types kind = list_any (bytes_eq kind) types

-- no head's stream stands before that of an earlier one
abbrev pub StreamsRise : List Head → Type 0
StreamsRise heads =
    (i j : ℕ) → i < j → j < length heads → IsFalse (stream_lt (head_in heads j).key.stream (head_in heads i).key.stream)

-- a head of the stream stands there, and none right before it
pub record FirstStands (heads : List Head) (s : Stream) (at : ℕ) : Type 0 where
  pub there : at < length heads
  pub own : IsTrue (is_head_of s (head_in heads at))
  pub first : 0 < at → IsFalse (is_head_of s (head_in heads (at - 1)))

-- no head of the stream stands before the one place, and none from the other one on
pub record HoldsStream (heads : List Head) (s : Stream) (first end : ℕ) : Type 0 where
  pub before : (k : ℕ) → k < first → IsFalse (is_head_of s (head_in heads k))
  pub behind : (k : ℕ) → end ≤ k → k < length heads → IsFalse (is_head_of s (head_in heads k))

-- of the first chunks, so many, those of the end's stream are split
pub record SplitSoFar (v : Sight) (files : List (List ℕ)) (heads : List Head) (cs outs : List Chunk) (e : End) (from index : ℕ)
    (by_stamps : Bool) (o : Output) (r : RecordReader) (s : Splitting) (u : Sight) : Type 0 where
  pub output : IsOutput v (outs ++ chunks_of_fed heads e from by_stamps (past_in from e.stream (take index cs))) o u
  pub windows : AreWindows v files r
  pub splits : IsSplitting by_stamps (past_in from e.stream (take index cs)) s

-- the new records of a stream
abbrev pub stream_chunks : List (List ℕ) → Book → List Head → List Chunk → End → List Chunk
stream_chunks types b heads cs e =
    chunks_of_fed heads e (split_from b e) (is_stamped types e.stream.kind) (past_in (split_from b e) e.stream cs)

-- how many of its bytes are of no complete record
abbrev pub stream_left : List (List ℕ) → Book → List Chunk → End → ℕ
stream_left types b cs e =
    let bytes = past_in (split_from b e) e.stream cs in
    length bytes - length (joined (pieces_of (is_stamped types e.stream.kind) bytes))

-- each stream's chunks run
abbrev pub SplitAll : List Chunk → List End → Book → Type 0
SplitAll cs ends b = Each (λ e. RunsSo cs e (split_from b e)) ends

-- the new records of all streams, in the order of the ends
abbrev pub all_chunks : List (List ℕ) → Book → List Head → List Chunk → List End → List Chunk
all_chunks types b heads cs ends = flat_map (stream_chunks types b heads cs) ends

abbrev pub all_left : List (List ℕ) → Book → List Chunk → List End → ℕ
all_left types b cs ends = sum_by (stream_left types b cs) ends
