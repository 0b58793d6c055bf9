-- What a merge of a folder's segments gives.
use Rattle.std.specs.Prelude.{◌≡◌, ℕ, ◌+◌, List, [], ◌∷◌, length, map, take, bytes_eq, false, Contains, Some, None, Result, Ok, Err}
use Rattle.chk_site.specs.Files.{File, Files}
use Rattle.chk_site.specs.History.{Step, History, files_after}
use Rattle.chk_chunk.specs.Keys.{Stream, Key, Chunk}
use Rattle.chk_world.specs.Books.{Book, AllChunks, chunks_within, chunks_of_stream}
use Rattle.chk_world.specs.JobSteps.{SparesFile}
use Rattle.chk_world.proofs.Each.{Each}
use Rattle.chk_record_index.specs.Heads.{Head}
use Rattle.chk_record_index.specs.Order.{in_head_order}
use Rattle.chk_record_index.specs.declared.fault.JobFault.{JobFault}
use Rattle.chk_record_index.specs.declared.fault.JobFault.TheVariants.{Damaged}
use Rattle.chk_book.specs.Folders.{segment_name, most_in}
use Rattle.chk_record_reader.specs.Segments.{names_of, HasFiles, SparesFiles, IsSound, heads_from, chunks_in_files}
use Rattle.chk_record_reader.specs.Checking.{AllGoWell}
use Rattle.chk_book.specs.Segmenting.{Writing, HoldsSegment, all_bytes, IsSegmentOf, IsFinished, segment_of, with_segment}
use Rattle.chk_record_reader.specs.declared.reader.RecordReader.{RecordReader}
use Rattle.chk_record_reader.specs.ReadBack.{value_held}
use Rattle.chk_record_reader.specs.Archives.{IsKnown, CanReadAll, value_in, chunk_in, IsDamagedAt}

-- at Ok the segments are sound, all streams' records run as the book says, and these are the heads, in order; damage is of
-- some stream
abbrev pub SoundHeads : List ℕ → Book → Files → Result (List Head) JobFault → History → Type 0
SoundHeads folder b held (Ok heads) history =
    HasFiles (names_of folder b) held history
    × Each (IsSound (most_in folder) held) (names_of folder b)
    × AllGoWell b.ends (heads_from (most_in folder) held 0 (names_of folder b))
    × (heads ≡ in_head_order (heads_from (most_in folder) held 0 (names_of folder b)))
SoundHeads folder b held (Err (Damaged name at)) history = (s : Stream) × IsDamagedAt folder b held s name at
SoundHeads folder b held (Err fault) history = Unit {0}

-- the merged segment's file is whole and synced, and has all records of the named ones: each stream's in its order, and one stream
-- behind the other, in byte order as the book has them; the named ones are of chunks, and all streams' records run as the book says,
-- so that nothing was damaged. The book names the segment alone, and has the ends and the aside segment that it had.
pub record MergedInto (folder : List ℕ) (old new : Book) (held : Files) (history : History) : Type 0 where
  pub f : File
  pub there : files_after history (segment_name folder old.next) ≡ Some f
  pub synced : f.synced ≡ length f.bytes
  pub sound : AllChunks (most_in folder) f.bytes
  pub same : (s : Stream) → chunks_of_stream s (chunks_within (most_in folder) f.bytes)
      ≡ chunks_of_stream s (chunks_in_files (most_in folder) held (names_of folder old))
  pub in_turn : chunks_within (most_in folder) f.bytes
      ≡ map (chunk_in (names_of folder old) held) (in_head_order (heads_from (most_in folder) held 0 (names_of folder old)))
  pub whole : Each (IsSound (most_in folder) held) (names_of folder old)
  pub well : AllGoWell old.ends (heads_from (most_in folder) held 0 (names_of folder old))
  pub next : new.next ≡ old.next + 1
  pub alone : new.segments ≡ record { number = old.next; length = length f.bytes } ∷ []
  pub ends : new.ends ≡ old.ends
  pub aside : new.aside ≡ old.aside

-- a step of others leaves these files, and the segment under writing
abbrev pub SparesBoth : List (List ℕ) → List ℕ → History → Step → Type 0
SparesBoth names segment before step = SparesFiles names before step × SparesFile segment before step

-- the segment isn't one of the files
abbrev pub AreApart : List (List ℕ) → List ℕ → Type 0
AreApart names segment = (v : List ℕ) → Contains names v → bytes_eq v segment ≡ false

-- the records of so many heads are written
pub record CanWrite (most : ℕ) (names : List (List ℕ)) (held : Files) (heads : List Head) (r : RecordReader) (w : Writing) (index : ℕ)
    (history : History) : Type 0 where
  pub read : CanReadAll most names held heads r history
  pub holds : HoldsSegment w history
  pub chunks : w.chunks ≡ map (chunk_in names held) (take index heads)

-- the chunk of a head and the value that the reader holds
abbrev pub chunk_read : Head → RecordReader → Chunk
chunk_read h r = record { key = h.key; value = value_held r }

-- at Ok one more is written
abbrev pub WroteOne : ℕ → List (List ℕ) → Files → List Head → RecordReader → Writing → ℕ → Result (Unit {0}) JobFault → History → Type 0
WroteOne most names held heads r w index (Ok value) history = CanWrite most names held heads r w (index + 1) history
WroteOne most names held heads r w index (Err (Damaged name at)) history = ⊥
WroteOne most names held heads r w index (Err fault) history = Unit {0}

-- the record is fetched, beside the segment under writing
abbrev pub FetchedBeside : ℕ → List (List ℕ) → Files → List Head → Head → RecordReader → Writing → ℕ → Result (Unit {0}) JobFault → History → Type 0
FetchedBeside most names held heads h r w index (Ok value) history =
    CanWrite most names held heads r w index history × (value_held r ≡ value_in names held h)
FetchedBeside most names held heads h r w index (Err (Damaged name at)) history = ⊥
FetchedBeside most names held heads h r w index (Err fault) history = Unit {0}

-- the chunk of a key and a value
abbrev pub chunk_with : Key → List ℕ → Chunk
chunk_with k value = record { key = k; value = value }

-- before the merged segment is begun
abbrev pub CanBegin : ℕ → List (List ℕ) → Files → List Head → History → Type 0
CanBegin most names held heads history = HasFiles names held history × Each (IsKnown most names held) heads

-- a book that names no segment
abbrev pub bare_book : ℕ → Book
bare_book next = record { next = next; segments = []; ends = []; aside = None }

-- the segment has the chunks of these heads, whole and synced, and the book names it
pub record IsMergedSegment (folder : List ℕ) (next : ℕ) (names : List (List ℕ)) (held : Files) (heads : List Head) (b : Book) (w : Writing)
    (history : History) : Type 0 where
  pub folder_is : w.folder ≡ folder
  pub number_is : w.number ≡ next
  pub chunks_are : w.chunks ≡ map (chunk_in names held) heads
  pub form : IsSegmentOf (most_in folder) (all_bytes w) w.chunks
  pub finished : IsFinished w history
  pub book_is : b ≡ with_segment (bare_book next) (segment_of w) w.chunks

abbrev pub WroteMerged : List ℕ → ℕ → List (List ℕ) → Files → List Head → Result Book JobFault → History → Type 0
WroteMerged folder next names held heads (Ok b) history =
    HasFiles names held history × ((w : Writing) × IsMergedSegment folder next names held heads b w history)
WroteMerged folder next names held heads (Err (Damaged name at)) history = ⊥
WroteMerged folder next names held heads (Err fault) history = Unit {0}

-- a book that was written, by how the writing went
abbrev pub merged_result : Book → Result (Unit {0}) JobFault → Result Book JobFault
merged_result b (Ok value) = Ok b
merged_result b (Err fault) = Err fault

-- after a merge: at Ok the segments are as they were; else the book is as before, and damage is of some stream
abbrev pub HasMerged : List ℕ → Book → Book → Files → Result (Unit {0}) JobFault → History → Type 0
HasMerged folder old new held (Ok value) history = HasFiles (names_of folder old) held history × MergedInto folder old new held history
HasMerged folder old new held (Err (Damaged name at)) history = (new ≡ old) × ((s : Stream) × IsDamagedAt folder old held s name at)
HasMerged folder old new held (Err fault) history = new ≡ old
