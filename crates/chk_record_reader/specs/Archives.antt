-- What is read of one stream's records in a folder's named segments.
use Rattle.std.specs.Prelude.{◌≡◌, ◌⊎◌, ◌<◌, Contains, ℕ, ◌+◌, ◌*◌, Bool, List, [], ◌∷◌, length, take, flat_map, slice_index_or, Option, Some, None, Result, Ok, Err, if◌then◌else◌}
use Rattle.chk_site.specs.Files.{File, Files}
use Rattle.chk_site.specs.History.{History}
use Rattle.chk_chunk.specs.Keys.{Stream, Chunk}
use Rattle.chk_world.specs.Books.{End, Book, chunks_of_stream, values, end_bytes, has_starts, written_version}
use Rattle.chk_world.specs.Jobs.{Run}
use Rattle.chk_world.proofs.Each.{Each}
use Rattle.chk_record_index.specs.Heads.{Head, heads_in}
use Rattle.chk_record_index.specs.Pieces.{bytes_in}
use Rattle.chk_record_index.specs.declared.fault.JobFault.{JobFault}
use Rattle.chk_record_index.specs.declared.fault.JobFault.TheVariants.{Damaged, NoMemory}
use Rattle.chk_book.specs.Folders.{book_name, most_in}
use Rattle.chk_record_reader.specs.declared.reader.RecordReader.{RecordReader}
use Rattle.chk_record_reader.specs.ReadBack.{value_at, value_held, IsWindowOf}
use Rattle.chk_record_reader.specs.Segments.{names_of, HasFiles, IsSound, heads_from, chunks_in_files, IsBadFile}
use Rattle.chk_record_reader.specs.Courses.{is_head_of, is_end_of, end_of, break_by, reaches}

-- the file of this number among the names
abbrev pub file_at : List (List ℕ) → Files → ℕ → Option File
file_at names held number = held (slice_index_or names number [])

-- a window of any of the files is true
abbrev pub AreWindows : List (List ℕ) → Files → RecordReader → Type 0
AreWindows names held r = (number : ℕ) → IsWindowOf number (file_at names held number) r

-- the head is one of those of its file's records
pub record IsKnown (most : ℕ) (names : List (List ℕ)) (held : Files) (h : Head) : Type 0 where
  pub file : h.file < length names
  pub known : Contains (heads_in most h.file (bytes_in (file_at names held h.file))) h

-- before a fetch: the files are these, the heads are some of those of their records, and the window is
-- true
pub record CanReadAll (most : ℕ) (names : List (List ℕ)) (held : Files) (heads : List Head)
    (r : RecordReader) (history : History) : Type 0 where
  pub files : HasFiles names held history
  pub known : Each (IsKnown most names held) heads
  pub windows : AreWindows names held r

-- the value of a head's record
abbrev pub value_in : List (List ℕ) → Files → Head → List ℕ
value_in names held h = value_at h.at (bytes_in (file_at names held h.file))

-- at Ok the value is that of the head's record, and the rest is as before; it is never damaged
abbrev pub HasReadAll : ℕ → List (List ℕ) → Files → List Head → Head → RecordReader → Result (Unit
    {0}) JobFault → History → Type 0
HasReadAll most names held heads h r (Ok value) history =
    CanReadAll most names held heads r history × (value_held r ≡ value_in names held h)
HasReadAll most names held heads h r (Err (Damaged name at)) history = ⊥
HasReadAll most names held heads h r (Err fault) history = Unit {0}

-- the chunk for which a head stands
abbrev pub chunk_in : List (List ℕ) → Files → Head → Chunk
chunk_in names held h = record { key = h.key; value = value_in names held h }

-- the values of the stream's records, joined
abbrev pub values_in : Stream → List (List ℕ) → Files → List Head → List ℕ
values_in s names held heads = flat_map (λ h. if is_head_of s h then value_in names held h else [])
    heads

-- before the values are joined, and after it
pub record CanJoin (most : ℕ) (names : List (List ℕ)) (held : Files) (heads : List Head)
    (history : History) : Type 0 where
  pub files : HasFiles names held history
  pub are : heads ≡ heads_from most held 0 names

abbrev pub HasJoined : Stream → List (List ℕ) → Files → List Head → Result (List ℕ) JobFault
    → History → Type 0
HasJoined s names held heads (Ok bytes) history = HasFiles names held history × (bytes
    ≡ values_in s names held heads)
HasJoined s names held heads (Err (Damaged name at)) history = ⊥
HasJoined s names held heads (Err fault) history = Unit {0}

-- the values so far: those of the stream's records among the first heads
abbrev pub HasSoFar : Stream → ℕ → List (List ℕ) → Files → List Head → RecordReader → List ℕ → ℕ
    → History → Type 0
HasSoFar s most names held heads r bytes index history =
    CanReadAll most names held heads r history × (bytes ≡ values_in s names held
    (take index heads))

-- at Ok the head's value is there too, where it is one of the stream
abbrev pub JoinedOne : Stream → ℕ → List (List ℕ) → Files → List Head → RecordReader → List ℕ → ℕ
    → Result (Unit {0}) JobFault → History → Type 0
JoinedOne s most names held heads r bytes index (Ok value) history = HasSoFar s most names held
    heads r bytes (index + 1) history
JoinedOne s most names held heads r bytes index (Err (Damaged name at)) history = ⊥
JoinedOne s most names held heads r bytes index (Err fault) history = Unit {0}

-- where the stream's end stands in the bytes of a book, the streams beginning at this place
abbrev pub end_place : Bool → Stream → ℕ → List End → ℕ
end_place starts s place [] = place
end_place starts s place (e ∷ es) =
    if is_end_of s e then (if starts then place + 8 else place) else end_place starts s
    (place + length (end_bytes starts e)) es

-- in a book as it is written
abbrev pub place_in_book : Book → Stream → ℕ
place_in_book b s = end_place (has_starts (written_version b)) s
    (21 + 16 * length b.segments) b.ends

-- the records run from the stream's start in the book to its end there; a stream that isn't in the
-- book has none
abbrev pub RunsSo : Option End → List Chunk → Type 0
RunsSo None cs = cs ≡ []
RunsSo (Some e) cs = Run e.start e.start cs e.end

-- a record that doesn't go on, and where it stands
pub record IsBroken (names : List (List ℕ)) (broken : Option Head) (name : List ℕ)
    (at : ℕ) : Type 0 where
  pub head : Head
  pub is : broken ≡ Some head
  pub of : name ≡ slice_index_or names head.file []
  pub place : at ≡ head.at

-- why a stream's records aren't as the book says, and where: a segment isn't of chunks; a record
-- doesn't go on from the earlier
-- ones; the end isn't reached
pub data IsDamagedAt (folder : List ℕ) (b : Book) (held : Files) (s : Stream) (name : List ℕ)
    (at : ℕ) : Type 0 where
  bad_segment : IsBadFile (most_in folder) held (names_of folder b) name at
      → IsDamagedAt folder b held s name at
  broken : Each (IsSound (most_in folder) held) (names_of folder b)
      → IsBroken (names_of folder b) (break_by s (end_of s b.ends) (heads_from
      (most_in folder) held 0 (names_of folder b))) name at
      → IsDamagedAt folder b held s name at
  unreached : Each (IsSound (most_in folder) held) (names_of folder b)
      → break_by s (end_of s b.ends) (heads_from (most_in folder) held 0 (names_of folder b))
      ≡ None
      → (reaches s (end_of s b.ends) (heads_from (most_in folder) held 0 (names_of folder b)) → ⊥)
      → name ≡ book_name folder → at ≡ place_in_book b s → IsDamagedAt folder b held s name at

-- at Ok these are the values of the stream's records, which run as the book says, and the segments
-- are as they were
abbrev pub ReadArchive : List ℕ → Book → Files → Stream → Result (List ℕ) JobFault → History
    → Type 0
ReadArchive folder b held s (Ok bytes) history =
    HasFiles (names_of folder b) held history
    × Each (IsSound (most_in folder) held) (names_of folder b)
    × RunsSo (end_of s b.ends) (chunks_of_stream s (chunks_in_files (most_in folder) held
    (names_of folder b)))
    × (bytes ≡ values (chunks_of_stream s (chunks_in_files (most_in folder) held
    (names_of folder b))))
ReadArchive folder b held s (Err (Damaged name at)) history = IsDamagedAt folder b held s name at
ReadArchive folder b held s (Err fault) history = Unit {0}

-- what is wrong with the streams' records is told of these files
abbrev pub ToldBreak : List ℕ → Book → List (List ℕ) → Stream → List Head → JobFault → Type 0
ToldBreak folder b names s heads (Damaged name at) =
    IsBroken names (break_by s (end_of s b.ends) heads) name at
    ⊎ ((break_by s (end_of s b.ends) heads ≡ None) × (reaches s (end_of s b.ends) heads → ⊥) ×
    (name ≡ book_name folder) × (at ≡ place_in_book b s))
ToldBreak folder b names s heads NoMemory = Unit {0}
ToldBreak folder b names s heads fault = ⊥

-- the fault of a record that doesn't go on
abbrev pub IsHeadFault : List (List ℕ) → Head → JobFault → Type 0
IsHeadFault names h (Damaged name at) = (name ≡ slice_index_or names h.file []) × (at ≡ h.at)
IsHeadFault names h NoMemory = Unit {0}
IsHeadFault names h fault = ⊥

-- the fault of an end that isn't reached
abbrev pub IsEndFault : List ℕ → Book → Stream → JobFault → Type 0
IsEndFault folder b s (Damaged name at) = (name ≡ book_name folder) × (at ≡ place_in_book b s)
IsEndFault folder b s NoMemory = Unit {0}
IsEndFault folder b s fault = ⊥
