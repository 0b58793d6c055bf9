-- What the job may do next.
use Rattle.std.specs.Prelude.{◌≡◌, ◌⊎◌, ℕ, ◌+◌, ◌-◌, ◌≤◌, ◌<◌, Bool, false, ◌||◌, nat_eq, IsTrue, IsFalse, MatchBool, List, [], ◌∷◌, ◌++◌, length, drop, Contains, Any, Option, Some, None}
use Rattle.std.specs.List.{list_any}
use Rattle.chk_bytes.specs.Stems.{Stem, is_stem}
use Rattle.chk_site.specs.Files.{File, Files}
use Rattle.chk_site.specs.Acts.{Deed, Creates, Appends, Syncs, Renames, Removes, Cuts, Says}
use Rattle.chk_site.specs.History.{History, files_after}
use Rattle.chk_chunk.specs.Keys.{Stream, Chunk, is_of, chunk_begin, chunk_end, same_data, chunk_limit, record_limit}
use Rattle.chk_world.specs.Names.{Folder, ArchiveFolder, DemuxFolder, JoinedFolder, Name, DoneFile, BookFile, SegmentFile, read, file}
use Rattle.chk_world.specs.Books.{Segment, End, Book, read_book, book_of, AllChunks, chunks_within, chunks_named, chunks_of_stream, aside_in, values}
use Rattle.chk_world.specs.Streams.{Founding, founding, start_of}
use Rattle.chk_world.specs.Committed.{OnFile, HasFile, sink_chunks, aside_chunks, archive_of_stream, archived_end}
use Rattle.chk_world.specs.ArchiveRuns.{Listing, last_listing, IsArchiveRun, report, is_one_line, is_report}
use Rattle.chk_world.specs.Splits.{Record, split, records_named, demuxed_records}

-- the segment, where there is one
abbrev pub segment_list : Option Segment → List Segment
segment_list None = []
segment_list (Some g) = g ∷ []

-- all segments that a book names, the aside segment included
abbrev pub all_segments : Book → List Segment
all_segments b = b.segments ++ segment_list b.aside

-- the most bytes of a record in a folder's segments
abbrev pub folder_limit : Folder → ℕ
folder_limit DemuxFolder = record_limit
folder_limit folder = chunk_limit

-- the segment is there, with the stated length, all synced
pub record IsSoundSegment (folder : Folder) (g : Segment) (f : File) : Type 0 where
  pub length_is : length f.bytes ≡ g.length
  pub synced_is : f.synced ≡ g.length
  pub chunks : AllChunks (folder_limit folder) f.bytes

-- the chunks run from one offset to the other, all with this start
abbrev pub Run : ℕ → ℕ → List Chunk → ℕ → Type 0
Run start from [] to = to ≡ from
Run start from (c ∷ cs) to = (c.key.start ≡ start) × (chunk_begin c ≡ from) × Run start (chunk_end c) cs to

-- the stream of a book of this folder has begun, with this start
abbrev pub HasStart : Folder → History → End → Type 0
HasStart JoinedFolder history e = Unit {0}
HasStart folder history e = (f : Founding) × (founding history e.stream ≡ Some f) × (e.start ≡ f.line.start)

-- the book names synced segments, and says where their streams begin and end
pub record BookNamesSyncedSegments (folder : Folder) (history : History) (b : Book) : Type 0 where
  pub sound : (g : Segment) → Contains (all_segments b) g
      → HasFile (file (files_after history) (SegmentFile folder g.number)) (IsSoundSegment folder g)
  pub listed : (c : Chunk) → Contains (chunks_named (files_after history) folder b) c
      → Any (λ e. e.stream ≡ c.key.stream) b.ends
  pub ends : (e : End) → Contains b.ends e
      → Run e.start e.start (chunks_of_stream e.stream (chunks_named (files_after history) folder b)) e.end
  pub starts : (e : End) → Contains b.ends e → HasStart folder history e

-- the chunk is in a done sink or set aside
abbrev pub IsSource : Files → Chunk → Type 0
IsSource files c =
    ((x : Stem) × IsTrue (is_stem x) × Contains (sink_chunks (file files (DoneFile x))) c)
    ⊎ Contains (aside_chunks files) c

-- the part is what a source chunk of s has past the end reached so far
pub record IsPartAt (files : Files) (s : Stream) (reached : ℕ) (part : Chunk) : Type 0 where
  pub whole : Chunk
  pub source : IsSource files whole
  pub of : IsTrue (is_of s whole)
  pub begins : chunk_begin whole ≤ reached
  pub past : reached < chunk_end whole
  pub key : part.key ≡ whole.key
  pub value : part.value ≡ drop (reached - chunk_begin whole) whole.value

-- parts that go on from the end reached so far
abbrev pub AreParts : Files → Stream → ℕ → List Chunk → Type 0
AreParts files s reached [] = Unit {0}
AreParts files s reached (p ∷ parts) = IsPartAt files s reached p × AreParts files s (chunk_end p) parts

-- a stream's records in the new book: some that hold the old archive, and then parts
pub record Grows (history : History) (s : Stream) (chunks : List Chunk) : Type 0 where
  pub old : List Chunk
  pub parts : List Chunk
  pub are : chunks ≡ old ++ parts
  pub same : values old ≡ archive_of_stream (files_after history) s
  pub new : AreParts (files_after history) s (archived_end history s) parts

-- the records of a stream in the new book
abbrev pub chunks_after : History → Book → Stream → List Chunk
chunks_after history b s = chunks_of_stream s (chunks_named (files_after history) ArchiveFolder b)

-- the offset past the last byte of its new archive
abbrev pub end_after : History → Book → Stream → ℕ
end_after history b s = start_of history s + length (values (chunks_after history b s))

-- the chunks that the new book sets aside
abbrev pub aside_after : History → Book → List Chunk
aside_after history b = aside_in (files_after history) ArchiveFolder b.aside

-- the new book's archives grow by parts, and no chunk set aside is lost
pub record ArchiveGrowsByParts (history : History) (b : Book) : Type 0 where
  pub each : (s : Stream) → Grows history s (chunks_after history b s)
  pub aside_new : (c : Chunk) → Contains (aside_after history b) c → IsSource (files_after history) c
  pub aside_old : (c : Chunk) → Contains (aside_chunks (files_after history)) c
      → Any (λ d. IsTrue (same_data c d)) (aside_after history b) ⊎ (chunk_end c ≤ end_after history b c.key.stream)

-- the first list, and then others
abbrev pub Continues : List Record → List Record → Type 0
Continues old new = (more : List Record) × (new ≡ old ++ more)

-- the demultiplexed records go on, and are the first of the archive's split
pub record RecordsAreASplit (stamped : List (List ℕ)) (history : History) (b : Book) (s : Stream) : Type 0 where
  pub on : Continues (demuxed_records (files_after history) s) (records_named (files_after history) b s)
  pub are : Continues (records_named (files_after history) b s)
      (split stamped s (start_of history s) (archive_of_stream (files_after history) s))

-- what is asked of a new book of this folder
abbrev pub NewBook : List (List ℕ) → Folder → History → Book → Type 0
NewBook stamped ArchiveFolder history b =
    BookNamesSyncedSegments ArchiveFolder history b × ArchiveGrowsByParts history b
NewBook stamped DemuxFolder history b =
    BookNamesSyncedSegments DemuxFolder history b × ((s : Stream) → RecordsAreASplit stamped history b s)
NewBook stamped JoinedFolder history b = BookNamesSyncedSegments JoinedFolder history b

-- a book in the grammar
abbrev pub IsBookFile : List (List ℕ) → Folder → History → File → Type 0
IsBookFile stamped folder history f = (b : Book) × (read_book f.bytes ≡ Some b) × NewBook stamped folder history b

-- a book is published only where it is a good one
abbrev pub MayPublishBook : List (List ℕ) → History → Name → Name → Type 0
MayPublishBook stamped history old (BookFile folder) =
    OnFile (file (files_after history) old) (IsBookFile stamped folder history)
MayPublishBook stamped history old new = Unit {0}

-- the folder's book names this segment
abbrev pub is_named : Files → Name → Bool
is_named files (SegmentFile folder n) = list_any (λ g. nat_eq g.number n) (all_segments (book_of files folder))
is_named files n = false

-- the call changes a segment that a book names
abbrev pub touches_named : Files → Deed → Bool
touches_named files (Creates w) = is_named files (read w)
touches_named files (Appends w piece) = is_named files (read w)
touches_named files (Syncs w) = is_named files (read w)
touches_named files (Renames old new) = is_named files (read old) || is_named files (read new)
touches_named files (Removes w) = is_named files (read w)
touches_named files (Cuts w n) = is_named files (read w)
touches_named files call = false

-- each chunk of the done sink is archived, or is set aside
abbrev pub IsSaved : History → File → Type 0
IsSaved history f =
    (c : Chunk) → Contains (chunks_within chunk_limit f.bytes) c
    → (chunk_end c ≤ archived_end history c.key.stream)
    ⊎ Any (λ d. IsTrue (same_data c d)) (aside_chunks (files_after history))

-- a done sink is removed only where each of its chunks is saved
abbrev pub OnlyArchivedSinksRemoved : History → Name → Type 0
OnlyArchivedSinksRemoved history (DoneFile x) = OnFile (file (files_after history) (DoneFile x)) (IsSaved history)
OnlyArchivedSinksRemoved history n = Unit {0}

-- the run that began with this listing had these numbers
abbrev pub RanSo : History → Option Listing → ℕ → ℕ → ℕ → ℕ → Type 0
RanSo history None unclosed taken held removed = ⊥
RanSo history (Some l) unclosed taken held removed = IsArchiveRun history l unclosed taken held removed

-- the text is the report of the run that began with the job's last listing
pub record TrueReport (history : History) (text : List ℕ) : Type 0 where
  pub unclosed : ℕ
  pub taken : ℕ
  pub held : ℕ
  pub removed : ℕ
  pub is : text ≡ report unclosed taken held removed
  pub ran : RanSo history (last_listing history) unclosed taken held removed

-- the job prints whole lines, one at a time; one that begins as a report is a true one
abbrev pub ReportIsTrue : History → List ℕ → Type 0
ReportIsTrue history text = IsTrue (is_one_line text) × MatchBool (is_report text) (TrueReport history text) (Unit {0})

-- what each kind of call of the job owes
abbrev pub JobCall : List (List ℕ) → History → Deed → Type 0
JobCall stamped history (Renames old new) = MayPublishBook stamped history (read old) (read new)
JobCall stamped history (Removes w) = OnlyArchivedSinksRemoved history (read w)
JobCall stamped history (Says text) = ReportIsTrue history text
JobCall stamped history call = Unit {0}

-- what the job may do next
abbrev pub JobRule : List (List ℕ) → History → Deed → Type 0
JobRule stamped history call = IsFalse (touches_named (files_after history) call) × JobCall stamped history call
