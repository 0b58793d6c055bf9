-- Archives in folders, and what a join of two of them leaves.
use Rattle.std.specs.Prelude.{◌≡◌, ◌⊎◌, ℕ, ◌+◌, ◌-◌, ◌^◌, min, nat_lt, List, [], ◌∷◌, ◌++◌, length}
use Rattle.std.specs.Prelude.{codes, Bool, ◌&&◌, not, bytes_eq, IsTrue, Option, Some, None, Result}
use Rattle.std.specs.Prelude.{Ok, Err, if◌then◌else◌}
use Rattle.chk_bytes.specs.Numbers.{last_number}
use Rattle.chk_site.specs.Files.{File, Files}
use Rattle.chk_site.specs.History.{Step, History, files_after}
use Rattle.chk_site.specs.Honest.{in_folder}
use Rattle.chk_replace.specs.Load.{Has}
use Rattle.chk_replace.specs.Replace.{LeavesFile}
use Rattle.chk_chunk.specs.Keys.{Stream, Chunk, stream_lt}
use Rattle.chk_world.specs.Books.{Segment, End, Book, read_book, book_in, chunks_of_stream, values}
use Rattle.chk_world.proofs.Each.{Each}
use Rattle.chk_record_index.specs.declared.fault.JobFault.TheVariants.{Outside, Damaged, Spent}
use Rattle.chk_book.specs.Folders.{book_name, most_in, is_folder}
use Rattle.chk_book.specs.Loaded.{IsBookOf, IsNoBookAt, file_bytes}
use Rattle.chk_record_reader.specs.Segments.{names_of, HasFiles, IsSound, heads_from, chunks_in_files}
use Rattle.chk_record_reader.specs.Courses.{end_of}
use Rattle.chk_record_reader.specs.Checking.{AllGoWell}
use Rattle.chk_record_reader.specs.Archives.{IsDamagedAt}
use Rattle.chk_join_sources.specs.Differences.{first_difference}
use Rattle.chk_join.specs.Archives.{Archived, Archive, join, AgreeAt, Agree}
use Rattle.chk_join.specs.Runs.{bytes_of, AreRuns}
use Rattle.chk_join.specs.declared.report.JoinReport.{JoinReport}
use Rattle.chk_join.specs.declared.fault.JoinFault.{JoinFault}
use Rattle.chk_join.specs.declared.fault.JoinFault.TheVariants.{Job, Differ, NoMemory}

-- ---- the archive in a folder

-- what these chunks have of a stream that ends so
abbrev pub archived_with : Stream → List Chunk → Option End → Option Archived
archived_with s cs None = None
archived_with s cs (Some e) = Some (record { start = e.start; bytes = values (chunks_of_stream s cs) })

-- what they have of each stream of the book
abbrev pub archive_with : Book → List Chunk → Archive
archive_with b cs s = archived_with s cs (end_of s b.ends)

-- the records of the segments that the folder's book names, the aside segment left out
abbrev pub records_of_book : List ℕ → Book → Files → List Chunk
records_of_book folder b files = chunks_in_files (most_in folder) files (names_of folder b)

-- the archive that the book of a folder has in these files
abbrev pub archive_by : List ℕ → Book → Files → Archive
archive_by folder b files = archive_with b (records_of_book folder b files)

abbrev pub folder_book : Files → List ℕ → Book
folder_book files folder = book_in (files (book_name folder))

-- what the folder has of each stream of its book
abbrev pub archive_in : Files → List ℕ → Archive
archive_in files folder = archive_by folder (folder_book files folder) files

-- all records of a folder, in the order of its book
abbrev pub records_in : Files → List ℕ → List Chunk
records_in files folder = records_of_book folder (folder_book files folder) files

-- The records of a stream that the join of two archives has, which have these ones of it: those of
-- the archive with more bytes, of the first one where both have as many, and none where neither
-- has the stream.
abbrev pub records_by : Option Archived → Option Archived → List Chunk → List Chunk → List Chunk
records_by None None xs ys = []
records_by None (Some b) xs ys = ys
records_by (Some a) None xs ys = xs
records_by (Some a) (Some b) xs ys = if nat_lt (length a.bytes) (length b.bytes) then ys else xs

-- these records of the joined archive are just those, stream by stream
abbrev pub AreJoined : Archive → Archive → List Chunk → List Chunk → List Chunk → Type 0
AreJoined a b xs ys cs =
    (s : Stream) → chunks_of_stream s cs ≡ records_by (a s) (b s) (chunks_of_stream s xs)
    (chunks_of_stream s ys)

-- ---- what is read

abbrev pub joined_folder : List ℕ
joined_folder = codes "joined"

-- a folder whose archive can be joined
abbrev pub can_join : List ℕ → Bool
can_join folder = is_folder folder && (not (bytes_eq folder joined_folder) && not (bytes_eq folder (codes "demux")))

-- the files that hold an archive
abbrev pub archive_files : Files → List ℕ → List (List ℕ)
archive_files files folder = book_name folder ∷ names_of folder (folder_book files folder)

-- the files that a join reads
abbrev pub reads_of : Files → List ℕ → List ℕ → List (List ℕ)
reads_of files left right = book_name joined_folder ∷ archive_files files left ++ archive_files files right

-- a file of one of the three folders
pub data IsOfFolders (left right : List ℕ) : List ℕ → Type 0 where
  of_joined : (name : List ℕ) → IsOfFolders left right (in_folder joined_folder name)
  of_left : (name : List ℕ) → IsOfFolders left right (in_folder left name)
  of_right : (name : List ℕ) → IsOfFolders left right (in_folder right name)

-- the step touches no such file, and is no stop that leaves a tail of one
abbrev pub LeavesFolders : List ℕ → List ℕ → History → Step → Type 0
LeavesFolders left right before step = (w : List ℕ) → IsOfFolders left right w → LeavesFile w before step

-- the segments that the book names are of chunks, and the records of all streams run as it says
pub record RunsAll (folder : List ℕ) (b : Book) (files : Files) : Type 0 where
  pub sound : Each (IsSound (most_in folder) files) (names_of folder b)
  pub well : AllGoWell b.ends (heads_from (most_in folder) files 0 (names_of folder b))

-- the folder has a book, and all its records run as it says
pub record ReadsWell (files : Files) (folder : List ℕ) : Type 0 where
  pub book : IsBookOf (file_bytes (files (book_name folder))) (folder_book files folder)
  pub runs : RunsAll folder (folder_book files folder) files

pub record AllReadWell (files : Files) (left right : List ℕ) : Type 0 where
  pub book : IsBookOf (file_bytes (files (book_name joined_folder))) (folder_book files joined_folder)
  pub first : ReadsWell files left
  pub second : ReadsWell files right

-- what is wrong, and where: one of the books, or the records that the left or the right one names
pub data IsDamagedIn (files : Files) (left right name : List ℕ) (at : ℕ) : Type 0 where
  no_book : (folder : List ℕ) → (folder ≡ joined_folder) ⊎ ((folder ≡ left) ⊎ (folder ≡ right)) → name ≡ book_name folder
      → IsNoBookAt (file_bytes (files (book_name folder))) at → IsDamagedIn files left right name at
  bad_records : (folder : List ℕ) → (folder ≡ left) ⊎ (folder ≡ right) → (s : Stream)
      → IsDamagedAt folder (folder_book files folder) files s name at → IsDamagedIn files left right name at

-- ---- where both differ

-- at the lesser start, or at the first offset at which their bytes differ
abbrev pub DiffersAt : Option Archived → Option Archived → ℕ → Type 0
DiffersAt None b at = ⊥
DiffersAt (Some a) None at = ⊥
DiffersAt (Some a) (Some b) at =
    ((a.start ≡ b.start → ⊥) × (at ≡ min a.start b.start))
    ⊎ ((a.start ≡ b.start) × ((k : ℕ) × ((first_difference a.bytes b.bytes ≡ Some k) × (at ≡ a.start + k))))

-- this stream differs there, and each one before it in byte order agrees
pub record FirstDiffers (a b : Archive) (s : Stream) (at : ℕ) : Type 0 where
  pub there : DiffersAt (a s) (b s) at
  pub first : (t : Stream) → IsTrue (stream_lt t s) → AgreeAt (a t) (b t)

-- ---- what stands behind a join

-- A book whose next number was this one names one segment of this number, and no other; or none, and the number is the same.
abbrev pub NamesAlone : ℕ → Book → Type 0
NamesAlone next b =
    (b.aside ≡ None)
    × (((b.segments ≡ []) × (b.next ≡ next))
    ⊎ ((g : Segment) × ((b.segments ≡ g ∷ []) × ((g.number ≡ next) × (b.next ≡ next + 1)))))

-- The archive is the join of both, which agree; the report is of it. The file of its book holds one, which names one new segment
-- alone, or none. Its records are copied unchanged from the archive that has more of their stream,
-- one stream behind the other in the book's order.
pub record JoinDone (files : Files) (left right : List ℕ) (r : JoinReport) (history : History) : Type 0 where
  pub file : File
  pub there : files_after history (book_name joined_folder) ≡ Some file
  pub book : read_book file.bytes ≡ Some (folder_book (files_after history) joined_folder)
  pub alone : NamesAlone (folder_book files joined_folder).next (folder_book (files_after history) joined_folder)
  pub agree : Agree (archive_in files left) (archive_in files right)
  pub is : (s : Stream) → archive_in (files_after history) joined_folder s
      ≡ join (archive_in files left) (archive_in files right) s
  pub records : AreJoined (archive_in files left) (archive_in files right) (records_in files left)
      (records_in files right)
      (records_in (files_after history) joined_folder)
  pub order : AreRuns (folder_book (files_after history) joined_folder).ends
      (records_in (files_after history) joined_folder)
  pub streams : r.streams ≡ length (folder_book (files_after history) joined_folder).ends
  pub bytes : r.bytes
      ≡ bytes_of (records_of_book joined_folder (folder_book (files_after history) joined_folder) (files_after history))

-- by the answer
abbrev pub Joined : Files → List ℕ → List ℕ → Result JoinReport JoinFault → History → Type 0
Joined files left right (Ok r) history = AllReadWell files left right × JoinDone files left right r history
Joined files left right (Err (Differ source kind name at)) history =
    AllReadWell files left right
    × FirstDiffers (archive_in files left) (archive_in files right) (record { source = source; kind = kind; name = name }) at
Joined files left right (Err (Job (Damaged name at))) history = IsDamagedIn files left right name at
Joined files left right (Err (Job (Spent n))) history =
    AllReadWell files left right × Agree (archive_in files left) (archive_in files right)
    × (n ≡ last_number) × ((folder_book files joined_folder).next ≡ last_number)
    × ((s : Stream) × (join (archive_in files left) (archive_in files right) s ≡ None → ⊥))
Joined files left right (Err fault) history = Unit {0}

abbrev pub OldOrDone : Files → List ℕ → List ℕ → History → Type 0
OldOrDone files left right history =
    Has (book_name joined_folder) (files (book_name joined_folder)) history
    ⊎ ((r : JoinReport) × JoinDone files left right r history)

-- both archives are as they were; so is the book of `joined`, but that behind a failed publishing it may be the new one
abbrev pub BookKept : Files → List ℕ → List ℕ → Result JoinReport JoinFault → History → Type 0
BookKept files left right (Ok r) history = Unit {0}
BookKept files left right (Err (Differ source kind name at)) history =
    Has (book_name joined_folder) (files (book_name joined_folder)) history
BookKept files left right (Err (Job (Outside call))) history = OldOrDone files left right history
BookKept files left right (Err (Job fault)) history =
    Has (book_name joined_folder) (files (book_name joined_folder)) history
BookKept files left right (Err NoMemory) history = OldOrDone files left right history

abbrev pub Kept : Files → List ℕ → List ℕ → Result JoinReport JoinFault → History → Type 0
Kept files left right result history =
    HasFiles (archive_files files left) files history
    × (HasFiles (archive_files files right) files history × BookKept files left right result history)
