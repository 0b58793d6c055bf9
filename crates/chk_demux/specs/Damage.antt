-- Where a demux run finds the files that it reads damaged.
use Rattle.std.specs.Prelude.{◌≡◌, ℕ, List, ◌∷◌, drop, codes, Contains, IsTrue, Result, Ok, Err}
use Rattle.chk_bytes.specs.Stems.{is_count}
use Rattle.chk_site.specs.Files.{Files}
use Rattle.chk_site.specs.History.{History}
use Rattle.chk_chunk.specs.Keys.{Stream}
use Rattle.chk_world.specs.Books.{Segment, Book, book_in}
use Rattle.chk_world.specs.Sight.{Sight}
use Rattle.chk_record_index.specs.Heads.{Head}
use Rattle.chk_record_index.specs.declared.fault.JobFault.{JobFault}
use Rattle.chk_record_index.specs.declared.fault.JobFault.TheVariants.{Damaged, Spent}
use Rattle.chk_book.specs.Books.{book_view}
use Rattle.chk_book.specs.Folders.{book_name}
use Rattle.chk_book.specs.Loaded.{IsBookOf, IsNoBookAt, file_bytes}
use Rattle.chk_record_reader.specs.Segments.{names_of, HasFiles}
use Rattle.chk_record_reader.specs.Archives.{IsDamagedAt}
use Rattle.chk_record_reader.specs.declared.reader.RecordReader.{RecordReader}
use Rattle.chk_archive_parts.specs.Gathering.{held}
use Rattle.chk_archive_parts.specs.Fetching.{AreWindows}
use Rattle.chk_archive_parts.specs.Records.{file_at}
use Rattle.chk_demux.specs.Shown.{PutsIf}
use Rattle.chk_demux.specs.Due.{IsDueFrom, IsDueIn}
use Rattle.chk_demux.specs.Enough.{RunsFrom}
use Rattle.chk_demux.specs.declared.beginning.Books.{Books}

-- the files of the two books
abbrev pub archive_name : List ℕ
archive_name = book_name (codes "archive")

abbrev pub demux_name : List ℕ
demux_name = book_name (codes "demux")

-- the archive's book in these files
abbrev pub archive_book : Files → Book
archive_book files = book_in (files archive_name)

-- both books, and these files
abbrev pub with_books : List (List ℕ) → List (List ℕ)
with_books names = archive_name ∷ demux_name ∷ names

-- the files that a run reads: both books, and the segments that the archive's book names
abbrev pub reads_of : Files → List (List ℕ)
reads_of files = with_books (names_of (codes "archive") (archive_book files))

-- of these both books, and the segments from this one on
abbrev pub reads_from : Files → ℕ → List (List ℕ)
reads_from files k = with_books (drop k (names_of (codes "archive") (archive_book files)))

-- the files are two books, and the newest segments, of which those from this one on suffice, are
-- of chunks, whose records run as the archive's book says
pub record ReadsWell (files : Files) : Type 0 where
  pub archive : IsBookOf (file_bytes (files archive_name)) (archive_book files)
  pub demux : IsBookOf (file_bytes (files demux_name)) (book_in (files demux_name))
  pub first : ℕ
  pub runs : RunsFrom (archive_book files) (book_in (files demux_name)) files first

-- one of the two books is none, and where
pub data IsNoBookIn (files : Files) (name : List ℕ) (at : ℕ) : Type 0 where
  no_archive_book : name ≡ archive_name → IsNoBookAt (file_bytes (files archive_name)) at
      → IsNoBookIn files name at
  no_demux_book : name ≡ demux_name → IsNoBookAt (file_bytes (files demux_name)) at
      → IsNoBookIn files name at

-- what is wrong, and where: a file is no book; a segment isn't of chunks, a record doesn't go on from the earlier ones of its
-- stream, or its stream's end isn't reached
pub data IsDamagedIn (files : Files) (name : List ℕ) (at : ℕ) : Type 0 where
  no_book : IsNoBookIn files name at → IsDamagedIn files name at
  bad_records : (s : Stream) → IsDamagedAt (codes "archive") (archive_book files) files s name at → IsDamagedIn files name at

-- after the loads: at Ok these are the files' books, and both and these files are as they were
pub record AreBooks (names : List (List ℕ)) (files : Files) (b : Books)
    (history : History) : Type 0 where
  pub same : HasFiles (with_books names) files history
  pub is : book_view b.archive ≡ archive_book files
  pub records : book_view b.demux ≡ book_in (files demux_name)
  pub archive : IsBookOf (file_bytes (files archive_name)) (archive_book files)
  pub demux : IsBookOf (file_bytes (files demux_name)) (book_in (files demux_name))

abbrev pub LoadedBooks : List (List ℕ) → Files → Result Books JobFault → History → Type 0
LoadedBooks names files (Ok b) history = AreBooks names files b history
LoadedBooks names files (Err (Damaged name at)) history = IsNoBookIn files name at
LoadedBooks names files (Err fault) history = Unit {0}

-- of files that suffice nothing is told to be damaged, but for a book
abbrev pub BooksAlone : {T : Type 0} → Files → Result T JobFault → History → Type 0
BooksAlone files (Ok value) history = Unit {0}
BooksAlone files (Err (Damaged name at)) history = IsNoBookIn files name at
BooksAlone files (Err fault) history = Unit {0}

-- each number of a segment is one
abbrev pub HasCounts : Book → Type 0
HasCounts b = (g : Segment) → Contains b.segments g → IsTrue (is_count g.number)

-- these of the files are as they were, and the reader's windows are true
abbrev pub AreRead : Sight → List (List ℕ) → List (List ℕ) → RecordReader → History → Type 0
AreRead v new files r history = HasFiles new (held v) history × AreWindows v files r

-- after a part of the reading it is still so, and this holds; nothing is ever damaged
abbrev pub ReadsOn : {T : Type 0} → Sight → List (List ℕ) → List (List ℕ) → RecordReader → Type 0
    → Result T JobFault → History → Type 0
ReadsOn v new files r X (Ok value) history = AreRead v new files r history × X
ReadsOn v new files r X (Err (Damaged name at)) history = ⊥
ReadsOn v new files r X (Err fault) history = Unit {0}

-- each of the heads is of one of these files
abbrev pub AreOfNew : List (List ℕ) → List Head → List (List ℕ) → Type 0
AreOfNew files heads new = (h : Head) → Contains heads h → Contains new (file_at files h.file)

-- nothing is damaged, and at Ok this holds
abbrev pub NotDamaged : {T : Type 0} → Type 0 → Result T JobFault → History → Type 0
NotDamaged X (Ok value) history = X
NotDamaged X (Err (Damaged name at)) history = ⊥
NotDamaged X (Err fault) history = Unit {0}

-- After the split of the archive's records by both books: at Ok those of the newest segments that
-- suffice run, and no record was put since there were so many, or else one of theirs is to be
-- written; damage is of some stream.
abbrev pub SplitSoundly : List (List ℕ) → Book → Book → Files → ℕ → ℕ → Result ℕ JobFault
    → History → Type 0
SplitSoundly types b records files old new (Ok left) history =
    (first : ℕ) × RunsFrom b records files first
    × PutsIf (IsDueFrom types b records files first) old new
SplitSoundly types b records files old new (Err (Damaged name at)) history =
    (s : Stream) × IsDamagedAt (codes "archive") b files s name at
SplitSoundly types b records files old new (Err fault) history = Unit {0}

-- the same of a run by both books, whose numbers are spent only where a record is to be written
abbrev pub RanSoundly : {T : Type 0} → List (List ℕ) → Book → Book → Files → Result T JobFault
    → History → Type 0
RanSoundly types b records files (Ok value) history =
    (first : ℕ) × RunsFrom b records files first
RanSoundly types b records files (Err (Damaged name at)) history =
    (s : Stream) × IsDamagedAt (codes "archive") b files s name at
RanSoundly types b records files (Err (Spent n)) history = IsDueIn types b records files
RanSoundly types b records files (Err fault) history = Unit {0}

-- After a run: at Ok both are books, and the records of the newest segments run; damage is where a
-- file isn't so; and the numbers are spent only where a record is to be written.
abbrev pub ReadAll : {T : Type 0} → List (List ℕ) → Files → Result T JobFault → History → Type 0
ReadAll types files (Ok value) history = ReadsWell files
ReadAll types files (Err (Damaged name at)) history = IsDamagedIn files name at
ReadAll types files (Err (Spent n)) history =
    IsDueIn types (archive_book files) (book_in (files demux_name)) files
ReadAll types files (Err fault) history = Unit {0}
