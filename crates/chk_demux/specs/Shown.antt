-- What the own reads of a demux run show, on every site.
use Rattle.std.specs.Prelude.{◌≡◌, ◌⊎◌, ℕ, IsTrue, List, drop, codes, Contains, Result, Ok, Err}
use Rattle.chk_bytes.specs.Numbers.{last_number}
use Rattle.chk_site.specs.History.{History}
use Rattle.chk_world.specs.Books.{Book, End, ends_rise}
use Rattle.chk_record_index.specs.Heads.{Head}
use Rattle.chk_record_index.specs.Order.{in_head_order}
use Rattle.chk_record_index.specs.Shown.{Within}
use Rattle.chk_record_index.specs.ShownHeads.{ShowAll}
use Rattle.chk_record_index.specs.Causes.{Shows}
use Rattle.chk_record_index.specs.declared.fault.JobFault.{JobFault}
use Rattle.chk_record_index.specs.declared.fault.JobFault.TheVariants.{Damaged, Spent}
use Rattle.chk_book.specs.Books.{book_view}
use Rattle.chk_book.specs.Folders.{most_in}
use Rattle.chk_book.specs.Loaded.{ShowsBook}
use Rattle.chk_record_reader.specs.Gone.{IsGoneIn, IsUnsound}
use Rattle.chk_record_reader.specs.Segments.{names_of}
use Rattle.chk_demux.specs.Splitting.{split_from, ends_past}
use Rattle.chk_demux.specs.declared.beginning.Books.{Books}

-- a stretch of own reads shows that the archive's book is this one
abbrev pub ShowsArchive : Book → History → History → Type 0
ShowsArchive b added history = Within (ShowsBook (codes "archive") (Ok b)) added history

-- a stretch of own reads shows the heads of all records of the segments that the archive's book
-- names, from this one on
abbrev pub ShowsHeadsFrom : Book → ℕ → List Head → History → History → Type 0
ShowsHeadsFrom b first heads added history =
    Within (ShowAll (most_in (codes "archive")) first
    (drop first (names_of (codes "archive") b)) heads) added history

-- Why a segment that the archive's book names, or that book, is told to be damaged: where all of
-- them are read it is unsound; or own reads show the heads of all records of those from some one
-- on, and one that other own reads don't find again.
pub data IsUnsoundFrom (b : Book) (name : List ℕ) (at : ℕ) (added history : History) : Type 0 where
  whole : IsUnsound (codes "archive") b name at added history
      → IsUnsoundFrom b name at added history
  lost : (first : ℕ) (heads : List Head) → ShowsHeadsFrom b first heads added history
      → IsGoneIn (names_of (codes "archive") b) (in_head_order heads) name at added history
      → IsUnsoundFrom b name at added history

-- at Ok own reads show the heads of all records of the segments from some one on, of which these
-- are some; damage has a cause in all segments
abbrev pub ShowsNewestSound : Book → Result (List Head) JobFault → History → History → Type 0
ShowsNewestSound b (Ok heads) added history =
    (first : ℕ) × (found : List Head)
    × ((h : Head) → Contains heads h → Contains (in_head_order found) h)
    × ShowsHeadsFrom b first found added history
ShowsNewestSound b (Err fault) added history =
    Shows {T = Unit {0}} (IsUnsound (codes "archive") b) (Err fault) added history

-- Why a demux run tells that a file is damaged: own reads show that one of the two books is none; or they show the archive's book, and
-- why one of the segments that it names, or that book, is damaged.
pub data IsDamage (name : List ℕ) (at : ℕ) (added history : History) : Type 0 where
  no_archive : Within (ShowsBook (codes "archive") (Err (Damaged name at))) added history → IsDamage name at added history
  no_records : Within (ShowsBook (codes "demux") (Err (Damaged name at))) added history → IsDamage name at added history
  unsound : (b : Book) → ShowsArchive b added history → IsUnsoundFrom b name at added history → IsDamage name at added history

-- a stretch of own reads shows that the records' book is this one
abbrev pub ShowsRecords : Book → History → History → Type 0
ShowsRecords b added history = Within (ShowsBook (codes "demux") (Ok b)) added history

-- one of the heads is of the end's stream and ends past this offset
abbrev pub HasPast : List Head → End → ℕ → Type 0
HasPast heads e from = (h : Head) × Contains heads h × IsTrue (ends_past e from h)

-- one of the heads is of a stream of the archive's book, and ends past the place from which on the
-- split of that stream goes on by the records' book
abbrev pub HasNew : Book → Book → List Head → Type 0
HasNew archive records heads =
    (e : End) × Contains archive.ends e × HasPast heads e (split_from records e)

-- own reads show the heads of all records of the segments that the archive's book names, from some
-- one on, and one of these has bytes that aren't split by the records' book
pub record ShowsNew (archive records : Book) (added history : History) : Type 0 where
  pub first : ℕ
  pub heads : List Head
  pub shown : ShowsHeadsFrom archive first heads added history
  pub new : HasNew archive records heads

-- no record was put since there were so many, or else it is so
abbrev pub PutsIf : Type 0 → ℕ → ℕ → Type 0
PutsIf P old new = (new ≡ old) ⊎ P

-- at Ok no record was put, or own reads show something new, where the ends of the records' book
-- rise
abbrev pub ShowsPut : Book → Book → ℕ → ℕ → Result ℕ JobFault → History → History → Type 0
ShowsPut archive records old new (Ok left) added history =
    IsTrue (ends_rise records.ends) → PutsIf (ShowsNew archive records added history) old new
ShowsPut archive records old new (Err fault) added history = Unit {0}

-- the numbers are spent only where the next one of the records' book is the last one, and own reads
-- show something new, where that book's ends rise
abbrev pub SpentBy : {T : Type 0} → Book → Book → Result T JobFault → History → History → Type 0
SpentBy archive records (Err (Spent n)) added history =
    (n ≡ last_number) × (records.next ≡ last_number)
    × (IsTrue (ends_rise records.ends) → ShowsNew archive records added history)
SpentBy archive records result added history = Unit {0}

-- Why a demux run tells that the numbers are spent: own reads show the records' book, and its next
-- number is the last one; and they show the archive's book and the heads of all records of its
-- newest segments, of which one has bytes that aren't split by the records' book.
pub record IsSpent (added history : History) : Type 0 where
  pub records : Book
  pub has_records : ShowsRecords records added history
  pub last : records.next ≡ last_number
  pub archive : Book
  pub has_archive : ShowsArchive archive added history
  pub new : ShowsNew archive records added history

-- the numbers are told to be spent only with such a cause; nothing is said of any other answer
abbrev pub ShowsSpent : {T : Type 0} → Result T JobFault → History → History → Type 0
ShowsSpent (Err (Spent n)) added history = (n ≡ last_number) × IsSpent added history
ShowsSpent result added history = Unit {0}

-- at Ok own reads show both books; damage has such a cause
abbrev pub ShowsBegun : Result Books JobFault → History → History → Type 0
ShowsBegun (Ok b) added history = ShowsArchive (book_view b.archive) added history
    × ShowsRecords (book_view b.demux) added history
ShowsBegun (Err fault) added history = Shows {T = Unit {0}} IsDamage (Err fault) added history
