-- What own reads show where records are told to be damaged, on every site.
use Rattle.std.specs.Prelude.{◌≡◌, ℕ, ◌+◌, ◌-◌, ◌≤◌, ◌<◌, ◌^◌, min, List, [], ◌++◌, length, slice_index_or, Contains, Result, Ok, Err}
use Rattle.chk_site.specs.declared.acts.OutsideFault.{OutsideFault}
use Rattle.chk_site.specs.History.{History}
use Rattle.chk_replace.specs.Load.{piece_limit}
use Rattle.chk_world.specs.Books.{Book}
use Rattle.chk_record_index.specs.Heads.{Head}
use Rattle.chk_record_index.specs.Order.{in_head_order}
use Rattle.chk_record_index.specs.Shown.{Gave, Within}
use Rattle.chk_record_index.specs.ShownHeads.{ShowAll, ShowsBad}
use Rattle.chk_record_index.specs.Causes.{Cause, Shows}
use Rattle.chk_record_index.specs.declared.fault.JobFault.{JobFault}
use Rattle.chk_record_index.specs.declared.fault.JobFault.TheVariants.{Damaged}
use Rattle.chk_book.specs.Folders.{most_in}
use Rattle.chk_record_reader.specs.Spans.{NoValueSpan, room_of}
use Rattle.chk_record_reader.specs.Segments.{names_of}
use Rattle.chk_record_reader.specs.Checking.{ToldOfSome}
use Rattle.chk_record_reader.specs.declared.reader.RecordReader.{RecordReader}

-- Own reads of the file asked for so many bytes from this place on, and these came: by one read; by one that asked for fewer and
-- gave less, where the file ended; or by two, of which the first gave all that it asked for.
pub data GaveRun (name : List ℕ) (at size : ℕ) (bytes : List ℕ) (added history : History) : Type 0 where
  once : Gave name at size bytes added history → GaveRun name at size bytes added history
  ended : (max : ℕ) → max ≤ size → length bytes < max → Gave name at max bytes added history → GaveRun name at size bytes added history
  twice : (behind : ℕ) (first rest : List ℕ) (b a : History) → added ≡ b ++ a → bytes ≡ first ++ rest → piece_limit ≤ length first
      → behind ≡ min (at + piece_limit) (2 ^ 64 - 1) → Gave name at piece_limit first a history → Gave name behind (size - piece_limit) rest b (a ++ history)
      → GaveRun name at size bytes added history

abbrev pub ShowsRun : List ℕ → ℕ → ℕ → Result (List ℕ) OutsideFault → History → History → Type 0
ShowsRun name at size (Ok bytes) added history = GaveRun name at size bytes added history
ShowsRun name at size (Err fault) added history = Unit {0}

-- at Ok the window is of the file of this number from this place on, and has what own reads gave
abbrev pub ShowsWindow : List ℕ → ℕ → ℕ → ℕ → RecordReader → Result (Unit {0}) OutsideFault → History → History → Type 0
ShowsWindow name number from size r (Ok value) added history =
    (r.file ≡ number) × (r.from ≡ from) × GaveRun name from size r.bytes added history
ShowsWindow name number from size r (Err fault) added history = Unit {0}

-- own reads asked for all bytes that the head's record may have, and in what came no record stands at its place whose value has
-- the length that the head says
pub record IsGone (name : List ℕ) (h : Head) (added history : History) : Type 0 where
  pub from : ℕ
  pub size : ℕ
  pub bytes : List ℕ
  pub behind : from ≤ h.at
  pub enough : h.at - from + room_of h ≤ size
  pub none : NoValueSpan bytes (h.at - from) (h.key.seq - h.begin)
  pub gave : GaveRun name from size bytes added history

-- a stretch of the added steps shows it of this file at this head's record
abbrev pub IsGoneOf : List ℕ → Head → Cause
IsGoneOf file h name at added history = (name ≡ file) × (at ≡ h.at) × Within (IsGone file h) added history

-- it is so of one of these heads, of the file that it names
abbrev pub IsGoneIn : List (List ℕ) → List Head → Cause
IsGoneIn names heads name at added history =
    (h : Head) × Contains heads h × (name ≡ slice_index_or names h.file []) × (at ≡ h.at)
    × Within (IsGone (slice_index_or names h.file []) h) added history

-- Why a segment that a book names, or the book, is told to be damaged: own reads show that the segment isn't one of chunks; or they
-- show the heads of all records, and these don't run as the book says; or they show one that other own reads don't find again.
pub data IsUnsound (folder : List ℕ) (b : Book) (name : List ℕ) (at : ℕ) (added history : History) : Type 0 where
  bad : ShowsBad (most_in folder) name at added history → IsUnsound folder b name at added history
  broken : (heads : List Head) → Within (ShowAll (most_in folder) 0 (names_of folder b) heads) added history
      → ToldOfSome folder b (names_of folder b) heads (Damaged name at) → IsUnsound folder b name at added history
  gone : (heads : List Head) → Within (ShowAll (most_in folder) 0 (names_of folder b) heads) added history
      → IsGoneIn (names_of folder b) (in_head_order heads) name at added history → IsUnsound folder b name at added history

-- the same where the records of one stream are read: it is unsound, or own reads show the heads of all
-- records, and one that other own reads don't find again
pub data IsUnreadable (folder : List ℕ) (b : Book) (name : List ℕ) (at : ℕ) (added history : History)
    : Type 0 where
  unsound : IsUnsound folder b name at added history → IsUnreadable folder b name at added history
  lost : (heads : List Head)
      → Within (ShowAll (most_in folder) 0 (names_of folder b) heads) added history
      → IsGoneIn (names_of folder b) heads name at added history
      → IsUnreadable folder b name at added history

-- at Ok own reads show the heads of all records, which these are in order; damage has such a cause
abbrev pub ShowsSound : List ℕ → Book → Result (List Head) JobFault → History → History → Type 0
ShowsSound folder b (Ok heads) added history =
    (found : List Head) × (heads ≡ in_head_order found) × ShowAll (most_in folder) 0 (names_of folder b) found added history
ShowsSound folder b (Err fault) added history = Shows {T = Unit {0}} (IsUnsound folder b) (Err fault) added history
