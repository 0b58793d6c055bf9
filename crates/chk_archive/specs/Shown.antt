-- What the own reads of an archive run show, on every site.
use Rattle.std.specs.Prelude.{◌≡◌, ℕ, ◌+◌, ◌-◌, ◌<◌, ◌≤◌, ◌^◌, false, List, [], ◌∷◌, length, count_by, codes, Contains, Result, Ok, Err}
use Rattle.chk_bytes.specs.Numbers.{last_number}
use Rattle.chk_site.specs.History.{History}
use Rattle.chk_site.specs.Site.{Calls, names_given}
use Rattle.chk_chunk.specs.Keys.{chunk_limit}
use Rattle.chk_world.specs.Books.{End, Book}
use Rattle.chk_world.specs.Sight.{job}
use Rattle.chk_record_index.specs.Heads.{Head}
use Rattle.chk_record_index.specs.Order.{in_head_order}
use Rattle.chk_record_index.specs.Shown.{Within}
use Rattle.chk_record_index.specs.ShownHeads.{ShowAll, ShowsBad}
use Rattle.chk_record_index.specs.Causes.{Shows}
use Rattle.chk_record_index.specs.declared.fault.JobFault.{JobFault}
use Rattle.chk_record_index.specs.declared.fault.JobFault.TheVariants.{Damaged, Spent}
use Rattle.chk_book.specs.Loaded.{ShowsBook}
use Rattle.chk_record_reader.specs.Gone.{IsGoneIn, IsUnsound}
use Rattle.chk_archive_parts.specs.Cuts.{AreWithin}
use Rattle.chk_archive_parts.specs.Kept.{is_first, KeepsFirsts}
use Rattle.chk_archive_parts.specs.declared.cuts.Cut.{Cut}
use Rattle.chk_archive.specs.Taking.{IsPlanned, stays_aside}
use Rattle.chk_archive.specs.declared.taking.Planned.{Planned}
use Rattle.chk_archive.specs.Starts.{HaveStartsIn, ToldOtherStart}
use Rattle.chk_archive.specs.Calling.{listing}
use Rattle.chk_archive.specs.Listed.{sources_in}

-- why one of these heads' records is told to be damaged: it has another start than its stream; or other own reads don't find it
-- again
pub data IsUnfit (ends : List End) (files : List (List ℕ)) (heads : List Head) (name : List ℕ) (at : ℕ) (added history : History) : Type 0 where
  other_start : ToldOtherStart files ends (in_head_order heads) (Damaged name at) → IsUnfit ends files heads name at added history
  gone : IsGoneIn files (in_head_order heads) name at added history → IsUnfit ends files heads name at added history

-- why one of these files is: own reads show that it isn't one of chunks; or they show the heads of all records, and one is unfit
pub data IsUntaken (ends : List End) (files : List (List ℕ)) (name : List ℕ) (at : ℕ) (added history : History) : Type 0 where
  no_chunks : Contains files name → ShowsBad chunk_limit name at added history → IsUntaken ends files name at added history
  unfit : (heads : List Head) → Within (ShowAll chunk_limit 0 files heads) added history → IsUnfit ends files heads name at added history
      → IsUntaken ends files name at added history

-- ---- a number for a segment that is needed

-- the fault is that the numbers are spent only with this cause
abbrev pub IfSpent : Type 0 → JobFault → Type 0
IfSpent Why (Spent n) = (n ≡ last_number) × Why
IfSpent Why fault = Unit {0}

-- the book's next number is the last one
abbrev pub IsAtLast : Book → Type 0
IsAtLast b = b.next ≡ last_number

-- how many numbers the segment of what is taken asks for
abbrev pub number_for : List Cut → ℕ
number_for [] = 0
number_for (k ∷ ks) = 1

-- Of what is to be written by this book: something is taken, and the next number is the last one;
-- or something is kept that isn't what the aside segment has, and the number behind that of the
-- segment of what is taken, where anything is, is the last one.
pub data LacksFor (b : Book) (heads : List Head) (old : ℕ) (cuts kept : List Cut) : Type 0 where
  for_parts : (cuts ≡ [] → ⊥) → IsAtLast b → LacksFor b heads old cuts kept
  for_aside : (kept ≡ [] → ⊥) → stays_aside b heads old kept ≡ false
      → b.next + number_for cuts ≡ last_number → LacksFor b heads old cuts kept

-- so it is of what is planned for heads that stand in order, and of what is kept past its gaps
pub record LacksOver (b : Book) (heads : List Head) (old : ℕ) (p : Planned) : Type 0 where
  pub planned : IsPlanned b heads p
  pub kept : List Cut
  pub within : AreWithin (length heads) kept
  pub keeps : KeepsFirsts heads p.spans.items kept
  pub lacks : LacksFor b heads old p.cuts kept

-- the same for the heads of all records that were found
abbrev pub LacksOne : Book → List Head → Type 0
LacksOne b found = (p : Planned) × LacksOver b (in_head_order found) (count_by is_first found) p

-- At Ok own reads show the heads of all records in these files, and each has its stream's start.
-- Damage has such a cause. The numbers are spent only where own reads show these heads, and a
-- segment is needed for them.
abbrev pub ShowsTaken : {T : Type 0} → Book → List (List ℕ) → Result T JobFault → History → History
    → Type 0
ShowsTaken b files (Ok value) added history =
    (heads : List Head) × Within (ShowAll chunk_limit 0 files heads) added history
    × HaveStartsIn b.ends (in_head_order heads)
ShowsTaken b files (Err (Damaged name at)) added history =
    IsUntaken b.ends files name at added history
ShowsTaken b files (Err (Spent n)) added history =
    (n ≡ last_number) × (heads : List Head)
    × Within (ShowAll chunk_limit 0 files heads) added history × LacksOne b heads
ShowsTaken b files (Err fault) added history = Unit {0}

-- a stretch of own reads shows that the archive's book is this one
abbrev pub ShowsLoaded : Book → History → History → Type 0
ShowsLoaded b added history = Within (ShowsBook (codes "archive") (Ok b)) added history

-- the job listed the sinks by one call, and was given these names
abbrev pub GivesNames : List (List ℕ) → History → History → Type 0
GivesNames names added history = Calls (listing job (codes "sinks")) (Ok (names_given names)) added history

-- a stretch of the added steps is such a call
abbrev pub GaveNames : List (List ℕ) → History → History → Type 0
GaveNames names added history = Within (GivesNames names) added history

-- Why an archive run tells that a file is damaged: own reads show that the archive's book is none; or they show the book, and why one
-- of the segments that it names, which were to be merged, or the book is damaged; or why one of the files that were to be taken is,
-- the aside segment and the done sinks that its own listing gave.
pub data IsDamage (name : List ℕ) (at : ℕ) (added history : History) : Type 0 where
  no_book : Within (ShowsBook (codes "archive") (Err (Damaged name at))) added history → IsDamage name at added history
  unsound : (b : Book) → ShowsLoaded b added history → IsUnsound (codes "archive") b name at added history → IsDamage name at added history
  untaken : (b : Book) (names : List (List ℕ)) → ShowsLoaded b added history → GaveNames names added history
      → IsUntaken b.ends (sources_in b names) name at added history
      → IsDamage name at added history

-- the book that was loaded, which own reads show, or such damage
abbrev pub ShowsBegun : Result Book JobFault → History → History → Type 0
ShowsBegun (Ok b) added history = ShowsLoaded b added history
ShowsBegun (Err fault) added history = Shows {T = Unit {0}} IsDamage (Err fault) added history

-- the book in hand behind the merging: the one that was loaded, where that names fewer than 16
-- segments; else one whose next number is one more, and that has its ends and its aside segment
pub record IsInHand (loaded b : Book) : Type 0 where
  pub few : length loaded.segments < 16 → b ≡ loaded
  pub many : 16 ≤ length loaded.segments → b.next ≡ loaded.next + 1
  pub ends : b.ends ≡ loaded.ends
  pub aside : b.aside ≡ loaded.aside

-- Why an archive run tells that the numbers are spent: own reads show the archive's book, and it
-- names 16 segments or more, which are to be merged, and its next number is the last one; or own
-- reads show the heads of all records of the aside segment and of the done sinks that its own listing
-- gave, and by these a segment is needed that the book in hand has no number for.
pub data IsSpent (added history : History) : Type 0 where
  for_merge : (b : Book) → ShowsLoaded b added history → 16 ≤ length b.segments → IsAtLast b
      → IsSpent added history
  for_new : (loaded b : Book) (names : List (List ℕ)) (heads : List Head)
      → ShowsLoaded loaded added history → IsInHand loaded b
      → GaveNames names added history
      → Within (ShowAll chunk_limit 0 (sources_in b names) heads) added history → LacksOne b heads
      → IsSpent added history

-- the cause of a fault: of damage, and that the numbers are spent; of any other nothing is said
abbrev pub ShowsCause : JobFault → History → History → Type 0
ShowsCause (Damaged name at) added history = IsDamage name at added history
ShowsCause (Spent n) added history = (n ≡ last_number) × IsSpent added history
ShowsCause fault added history = Unit {0}

-- the book in hand behind the merging, of one that own reads show, or such a cause
abbrev pub ShowsSettled : Result Book JobFault → History → History → Type 0
ShowsSettled (Ok b) added history = (loaded : Book) × ShowsLoaded loaded added history
    × IsInHand loaded b
ShowsSettled (Err fault) added history = ShowsCause fault added history

-- At Ok own reads of the run show the archive's book, and the heads of all records of the aside segment and of the done sinks that its
-- own listing gave, and each record has its stream's start. Damage, and that the numbers are spent,
-- has a cause that own reads of the run show.
abbrev pub ShowsArchived : {T : Type 0} → Result T JobFault → History → History → Type 0
ShowsArchived (Ok value) added history =
    (b : Book) × (names : List (List ℕ)) × ShowsLoaded b added history × GaveNames names added history
    × ShowsTaken {T = Unit {0}} b (sources_in b names) (Ok tt) added history
ShowsArchived (Err fault) added history = ShowsCause fault added history
