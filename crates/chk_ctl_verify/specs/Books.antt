-- The books of folders, and their segments.
use Rattle.std.specs.Prelude.{◌≡◌, ℕ, Bool, true, false, List, [], ◌++◌, map}
use Rattle.std.specs.Prelude.{if◌then◌else◌, Option, Some, None, option_map, option_to_list}
use Rattle.std.specs.Prelude.{Result, Ok, Err}
use Rattle.chk_site.specs.declared.acts.OutsideFault.{OutsideFault}
use Rattle.chk_site.specs.History.{History, Every}
use Rattle.chk_site.specs.Site.{Adds}
use Rattle.chk_world.specs.Books.{Book, Segment}
use Rattle.chk_record_index.specs.declared.fault.JobFault.TheVariants.{Damaged}
use Rattle.chk_book.specs.Folders.{most_in, segment_name}
use Rattle.chk_book.specs.SegmentNames.{names_segment}
use Rattle.chk_ctl_cat.specs.Loading.{BookFound}
use Rattle.chk_ctl_verify_archive.specs.Verifying.{VerifiedBy}
use Rattle.chk_ctl_verify.specs.declared.books.Folder.{Folder}
use Rattle.chk_ctl_verify.specs.Calls.{Quiet}
use Rattle.chk_ctl_verify.specs.Files.{ChunksSeen}
use Rattle.chk_ctl_verify.specs.Names.{FoundBy}
use Rattle.chk_ctl_verify.specs.Telling.{ToldIf}
use Rattle.chk_ctl_verify.specs.Walks.{EachChecked}

-- the same of a segment by a book, which may not name it
pub data NamedSeen (folder : List ℕ) (b : Book) (number : ℕ) : Option ℕ → Option History
    → Option History → Type 0 where
  unnamed : {now : Option History} → names_segment b number ≡ false
      → NamedSeen folder b number None now now
  named : {found : Option ℕ} {old new : Option History} → names_segment b number ≡ true
      → ChunksSeen (most_in folder) (segment_name folder number) found old new
      → NamedSeen folder b number found old new

-- one look at a segment: it has to be one of chunks where the book that is read before names it
pub data SegmentSeen (folder : List ℕ) (number : ℕ) : Option ℕ → Option History
    → Option History → Type 0 where
  no_book : {old new : Option History} (name : List ℕ) (at : ℕ)
      → BookFound folder (Err (Damaged name at)) old new → SegmentSeen folder number None old new
  by_book : {found : Option ℕ} {old mid new : Option History} (b : Book)
      → BookFound folder (Ok b) old mid → NamedSeen folder b number found mid new
      → SegmentSeen folder number found old new

-- it is looked at, and its damage told, but where that was told before; or a look was refused
pub data SegmentChecked (folder told : List ℕ) (number : ℕ) : Result Bool OutsideFault
    → Option History → Option History → Type 0 where
  told_before : {now : Option History} → segment_name folder number ≡ told
      → SegmentChecked folder told number (Ok false) now now
  looked : {result : Result Bool OutsideFault} {old mid new : Option History} (found : Option ℕ)
      → Adds old mid (Every Quiet) → FoundBy (SegmentSeen folder number) found old mid
      → ToldIf (segment_name folder number) found result mid new
      → SegmentChecked folder told number result old new
  unlooked : {old new : Option History} (fault : OutsideFault) → Adds old new (Every Quiet)
      → SegmentChecked folder told number (Err fault) old new

-- the numbers of all segments that a book names, or of its aside segment alone
abbrev pub numbers_of : Bool → Book → List ℕ
numbers_of all b =
    (if all then map (λ (g : Segment). g.number) b.segments else [])
    ++ option_to_list (option_map (λ (g : Segment). g.number) b.aside)

-- the damage of a book is told, but where it was told before
pub data ToldUnless (told name : List ℕ) (at : ℕ) : Result Bool OutsideFault → Option History
    → Option History → Type 0 where
  same : {now : Option History} → name ≡ told → ToldUnless told name at (Ok false) now now
  other : {result : Result Bool OutsideFault} {old new : Option History}
      → ToldIf name (Some at) result old new → ToldUnless told name at result old new

-- the book is read, and then each of its segments is looked at, or its aside segment alone
pub data LeftChecked (folder told : List ℕ) (all : Bool) : Result Bool OutsideFault
    → Option History → Option History → Type 0 where
  booked : {result : Result Bool OutsideFault} {old mid new : Option History} (b : Book)
      → BookFound folder (Ok b) old mid
      → EachChecked (SegmentChecked folder told) (numbers_of all b) result mid new
      → LeftChecked folder told all result old new
  bad_book : {result : Result Bool OutsideFault} {old mid new : Option History} (name : List ℕ)
      (at : ℕ) → BookFound folder (Err (Damaged name at)) old mid
      → ToldUnless told name at result mid new → LeftChecked folder told all result old new
  left_unread : {old new : Option History} (fault : OutsideFault) → Adds old new (Every Quiet)
      → LeftChecked folder told all (Err fault) old new

-- this damage is told, and each other segment is looked at
pub data DamageChecked (folder name : List ℕ) (at : ℕ) : Result Folder OutsideFault
    → Option History → Option History → Type 0 where
  told_all : {is more : Bool} {old mid new : Option History}
      → ToldIf name (Some at) (Ok is) old mid → LeftChecked folder name true (Ok more) mid new
      → DamageChecked folder name at (Ok (record { records = 0; damaged = is })) old new
  told_some : {is : Bool} {fault : OutsideFault} {old mid new : Option History}
      → ToldIf name (Some at) (Ok is) old mid → LeftChecked folder name true (Err fault) mid new
      → DamageChecked folder name at (Err fault) old new
  untold : {fault : OutsideFault} {old new : Option History}
      → ToldIf name (Some at) (Err fault) old new → DamageChecked folder name at (Err fault) old new

-- The book, its segments and their records are as they have to be, with so many records, and the
-- aside segment is looked at. Or damage is told, and each other segment is looked at. Or a look was
-- refused.
pub data BookChecked (folder : List ℕ) : Result Folder OutsideFault → Option History
    → Option History → Type 0 where
  sound : {records : ℕ} {is : Bool} {old mid new : Option History}
      → VerifiedBy folder 64 (Ok records) old mid → LeftChecked folder [] false (Ok is) mid new
      → BookChecked folder (Ok (record { records = records; damaged = is })) old new
  sound_so_far : {records : ℕ} {fault : OutsideFault} {old mid new : Option History}
      → VerifiedBy folder 64 (Ok records) old mid
      → LeftChecked folder [] false (Err fault) mid new → BookChecked folder (Err fault) old new
  bad : {result : Result Folder OutsideFault} {old mid new : Option History} (name : List ℕ)
      (at : ℕ) → VerifiedBy folder 64 (Err (Damaged name at)) old mid
      → DamageChecked folder name at result mid new → BookChecked folder result old new
  book_unread : {old new : Option History} (fault : OutsideFault) → Adds old new (Every Quiet)
      → BookChecked folder (Err fault) old new
