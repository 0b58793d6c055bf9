-- What one run of the archive job leads to.
use Rattle.std.specs.Prelude.{◌≡◌, ◌⊎◌, ℕ, ◌-◌, ◌≤◌, ◌^◌, Bool, false, ◌&&◌, List, length, find, codes, bytes_eq, IsTrue, Contains, count_by, Some, Result, Ok, Err}
use Rattle.chk_bytes.specs.Numbers.{last_number}
use Rattle.chk_site.specs.declared.acts.Act.{Act}
use Rattle.chk_site.specs.declared.acts.ActAnswer.{ActAnswer}
use Rattle.chk_site.specs.declared.acts.ActAnswer.TheVariants.{Done}
use Rattle.chk_site.specs.declared.acts.Role.TheVariants.{Job}
use Rattle.chk_site.specs.Acts.{Deed, Starts, Lists, Removes, deed, same_role}
use Rattle.chk_site.specs.History.{History, files_after}
use Rattle.chk_site.specs.Runs.{own_acts}
use Rattle.chk_world.specs.Names.{ArchiveFolder, SegmentFile, file}
use Rattle.chk_world.specs.Books.{Segment, Book, book_of}
use Rattle.chk_world.specs.Committed.{IsAbsent}
use Rattle.chk_world.specs.ArchiveRuns.{Listing, last_listing, is_unclosed, is_closed, sink_path, IsArchiveRun}
use Rattle.chk_world.specs.Jobs.{all_segments, is_named}
use Rattle.chk_world.specs.Rules.{Legal}
use Rattle.chk_world.specs.Places.{AtTold}
use Rattle.chk_world.specs.Sight.{job}
use Rattle.chk_world.specs.JobSteps.{ReadsFile, WritesTo}
use Rattle.chk_book.specs.Folders.{segment_name}
use Rattle.chk_record_index.specs.declared.fault.JobFault.{JobFault}
use Rattle.chk_record_index.specs.declared.fault.JobFault.TheVariants.{Damaged, Spent}
use Rattle.chk_archive_parts.specs.Publishing.{ReplacesBookOf}
pub use Rattle.chk_archive_parts.specs.Publishing.{writes_book, names_book}
use Rattle.chk_archive.specs.Reports.{Report}
use Rattle.chk_archive.specs.Written.{HasWritten, HadNumbers, LacksNumbers}

-- each segment file that was there at the listing is named by the book then, or by the one that the
-- run loaded
abbrev pub NoStray : Book → History → Type 0
NoStray loaded upto =
    (k : ℕ) → IsAbsent (file (files_after upto) (SegmentFile ArchiveFolder k))
    ⊎ (IsTrue (is_named (files_after upto) (SegmentFile ArchiveFolder k))
    ⊎ ((g : Segment) × Contains (all_segments loaded) g × (g.number ≡ k)))

-- the run that began with the job's last listing is this one
pub record RunDone (loaded : Book) (r : Report) (history : History) : Type 0 where
  pub listing : Listing
  pub last : last_listing history ≡ Some listing
  pub ran : IsArchiveRun history listing r.unclosed r.taken r.held r.removed
  pub first : r.first_unclosed ≡ find is_unclosed listing.names
  pub ends : r.ends ≡ (book_of (files_after history) ArchiveFolder).ends
  pub no_stray : NoStray loaded listing.upto
  pub merged : 16 ≤ length loaded.segments
      → length (book_of (files_after history) ArchiveFolder).segments ≤ 2
  pub written : HasWritten loaded listing history
  pub numbers : HadNumbers loaded listing

-- At Ok the run is done, for the book that stood there as the call began. Nothing of the program's
-- own is ever damaged. The segment numbers are spent only where none is left for a segment that is needed. After any other refusal
-- the history is legal; the start may be what was refused, so that it isn't said that the job may act.
abbrev pub Archived : List (List ℕ) → Book → Result Report JobFault → History → Type 0
Archived stamped loaded (Ok r) history = AtTold stamped job (RunDone loaded r) history
Archived stamped loaded (Err (Damaged name at)) history = AtTold stamped job (λ h. ⊥) history
Archived stamped loaded (Err (Spent n)) history =
    AtTold stamped job (λ h. (n ≡ last_number) × LacksNumbers h) history
Archived stamped loaded (Err fault) history = Legal stamped history

-- the archive's book before the call
abbrev pub Begun : List (List ℕ) → Book → History → Type 0
Begun stamped loaded history = Legal stamped history ×
    (book_of (files_after history) ArchiveFolder ≡ loaded)

-- the call lists the sinks
abbrev pub is_sinks_listing : Deed → Bool
is_sinks_listing (Lists folder) = bytes_eq folder (codes "sinks")
is_sinks_listing call = false

abbrev pub lists_sinks : Act → Bool
lists_sinks act = is_sinks_listing (deed act)

abbrev pub ListsNoSinks : History → History → Type 0
ListsNoSinks added history = count_by lists_sinks (own_acts added) ≡ 0

-- a run that is done has listed the sinks once in this call
abbrev pub ListedOnce : {T E : Type 0} → Result T E → History → History → Type 0
ListedOnce (Ok value) added history = count_by lists_sinks (own_acts added) ≡ 1
ListedOnce (Err fault) added history = count_by lists_sinks (own_acts added) ≤ 1

-- the act is a listing of the sinks by the job, which was given their names
abbrev pub gives_sinks : Deed → ActAnswer → Bool
gives_sinks (Lists folder) (Done names number of) = bytes_eq folder (codes "sinks")
gives_sinks call answer = false

abbrev pub is_job_listing : Act → Bool
is_job_listing act = same_role act.who.role Job && gives_sinks (deed act) act.answer

-- the job was given the names of the sinks once in this call
abbrev pub GivenOnce : History → History → Type 0
GivenOnce added history = count_by is_job_listing (own_acts added) ≡ 1

-- the calls that replace the archive's book
abbrev pub ReplacesBook : Deed → Type 0
ReplacesBook = ReplacesBookOf (codes "archive")

-- the calls that merge: they read files, write segments of the archive, and replace its book
pub data MergesBy : Deed → Type 0 where
  merge_reads : (call : Deed) → ReadsFile call → MergesBy call
  merge_writes : (k : ℕ) (call : Deed) → WritesTo (segment_name (codes "archive") k) call → MergesBy call
  merge_replaces : (call : Deed) → ReplacesBook call → MergesBy call

-- the calls of a run: it starts, lists two folders, reads, writes segments of the archive, replaces
-- its book, and removes segments of the archive and done sinks
pub data ArchivesBy : Deed → Type 0 where
  starts : ArchivesBy Starts
  lists_archive : ArchivesBy (Lists (codes "archive"))
  lists_sinks_folder : ArchivesBy (Lists (codes "sinks"))
  reads_and_writes : (call : Deed) → MergesBy call → ArchivesBy call
  removes_sink : (name : List ℕ) → IsTrue (is_closed name) → ArchivesBy (Removes (sink_path name))
