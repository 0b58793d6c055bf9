-- What the writing of one segment of the archive leaves.
use Rattle.std.specs.List.{list_any}
use Rattle.std.specs.Prelude.{◌≡◌, ℕ, nat_eq, IsTrue, IsFalse, Contains, List, codes, length, Some, Result, Ok, Err}
use Rattle.chk_bytes.specs.Stems.{Stem, is_count}
use Rattle.chk_site.specs.Files.{File}
use Rattle.chk_site.specs.History.{History}
use Rattle.chk_chunk.specs.Keys.{Chunk, chunk_limit}
use Rattle.chk_world.specs.Names.{ArchiveFolder, Name, SegmentFile, read}
use Rattle.chk_world.specs.Books.{Segment, Book}
use Rattle.chk_world.specs.Jobs.{all_segments}
use Rattle.chk_world.specs.Rules.{Legal}
use Rattle.chk_world.specs.Places.{AtTold}
use Rattle.chk_world.specs.Sight.{job, Sight, own_book, AtJob}
use Rattle.chk_world.proofs.NameTests.{same_name}
use Rattle.chk_record_index.specs.declared.fault.JobFault.{JobFault}
use Rattle.chk_record_index.specs.declared.fault.JobFault.TheVariants.{Damaged, Spent}
use Rattle.chk_book.specs.Segmenting.{Writing, IsSegmentOf, IsFinished, segment_of, with_segment, with_aside}
use Rattle.chk_book.specs.Written.{IsAt}
use Rattle.chk_book.specs.declared.segmenter.Segmenter.{Segmenter}
use Rattle.chk_record_index.specs.Heads.{Head}
use Rattle.chk_archive_parts.specs.Shelves.{AreKept}
use Rattle.chk_archive_parts.specs.declared.shelf.Shelf.{Shelf}
use Rattle.chk_archive_parts.specs.declared.writing.Purpose.{Purpose}
use Rattle.chk_archive_parts.specs.declared.writing.Purpose.TheVariants.{Parts, Aside}

-- all that the job knows is the same, but for the archive's segment of this number
pub record SameBut (k : ℕ) (v u : Sight) : Type 0 where
  pub listing : u.listing ≡ v.listing
  pub own : (n : Name) → IsFalse (same_name n (SegmentFile ArchiveFolder k)) → u.own n ≡ v.own n
  pub sinks : (x : Stem) → u.sinks x ≡ v.sinks x

-- the segment's file holds just these chunks, all of it synced
pub record HoldsChunks (u : Sight) (g : Segment) (chunks : List Chunk) : Type 0 where
  pub file : File
  pub there : u.own (SegmentFile ArchiveFolder g.number) ≡ Some file
  pub is : IsSegmentOf chunk_limit file.bytes chunks
  pub synced : file.synced ≡ length file.bytes
  pub size : g.length ≡ length file.bytes

-- the segment of this number can be written of records in these files: the number is one, the archive's book doesn't name it, and
-- it is none of the files
pub record IsFree (v : Sight) (files : List (List ℕ)) (k : ℕ) : Type 0 where
  pub apart : (w : List ℕ) → Contains files w → IsFalse (same_name (read w) (SegmentFile ArchiveFolder k))
  pub count : IsTrue (is_count k)
  pub unnamed : IsFalse (list_any (λ (g : Segment). nat_eq g.number k) (all_segments (own_book v ArchiveFolder)))

-- the next segment holds these chunks, and the new book has it
pub record HasWritten (enter : Book → Segment → Book) (v : Sight) (old new : Book) (chunks : List Chunk) (u : Sight) : Type 0 where
  pub same : SameBut old.next v u
  pub segment : Segment
  pub number : segment.number ≡ old.next
  pub holds : HoldsChunks u segment chunks
  pub book : new ≡ enter old segment

-- the book with this segment: its chunks go on from the book's ends, or lie past a gap
abbrev pub with_new : Purpose → List Chunk → Book → Segment → Book
with_new Parts chunks b g = with_segment b g chunks
with_new Aside chunks b g = with_aside b (Some g)

-- at Ok the file holds all of the segment, synced, and the book has it; else the book is as before
abbrev pub HasEntered : Purpose → Writing → Book → Book → Result Unit JobFault → History → Type 0
HasEntered purpose w old new (Ok value) history = IsFinished w history × (new ≡ with_new purpose w.chunks old (segment_of w))
HasEntered purpose w old new (Err fault) history = new ≡ old

-- At Ok it is so; none of the files that are read is damaged. Where the numbers are spent the job knows what it knew but for that
-- segment.
abbrev pub Written : List (List ℕ) → (Book → Segment → Book) → Sight → Book → Book → List Chunk → Result Unit JobFault → History → Type 0
Written stamped enter v old new chunks (Ok value) history = AtJob stamped (HasWritten enter v old new chunks) history
Written stamped enter v old new chunks (Err (Damaged name at)) history = AtTold stamped job (λ h. ⊥) history
Written stamped enter v old new chunks (Err (Spent n)) history = AtJob stamped (SameBut old.next v) history
Written stamped enter v old new chunks (Err fault) history = Legal stamped history

-- the segmenter writes a segment of the archive
pub record IsForArchive (s : Segmenter) : Type 0 where
  pub w : Writing
  pub at : IsAt s w
  pub folder : w.folder ≡ codes "archive"

-- so far these chunks are written to the segment, and all else that the job knows is as before
pub record IsSoFar (v : Sight) (chunks : List Chunk) (s : Segmenter) (u : Sight) : Type 0 where
  pub same : SameBut s.number v u
  pub w : Writing
  pub at : IsAt s w
  pub folder : w.folder ≡ codes "archive"
  pub chunks_are : w.chunks ≡ chunks
  pub file : File
  pub there : u.own (SegmentFile ArchiveFolder s.number) ≡ Some file
  pub held : file.bytes ≡ w.held

-- at Ok they are written; after another answer nothing is said but that the history is legal
abbrev pub PutSo : List (List ℕ) → Sight → List Chunk → Segmenter → Result (Unit {0}) JobFault → History → Type 0
PutSo stamped v chunks s (Ok value) history = AtJob stamped (IsSoFar v chunks s) history
PutSo stamped v chunks s (Err (Damaged name at)) history = AtTold stamped job (λ h. ⊥) history
PutSo stamped v chunks s (Err fault) history = Legal stamped history

abbrev pub CutSo : List (List ℕ) → Sight → List (List ℕ) → List Head → List Chunk → Segmenter → Shelf
    → Result (Unit {0}) JobFault → History → Type 0
CutSo stamped v files heads chunks s r (Ok value) history =
    AtJob stamped (λ u. IsSoFar v chunks s u × AreKept v files heads r) history
CutSo stamped v files heads chunks s r (Err (Damaged name at)) history = AtTold stamped job (λ h. ⊥) history
CutSo stamped v files heads chunks s r (Err fault) history = Legal stamped history
