-- What it is to enter the new records' segment.
use Rattle.std.specs.Prelude.{◌≡◌, ℕ, IsFalse, List, [], ◌∷◌, ◌++◌, Option, Some, None}
use Rattle.chk_site.specs.History.{History}
use Rattle.chk_chunk.specs.Keys.{Chunk}
use Rattle.chk_world.specs.Names.{ArchiveFolder, DemuxFolder, Name, SegmentFile}
use Rattle.chk_world.specs.Books.{Segment, Book}
use Rattle.chk_world.specs.Jobs.{NewBook}
use Rattle.chk_world.specs.Rules.{Legal}
use Rattle.chk_world.specs.Sight.{Sight, sight, own_book, own_chunks}
use Rattle.chk_world.proofs.NameTests.{same_name}
use Rattle.chk_world.proofs.Publishing.{is_of_book}
use Rattle.chk_book.specs.Segmenting.{with_segment}
use Rattle.chk_book.specs.declared.segmenter.Segmenter.{Segmenter}
use Rattle.chk_demux.specs.Writes.{HoldsChunks}

-- the job's own files are the same, but for the segment of records of this number and how their book is spelled
abbrev pub SameBeside : ℕ → Sight → Sight → Type 0
SameBeside k v u =
    (n : Name) → IsFalse (is_of_book DemuxFolder n) → IsFalse (same_name n (SegmentFile DemuxFolder k)) → u.own n ≡ v.own n

-- once the next segment holds these records, the book that names it too may be published
abbrev pub MayEnter : List (List ℕ) → Sight → Book → List Chunk → Type 0
MayEnter stamped v b outs =
    (own_book v DemuxFolder ≡ b)
    × ((g : Segment) → g.number ≡ b.next → (history : History) → Legal stamped history
    → own_book (sight history) DemuxFolder ≡ b → SameBeside b.next v (sight history)
    → HoldsChunks (sight history) g outs → NewBook stamped DemuxFolder history (with_segment b g outs))

-- the book names the old one's segments, and one more where one was written; else there are no records
abbrev pub NamesMore : Option Segmenter → Book → List Chunk → Book → Type 0
NamesMore None b outs new = (outs ≡ []) × (new.segments ≡ b.segments)
NamesMore (Some s) b outs new = (g : Segment) × (new.segments ≡ b.segments ++ g ∷ [])

-- the archive is as it was, and these records stand behind those of the old book
pub record Entered (v : Sight) (b : Book) (outs : List Chunk) (s : Option Segmenter) (u : Sight) : Type 0 where
  pub archive : own_book u ArchiveFolder ≡ own_book v ArchiveFolder
  pub segments : (k : ℕ) → u.own (SegmentFile ArchiveFolder k) ≡ v.own (SegmentFile ArchiveFolder k)
  pub records : own_chunks u DemuxFolder (own_book u DemuxFolder).segments ≡ own_chunks v DemuxFolder b.segments ++ outs
  pub more : NamesMore s b outs (own_book u DemuxFolder)
