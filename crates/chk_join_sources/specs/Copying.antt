-- What the copying of chosen records leaves.
use Rattle.std.specs.Prelude.{◌≡◌, ℕ, ◌-◌, ◌≤◌, List, codes, length, map, take, drop, Result, Ok, Err, if◌then◌else◌}
use Rattle.chk_site.specs.Files.{Files}
use Rattle.chk_site.specs.Acts.{Deed}
use Rattle.chk_site.specs.History.{History}
use Rattle.chk_chunk.specs.Keys.{Chunk}
use Rattle.chk_world.specs.Books.{Book}
use Rattle.chk_world.specs.Sight.{job}
use Rattle.chk_world.specs.JobSteps.{ReadsOrWrites}
use Rattle.chk_record_index.specs.declared.fault.JobFault.{JobFault}
use Rattle.chk_record_index.specs.declared.fault.JobFault.TheVariants.{Damaged}
use Rattle.chk_book.specs.Folders.{segment_name, most_in}
use Rattle.chk_book.specs.Segmenting.{Writing, HoldsSegment, IsSegmentOf, all_bytes, IsFinished, segment_of, with_segment}
use Rattle.chk_book.specs.Written.{IsAt}
use Rattle.chk_book.specs.declared.segmenter.Segmenter.{Segmenter}
use Rattle.chk_record_reader.specs.declared.reader.RecordReader.{RecordReader}
use Rattle.chk_record_reader.specs.Segments.{HasFiles}
use Rattle.chk_record_reader.specs.Archives.{AreWindows, chunk_in}
use Rattle.chk_record_reader.specs.Merging.{bare_book}
use Rattle.chk_join_sources.specs.declared.gathering.Side.{Side}
use Rattle.chk_join_sources.specs.declared.comparing.Readers.{Readers}
use Rattle.chk_join_sources.specs.Comparing.{AreTrue}
use Rattle.chk_join_sources.specs.declared.plan.Choice.{Choice}
pub use Rattle.chk_record_index.specs.Faults.{Worked}

-- the file of the segment of `joined` of this number
abbrev pub joined_segment : ℕ → List ℕ
joined_segment number = segment_name (codes "joined") number

-- its calls read files, or write this segment
abbrev pub Copies : ℕ → Deed → Type 0
Copies number = ReadsOrWrites (joined_segment number)

-- the job's segmenter writes a segment of `joined`
pub record IsForJoined (s : Segmenter) : Type 0 where
  pub who : s.who ≡ job
  pub w : Writing
  pub at : IsAt s w
  pub folder : w.folder ≡ codes "joined"

-- it still writes the same one
pub record GoesOn (old new : Segmenter) : Type 0 where
  pub number : new.number ≡ old.number
  pub writer : IsForJoined new

-- all files are as they were, and the segment has these chunks
pub record HasCopied (all : List (List ℕ)) (held : Files) (chunks : List Chunk) (s : Segmenter) (history : History) : Type 0 where
  pub files : HasFiles all held history
  pub w : Writing
  pub at : IsAt s w
  pub folder : w.folder ≡ codes "joined"
  pub chunks_are : w.chunks ≡ chunks
  pub holds : HoldsSegment w history

-- the same, and what the side's reader holds is what its files have
abbrev pub CanCopy : List (List ℕ) → Files → Side → List Chunk → RecordReader → Segmenter → History → Type 0
CanCopy all held side chunks r s history = HasCopied all held chunks s history × AreWindows side.names.now held r

-- it is so at Ok; nothing is ever damaged
abbrev pub Copied : List (List ℕ) → Files → Side → List Chunk → RecordReader → Segmenter → Result (Unit {0}) JobFault → History
    → Type 0
Copied all held side chunks r s (Ok value) history = CanCopy all held side chunks r s history
Copied all held side chunks r s (Err (Damaged name at)) history = ⊥
Copied all held side chunks r s (Err fault) history = Unit {0}

-- the chunks for which a side's heads stand, from the one place up to the other
abbrev pub chunks_between : Side → Files → ℕ → ℕ → List Chunk
chunks_between side held first end =
    map (chunk_in side.names.now held) (take (end - first) (drop first side.heads.now))

-- those of a choice
abbrev pub chosen_chunks : Side → Side → Files → Choice → List Chunk
chosen_chunks l r held c =
    if c.from_right then chunks_between r held c.block.first c.block.end else chunks_between l held c.block.first c.block.end

-- the choice's block is one of its side's heads
pub record FitsIn (l r : Side) (c : Choice) : Type 0 where
  pub low : c.block.first ≤ c.block.end
  pub high : c.block.end ≤ length (if c.from_right then r.heads.now else l.heads.now)

-- the same of both sides' readers
abbrev pub CanCopyBoth : List (List ℕ) → Files → Side → Side → List Chunk → Readers → Segmenter → History → Type 0
CanCopyBoth all held l r chunks rs s history = HasCopied all held chunks s history × AreTrue l r held rs

abbrev pub CopiedBoth : List (List ℕ) → Files → Side → Side → List Chunk → Readers → Segmenter → Result (Unit {0}) JobFault
    → History → Type 0
CopiedBoth all held l r chunks rs s (Ok value) history = CanCopyBoth all held l r chunks rs s history
CopiedBoth all held l r chunks rs s (Err (Damaged name at)) history = ⊥
CopiedBoth all held l r chunks rs s (Err fault) history = Unit {0}

-- the same without what readers hold
abbrev pub CopiedAll : List (List ℕ) → Files → List Chunk → Segmenter → Result (Unit {0}) JobFault → History → Type 0
CopiedAll all held chunks s (Ok value) history = HasCopied all held chunks s history
CopiedAll all held chunks s (Err (Damaged name at)) history = ⊥
CopiedAll all held chunks s (Err fault) history = Unit {0}

-- the segment of this number has these chunks, whole and synced, and the book names it alone
pub record IsChosenSegment (next : ℕ) (chunks : List Chunk) (b : Book) (w : Writing) (history : History) : Type 0 where
  pub folder_is : w.folder ≡ codes "joined"
  pub number_is : w.number ≡ next
  pub chunks_are : w.chunks ≡ chunks
  pub form : IsSegmentOf (most_in (codes "joined")) (all_bytes w) w.chunks
  pub finished : IsFinished w history
  pub book_is : b ≡ with_segment (bare_book next) (segment_of w) w.chunks

-- at Ok it is so, and all files are as they were; nothing is ever damaged
abbrev pub WroteChosen : List (List ℕ) → Files → ℕ → List Chunk → Result Book JobFault → History → Type 0
WroteChosen all held next chunks (Ok b) history =
    HasFiles all held history × ((w : Writing) × IsChosenSegment next chunks b w history)
WroteChosen all held next chunks (Err (Damaged name at)) history = ⊥
WroteChosen all held next chunks (Err fault) history = Unit {0}
