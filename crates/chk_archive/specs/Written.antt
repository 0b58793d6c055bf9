-- The segments that an archive run writes, and how many numbers it needs for them.
use Rattle.std.specs.Prelude.{◌≡◌, ℕ, ◌+◌, ◌-◌, ◌<◌, ◌≤◌, ◌^◌, Bool, true, false, ◌&&◌, nat_le, List, [], ◌∷◌, ◌++◌, length, Some, if◌then◌else◌}
use Rattle.chk_bytes.specs.Numbers.{last_number}
use Rattle.chk_site.specs.Files.{Files}
use Rattle.chk_site.specs.History.{History, files_after}
use Rattle.chk_chunk.specs.Keys.{Chunk, same_data}
use Rattle.chk_world.specs.Names.{ArchiveFolder}
use Rattle.chk_world.specs.Books.{Segment, Book, book_of, segment_chunks, chunks_named}
use Rattle.chk_world.specs.Committed.{aside_chunks, archived_end}
use Rattle.chk_world.specs.ArchiveRuns.{Listing, last_listing, in_order, found}
use Rattle.chk_archive_plan.specs.Plan.{parts_of, ends_of, set_aside}

-- ---- what is written

-- the parts that a run takes of what it found, in the order of streams and of first offsets; each has the key of its chunk
abbrev pub taken_parts : Listing → List Chunk
taken_parts l = parts_of (archived_end l.upto) (in_order (found l))

-- the chunks that it sets aside
abbrev pub kept_aside : Listing → List Chunk
kept_aside l = set_aside (ends_of (archived_end l.upto) (in_order (found l))) (in_order (found l))

-- where there are chunks one segment holds them, in this order; else there is no segment
abbrev pub HoldInOne : Files → List Chunk → List Segment → Type 0
HoldInOne files [] gs = gs ≡ []
HoldInOne files (c ∷ cs) gs =
    (g : Segment) × (gs ≡ g ∷ []) × (segment_chunks files ArchiveFolder g ≡ c ∷ cs)

-- the segment has all records that the loaded book's segments had at the listing, unchanged, in the order of streams and of
-- first offsets
pub record IsMerge (loaded : Book) (l : Listing) (files : Files) (g : Segment) : Type 0 where
  pub number : g.number ≡ loaded.next
  pub records : segment_chunks files ArchiveFolder g ≡ in_order (chunks_named (files_after l.upto) ArchiveFolder loaded)

-- these segments are those that the loaded book named, where they are fewer than 16, else their one merge
pub record AreOld (loaded : Book) (l : Listing) (files : Files) (gs : List Segment) : Type 0 where
  pub few : length loaded.segments < 16 → gs ≡ loaded.segments
  pub many : 16 ≤ length loaded.segments → (g : Segment) × (gs ≡ g ∷ []) × IsMerge loaded l files g

-- the book names the old segments and behind them one that holds the parts, or none where nothing was taken
pub record HasWritten (loaded : Book) (l : Listing) (history : History) : Type 0 where
  pub old : List Segment
  pub new : List Segment
  pub segments : (book_of (files_after history) ArchiveFolder).segments ≡ old ++ new
  pub old_are : AreOld loaded l (files_after history) old
  pub new_are : HoldInOne (files_after history) (taken_parts l) new

-- ---- the numbers that it needs

-- one segment where there are chunks
abbrev pub one_for : List Chunk → ℕ
one_for [] = 0
one_for (c ∷ cs) = 1

-- the chunks are equal in stream, sequence id and data, one by one
abbrev pub same_chunks : List Chunk → List Chunk → Bool
same_chunks [] [] = true
same_chunks [] (d ∷ ds) = false
same_chunks (c ∷ cs) [] = false
same_chunks (c ∷ cs) (d ∷ ds) = same_data c d && same_chunks cs ds

-- one segment where there are chunks to be set aside that aren't just those which are
abbrev pub one_aside : List Chunk → List Chunk → ℕ
one_aside kept old = if same_chunks kept old then 0 else one_for kept

-- one where 16 segments or more are to be merged
abbrev pub one_merge : Book → ℕ
one_merge b = if nat_le 16 (length b.segments) then 1 else 0

-- how many segments are needed for what a listing shows
abbrev pub needed_behind : Listing → ℕ
needed_behind l = one_for (taken_parts l) + one_aside (kept_aside l) (aside_chunks (files_after l.upto))

-- the numbers suffice for all that the run had to write
abbrev pub HadNumbers : Book → Listing → Type 0
HadNumbers loaded l = loaded.next + (one_merge loaded + needed_behind l) < 2 ^ 63

-- No number is left for a segment that is needed now: the archive's book has 16 segments or more and the last number, or it has
-- fewer numbers left than what the last listing shows needs.
pub data LacksNumbers (history : History) : Type 0 where
  for_merge : 16 ≤ length (book_of (files_after history) ArchiveFolder).segments
      → (book_of (files_after history) ArchiveFolder).next ≡ last_number → LacksNumbers history
  for_new : (l : Listing) → last_listing history ≡ Some l
      → 2 ^ 63 ≤ (book_of (files_after history) ArchiveFolder).next + needed_behind l → LacksNumbers history
