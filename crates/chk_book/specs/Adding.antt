-- A segment that is written of given chunks and entered at once.
use Rattle.std.specs.Prelude.{◌≡◌, ℕ, ◌&&◌, Bool, List, Result, Ok, Err}
use Rattle.chk_site.specs.History.{History}
use Rattle.chk_chunk.specs.Keys.{Chunk, is_key, has_value}
use Rattle.chk_world.specs.Books.{Book}
use Rattle.chk_record_index.specs.declared.fault.JobFault.{JobFault}
use Rattle.chk_book.specs.Folders.{most_in}
use Rattle.chk_book.specs.Segmenting.{Writing, all_bytes, IsSegmentOf, IsFinished, segment_of, with_segment}

-- a chunk that a segment of the folder can hold
abbrev pub is_part : List ℕ → Chunk → Bool
is_part folder c = is_key c.key && has_value (most_in folder) c.key c.value

-- at Ok the next segment's file holds these chunks, all of it synced, and the book has the segment; else the book is as before
abbrev pub HasAdded : List ℕ → List Chunk → Book → Book → Result Unit JobFault → History → Type 0
HasAdded folder chunks old new (Ok value) history =
    (w : Writing) × (w.folder ≡ folder) × (w.number ≡ old.next) × (w.chunks ≡ chunks) × IsSegmentOf (most_in folder) (all_bytes w) chunks
    × IsFinished w history × (new ≡ with_segment old (segment_of w) chunks)
HasAdded folder chunks old new (Err fault) history = new ≡ old
