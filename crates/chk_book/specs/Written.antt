-- What the struct of a segment under writing stands for.
use Rattle.std.specs.Prelude.{◌≡◌, ℕ, Bool, nat_le, if◌then◌else◌, List, [], ◌∷◌, ◌++◌, length, map, Some, Result, Ok, Err}
use Rattle.chk_site.specs.History.{History}
use Rattle.chk_chunk.specs.Keys.{Chunk, written_key}
use Rattle.chk_seqfile.specs.Entries.{piece_at}
use Rattle.chk_seqfile.specs.Headers.{marker_of}
use Rattle.chk_world.specs.Books.{Book, End}
use Rattle.chk_record_index.specs.declared.fault.JobFault.{JobFault}
use Rattle.chk_book.specs.declared.segmenter.Segmenter.{Segmenter}
use Rattle.chk_book.specs.Folders.{segment_stem, most_in}
use Rattle.chk_book.specs.Views.{end_view}
use Rattle.chk_book.specs.Segmenting.{Writing, begun, all_bytes, IsSegmentOf, HoldsSegment, IsFinished, raised_by, raised_all, segment_of, with_segment, with_aside}

-- the segment is at this: the buffer is what is still to be appended, the writer stands behind all of it, and the ends are
-- those of its chunks, in turn
pub record IsAt (s : Segmenter) (w : Writing) : Type 0 where
  pub folder : s.folder ≡ w.folder
  pub number : s.number ≡ w.number
  pub buffer : s.buffer ≡ w.left
  pub sound : IsSegmentOf (most_in w.folder) (all_bytes w) w.chunks
  pub place : s.writer.place ≡ length (all_bytes w)
  pub marker : s.writer.marker ≡ marker_of (segment_stem w.number)
  pub file_marker : sound.form.form.marker ≡ s.writer.marker
  pub ends : (es : List End) → raised_by (map end_view s.ends) es ≡ raised_all w.chunks es

-- the piece that a chunk is written as
abbrev pub next_piece : Segmenter → Chunk → List ℕ
next_piece s c = piece_at s.writer.marker s.writer.place s.writer.last_sync (written_key c.key) c.value

-- from this many bytes on what is still to be appended is appended
abbrev pub full_size : ℕ
full_size = 1048576

abbrev pub is_full : List ℕ → Bool
is_full left = nat_le full_size (length left)

-- the segment with the chunk behind the others
abbrev pub taken : Segmenter → Writing → Chunk → Writing
taken s w c =
    let left = w.left ++ next_piece s c in
    record {
      folder = w.folder;
      number = w.number;
      chunks = w.chunks ++ c ∷ [];
      held = if is_full left then w.held ++ left else w.held;
      left = if is_full left then [] else left;
    }

-- at Ok the segment's file is there, with the header
abbrev pub HasBegun : List ℕ → Book → Result Segmenter JobFault → History → Type 0
HasBegun folder b (Ok s) history = HoldsSegment (begun folder b.next) history
HasBegun folder b (Err fault) history = Unit {0}

-- at Ok the file holds what the segment with the chunk says
abbrev pub HasTaken : Segmenter → Writing → Chunk → Result Unit JobFault → History → Type 0
HasTaken s w c (Ok value) history = HoldsSegment (taken s w c) history
HasTaken s w c (Err fault) history = Unit {0}

-- at Ok the file holds all of it, synced, and the book has the segment; else the book is as before
abbrev pub HasEnded : Writing → Book → Book → Result Unit JobFault → History → Type 0
HasEnded w old new (Ok value) history = IsFinished w history × (new ≡ with_segment old (segment_of w) w.chunks)
HasEnded w old new (Err fault) history = new ≡ old

abbrev pub HasEndedAside : Writing → Book → Book → Result Unit JobFault → History → Type 0
HasEndedAside w old new (Ok value) history = IsFinished w history × (new ≡ with_aside old (Some (segment_of w)))
HasEndedAside w old new (Err fault) history = new ≡ old
