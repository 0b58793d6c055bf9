-- How a merge goes on by cursors, and what it gives.
use Rattle.std.specs.Prelude.{◌≡◌, ℕ, zero, suc, List, [], ◌∷◌, ◌++◌, length, map, Option, Some, None, unwrap_or, true, false, Bool, Result, Ok, Err}
use Rattle.chk_site.specs.Files.{Files}
use Rattle.chk_site.specs.History.{History}
use Rattle.chk_chunk.specs.Keys.{Chunk, read_key}
use Rattle.chk_seqfile.specs.Entries.{Placed}
use Rattle.chk_world.proofs.Each.{Each}
use Rattle.chk_world.specs.Books.{Book, End, chunk_with, chunk_of}
use Rattle.chk_record_index.specs.Heads.{Head}
use Rattle.chk_record_index.specs.Order.{no_head, in_head_order}
use Rattle.chk_record_index.specs.Pieces.{bytes_in}
use Rattle.chk_record_index.specs.declared.fault.JobFault.{JobFault}
use Rattle.chk_book.specs.declared.book.Book.{Book as Struct}
use Rattle.chk_book.specs.Books.{book_view}
use Rattle.chk_book.specs.Folders.{most_in}
use Rattle.chk_book.specs.declared.segmenter.Segmenter.{Segmenter}
use Rattle.chk_book.specs.Segmenting.{Writing, HoldsSegment}
use Rattle.chk_book.specs.Written.{IsAt, taken}
use Rattle.chk_record_reader.specs.ReadBack.{value_at}
use Rattle.chk_record_reader.specs.Segments.{names_of, HasFiles, IsSound, heads_from}
use Rattle.chk_record_reader.specs.Checking.{AllGoWell}
use Rattle.chk_record_reader.specs.Archives.{chunk_in}
use Rattle.chk_record_reader.specs.Merging.{SoundHeads, WroteMerged}
use Rattle.chk_archive_merge.specs.declared.cursor.Cursor.{Cursor}
use Rattle.chk_archive_merge.specs.declared.tour.Tour.{Tour}
use Rattle.chk_archive_merge.specs.Cursors.{StandsBehind, IsNext}
use Rattle.chk_archive_merge.specs.declared.tour.Turn.TheVariants as turn
use Rattle.chk_archive_merge.specs.Tours.{IsToured, IsTurn}
use Rattle.chk_archive_merge.specs.Sides.{AreSides, AreWithin}

-- the chunk that the cursor holds, of at most so many bytes
abbrev pub chunk_here : ℕ → Cursor → Chunk
chunk_here most c =
    unwrap_or (chunk_with most (read_key c.key) c.value) (record { key = no_head.key; value = [] })

-- before a record is written: the files are these, and the segment holds what was written
abbrev pub CanPut : List (List ℕ) → Files → Writing → History → Type 0
CanPut names held w history = HasFiles names held history × HoldsSegment w history

-- one record more is behind the cursor: that of this chunk, which stands at its place in the file
pub record IsBehind (most : ℕ) (bytes : List ℕ) (c : Chunk) (done : List Placed) (new : Cursor) : Type 0 where
  pub r : Placed
  pub is : chunk_of most r ≡ Some c
  pub value : value_at r.at bytes ≡ c.value
  pub stands : StandsBehind bytes new (done ++ r ∷ [])

-- at Ok the chunk that the cursor held is written, if it could go on
abbrev pub PutOne : ℕ → List (List ℕ) → Files → List ℕ → Segmenter → Writing → Cursor → Cursor
    → Result (Option ℕ) JobFault → History → Type 0
PutOne most names held name s w old new (Ok (Some reached)) history =
    CanPut names held (taken s w (chunk_here most old)) history
    × ((done : List Placed) → StandsBehind (bytes_in (held name)) old done
    → IsBehind most (bytes_in (held name)) (chunk_here most old) done new)
PutOne most names held name s w old new (Ok None) history = HasFiles names held history
PutOne most names held name s w old new (Err fault) history = Unit {0}

-- at Ok with an offset the cursor held a chunk that goes on from the offset before, up to this one
abbrev pub WasNext : ℕ → End → ℕ → Cursor → Result (Option ℕ) JobFault → Type 0
WasNext most e reached c (Ok (Some seq)) =
    IsNext most e reached c (chunk_here most c) × (seq ≡ (chunk_here most c).key.seq)
WasNext most e reached c (Ok None) = Unit {0}
WasNext most e reached c (Err fault) = Unit {0}

-- then the segment under writing has it
abbrev pub IsPut : ℕ → Segmenter → Segmenter → Cursor → Result (Option ℕ) JobFault → Type 0
IsPut most old new c (Ok (Some seq)) = (w : Writing) → IsAt old w → IsAt new (taken old w (chunk_here most c))
IsPut most old new c (Ok None) = Unit {0}
IsPut most old new c (Err fault) = Unit {0}

-- the records of some heads are written, in the order of the tour, and they are all that are behind the
-- cursors
pub record IsMerging (most : ℕ) (names : List (List ℕ)) (held : Files) (es : List End) (t : Tour) (cs : List Cursor) (w : Writing)
    (history : History) : Type 0 where
  pub can : CanPut names held w history
  pub heads : List Head
  pub chunks : w.chunks ≡ map (chunk_in names held) heads
  pub toured : IsToured es t heads
  pub sides : AreSides most held 0 names cs heads
  pub within : AreWithin (length names) heads

-- the chunk that one of the cursors holds
abbrev pub chunk_at : ℕ → List Cursor → ℕ → Chunk
chunk_at most [] file = record { key = no_head.key; value = [] }
chunk_at most (c ∷ cs) zero = chunk_here most c
chunk_at most (c ∷ cs) (suc file) = chunk_at most cs file

-- at Ok with an offset the segment under writing has this chunk
abbrev pub IsPutAt : Segmenter → Segmenter → Chunk → Result (Option ℕ) JobFault → Type 0
IsPutAt old new c (Ok (Some seq)) = (w : Writing) → IsAt old w → IsAt new (taken old w c)
IsPutAt old new c (Ok None) = Unit {0}
IsPutAt old new c (Err fault) = Unit {0}

-- the tour, at this offset
abbrev pub at_offset : Tour → ℕ → Tour
at_offset t reached = record { stream = t.stream; file = t.file; reached = reached }

-- at Ok with an offset one record more is written; without one the files are still these
abbrev pub WroteAt : ℕ → List (List ℕ) → Files → List End → Tour → List Cursor → Writing → Result (Option ℕ) JobFault
    → History → Type 0
WroteAt most names held es t cs w (Ok (Some reached)) history = IsMerging most names held es (at_offset t reached) cs w history
WroteAt most names held es t cs w (Ok None) history = HasFiles names held history
WroteAt most names held es t cs w (Err fault) history = Unit {0}

-- each cursor is at the first record of its file
abbrev pub AreOpen : ℕ → List (List ℕ) → Files → List Cursor → Type 0
AreOpen most names held cs = AreSides most held 0 names cs []

-- the files are these, and each cursor is at the first record of its file
abbrev pub StandOpen : ℕ → List (List ℕ) → Files → List Cursor → History → Type 0
StandOpen most names held cs history = HasFiles names held history × AreOpen most names held cs

-- the same where the segment holds what was written
abbrev pub CanTour : ℕ → List (List ℕ) → Files → Writing → List Cursor → History → Type 0
CanTour most names held w cs history = CanPut names held w history × AreOpen most names held cs

-- at Ok the files are still these, and there is a cursor at the first record of each, if all could be
-- begun
abbrev pub HasOpened : ℕ → List (List ℕ) → Files → List Cursor → Result Bool JobFault → History → Type 0
HasOpened most names held cs (Ok true) history = StandOpen most names held cs history
HasOpened most names held cs (Ok false) history = HasFiles names held history
HasOpened most names held cs (Err fault) history = Unit {0}

-- at Ok the files are still these
abbrev pub StillHas : {T : Type 0} → List (List ℕ) → Files → Result T JobFault → History → Type 0
StillHas names held (Ok value) history = HasFiles names held history
StillHas names held (Err fault) history = Unit {0}

-- at Ok all records are written in turn, if it could go on
abbrev pub WroteAll : ℕ → List (List ℕ) → Files → List End → List ℕ → ℕ → Segmenter → Result Bool JobFault → History → Type 0
WroteAll most names held es folder number s (Ok true) history =
    (t : Tour) × (cs : List Cursor) × (w : Writing) × IsAt s w × (w.folder ≡ folder) × (w.number ≡ number)
    × IsMerging most names held es t cs w history
    × IsTurn es cs t turn.End
WroteAll most names held es folder number s (Ok false) history = HasFiles names held history
WroteAll most names held es folder number s (Err fault) history = Unit {0}

-- at Ok with a book the segments are sound, and its one segment has all their records in order; without
-- one the files are still these
abbrev pub HasTried : List ℕ → Book → Files → Result (Option Book) JobFault → History → Type 0
HasTried folder b held (Ok (Some merged)) history =
    (heads : List Head) × SoundHeads folder b held (Ok heads) history
    × WroteMerged folder b.next (names_of folder b) held heads (Ok merged) history
HasTried folder b held (Ok None) history = HasFiles (names_of folder b) held history
HasTried folder b held (Err fault) history = Unit {0}

-- at Ok the chunk that the cursor held is written, if it went on
abbrev pub HasPut : ℕ → Segmenter → Writing → Cursor → Result (Option ℕ) JobFault → History → Type 0
HasPut most s w c (Ok (Some seq)) history = HoldsSegment (taken s w (chunk_here most c)) history
HasPut most s w c (Ok None) history = HoldsSegment w history
HasPut most s w c (Err fault) history = Unit {0}

-- the book that was written, seen as a book
abbrev pub tried : Result (Option Struct) JobFault → Result (Option Book) JobFault
tried (Ok (Some b)) = Ok (Some (book_view b))
tried (Ok None) = Ok None
tried (Err fault) = Err fault

-- a book that was written, by whether it is whole
abbrev pub whole_result : Book → Result Bool JobFault → Result (Option Book) JobFault
whole_result b (Ok true) = Ok (Some b)
whole_result b (Ok false) = Ok None
whole_result b (Err fault) = Err fault

-- at Ok with a book its one segment has all records in order, which run as the ends say, and the files
-- are sound; without one the files are still these
abbrev pub WroteInTurn : List ℕ → ℕ → List (List ℕ) → Files → List End → Result (Option Book) JobFault → History → Type 0
WroteInTurn folder next names held es (Ok (Some merged)) history =
    HasFiles names held history × Each (IsSound (most_in folder) held) names
    × AllGoWell es (heads_from (most_in folder) held 0 names)
    × WroteMerged folder next names held (in_head_order (heads_from (most_in folder) held 0 names)) (Ok merged) history
WroteInTurn folder next names held es (Ok None) history = HasFiles names held history
WroteInTurn folder next names held es (Err fault) history = Unit {0}
