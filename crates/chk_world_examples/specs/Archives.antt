-- Books of the archive that the job's rule refuses for one part of what a book owes, each beside one that differs in it and is allowed.
use Rattle.chk_site.specs.declared.acts.Call.TheVariants.{Rename}
use Rattle.chk_world.specs.Books.{Two, Segment, End, Book, Version, Three, book_bytes, read_book, chunks_of_stream, chunks_named}
use Rattle.chk_world_examples.specs.Refusing.{TheRule, by, ObeysBut}
use Rattle.std.specs.Prelude.{◌≡◌, ℕ, ◌≤◌, ◌⊎◌, false, List, [], ◌∷◌, ◌++◌, length, Some, None, bytes_eq, if◌then◌else◌, codes, Contains, Any, IsSome, IsTrue}
use Rattle.chk_seqfile.specs.Headers.{header, marker_of}
use Rattle.chk_seqfile.specs.Entries.{record_entry}
use Rattle.chk_site.specs.Files.{File, Files}
use Rattle.chk_site.specs.Acts.{Renames}
use Rattle.chk_site.specs.History.{History, files_after}
use Rattle.chk_chunk.specs.Keys.{Stream, Chunk, key_1, chunk_end, same_data}
use Rattle.chk_world.specs.Names.{ArchiveFolder, BookFile, SegmentFile, Temporary, file}
use Rattle.chk_world.specs.Committed.{OnFile, IsWhole, HasFile, aside_chunks}
use Rattle.chk_world.specs.Jobs.{IsSource, Grows, IsSoundSegment, Run, HasStart, all_segments, aside_after, end_after, chunks_after, JobRule}
use Rattle.chk_world.specs.Rules.{must_start}
use Rattle.chk_world_examples.specs.Texts.{hello, head, done_sink, seg, book_tmp, book_name, segment, stream, chunk, end}
use Rattle.chk_world.specs.Sight.{job}
use Rattle.chk_world_examples.specs.Books.{with_files, segment_of}

-- a part of what a book of the archive owes, or none
pub data BookPart : Type 0 where
  NoPart : BookPart
  ItsStreams : BookPart
  ItsStarts : BookPart
  NewAside : BookPart
  OldAside : BookPart

-- a part that isn't left out
abbrev pub but : BookPart → BookPart → Type 0 → Type 0
but ItsStreams ItsStreams P = Unit {0}
but ItsStarts ItsStarts P = Unit {0}
but NewAside NewAside P = Unit {0}
but OldAside OldAside P = Unit {0}
but left_out part P = P

-- all that the book owes, but that part
pub record BookBut (left_out : BookPart) (history : History) (b : Book) : Type 0 where
  pub sound : (g : Segment) → Contains (all_segments b) g
      → HasFile (file (files_after history) (SegmentFile ArchiveFolder g.number)) (IsSoundSegment ArchiveFolder g)
  pub listed : but left_out ItsStreams
      ((c : Chunk) → Contains (chunks_named (files_after history) ArchiveFolder b) c → Any (λ e. e.stream ≡ c.key.stream) b.ends)
  pub ends : (e : End) → Contains b.ends e
      → Run e.start e.start (chunks_of_stream e.stream (chunks_named (files_after history) ArchiveFolder b)) e.end
  pub starts : but left_out ItsStarts ((e : End) → Contains b.ends e → HasStart ArchiveFolder history e)
  pub each : (s : Stream) → Grows history s (chunks_after history b s)
  pub aside_new : but left_out NewAside ((c : Chunk) → Contains (aside_after history b) c → IsSource (files_after history) c)
  pub aside_old : but left_out OldAside
      ((c : Chunk) → Contains (aside_chunks (files_after history)) c
      → Any (λ d. IsTrue (same_data c d)) (aside_after history b) ⊎ (chunk_end c ≤ end_after history b c.key.stream))

-- the archive's next book is this one, and whole
pub record Written (history : History) (b : Book) : Type 0 where
  pub next : HasFile (file (files_after history) (Temporary (BookFile ArchiveFolder))) (λ f. read_book f.bytes ≡ Some b)
  pub whole : OnFile (file (files_after history) (Temporary (BookFile ArchiveFolder))) IsWhole
  pub there : IsSome (files_after history book_tmp)
  pub starts : must_start job history ≡ false

abbrev pub Publishes : History → Type 0
Publishes history = JobRule [] history (Renames book_tmp book_name)

-- a book that is refused for that part alone
pub record RefusedFor (part : BookPart) (history : History) (b : Book) : Type 0 where
  pub written : Written history b
  pub others : BookBut part history b
  pub refused : Publishes history → ⊥

-- a book of which all parts hold
pub record IsAllowed (history : History) (b : Book) : Type 0 where
  pub written : Written history b
  pub all : BookBut NoPart history b

-- the archive's next book, its first segment with the one chunk, the done sink of that chunk, and other files
abbrev pub files_with : List ℕ → Files → Files
files_with bytes others n =
    if bytes_eq n book_tmp then Some (record { bytes = bytes; synced = length bytes })
    else if bytes_eq n seg then Some (segment_of hello 144)
    else if bytes_eq n done_sink then Some (record { bytes = head ++ record_entry (key_1 chunk.key) chunk.value; synced = 0 })
    else others n

abbrev pub no_others : Files
no_others n = None

-- a moment at which that is the archive's next book
abbrev pub publishing : Version → Book → Files → History
publishing v b others = with_files (files_with (book_bytes v b) others)

abbrev pub late : Chunk
late = record { key = record chunk.key { seq = 9 }; value = hello }

abbrev pub second : Segment
second = record { number = 2; length = 144 }

-- the first book of the archive
abbrev pub first_book : Book
first_book = record { next = 3; segments = segment ∷ []; ends = end ∷ []; aside = None }

-- a book without its stream
abbrev pub no_streams : Book
no_streams = record { next = 3; segments = segment ∷ []; ends = []; aside = None }

-- a stream without bytes that has another start
abbrev pub empty_end : End
empty_end = record { stream = record stream { kind = codes "Other" }; start = 5; end = 5 }

-- a stream that hasn't begun
abbrev pub unbegun_end : End
unbegun_end = record { stream = record stream { kind = codes "Third" }; start = 0; end = 0 }

abbrev pub unbegun : Book
unbegun = record { next = 3; segments = segment ∷ []; ends = end ∷ unbegun_end ∷ []; aside = None }

abbrev pub other_start : Book
other_start = record { next = 3; segments = segment ∷ []; ends = end ∷ empty_end ∷ []; aside = None }

-- a book that sets a chunk past a gap aside
abbrev pub with_aside : Book
with_aside = record { next = 3; segments = segment ∷ []; ends = end ∷ []; aside = Some second }

-- the second segment
abbrev pub second_file : File
second_file = record { bytes = header (marker_of (codes "seg.2")) ++ record_entry (key_1 late.key) hello; synced = 144 }

abbrev pub second_there : Files
second_there n = if bytes_eq n (codes "archive/seg.2") then Some second_file else None

-- an older book that has set that chunk aside
abbrev pub old_book : Book
old_book = record { next = 3; segments = []; ends = []; aside = Some second }

abbrev pub set_aside : Files
set_aside n =
    if bytes_eq n book_name then Some (record { bytes = book_bytes Three old_book; synced = length (book_bytes Three old_book) })
    else second_there n

-- books of the archive. All else that their publication owes holds, and one of which all parts hold may be published
pub record ArchivesAreRefused : Type 0 where
  pub else_obeys : (history : History) (b : Book) → Written history b
      → ObeysBut TheRule history (by job Rename (book_tmp ∷ book_name ∷ []) history)
  pub allowed : (history : History) (b : Book) → IsAllowed history b → Publishes history
  -- a book has each stream of its chunks
  pub without_stream : RefusedFor ItsStreams (publishing Two no_streams no_others) no_streams
  pub with_stream : IsAllowed (publishing Two first_book no_others) first_book
  -- each stream has its start
  pub another_start : RefusedFor ItsStarts (publishing Two other_start no_others) other_start
  -- what it sets aside is of a done sink, or was set aside before
  pub false_aside : RefusedFor NewAside (publishing Three with_aside second_there) with_aside
  pub true_aside : IsAllowed (publishing Three with_aside set_aside) with_aside
  -- no chunk that was set aside is lost, but where the archive has reached its end
  pub lost_aside : RefusedFor OldAside (publishing Two first_book set_aside) first_book
