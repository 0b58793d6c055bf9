-- What holds of the sinks in every legal history.
use Rattle.std.specs.Prelude.{◌≡◌, ◌⊎◌, ℕ, ◌≤◌, ◌<◌, IsTrue, List, [], ◌∷◌, ◌++◌, length, take, Contains, Option, Some, None, if◌then◌else◌}
use Rattle.chk_bytes.specs.Numbers.{spelled}
use Rattle.chk_bytes.specs.Words.{BeginsWith}
use Rattle.chk_bytes.specs.Stems.{Stem, is_stem, same_stem}
use Rattle.chk_site.specs.declared.acts.Role.TheVariants.{Agent, Collector, Job}
use Rattle.chk_site.specs.declared.acts.Who.{Who}
use Rattle.chk_site.specs.declared.acts.ActAnswer.{ActAnswer}
use Rattle.chk_site.specs.declared.acts.ActAnswer.TheVariants.{Done}
use Rattle.chk_site.specs.Files.{File, Files}
use Rattle.chk_site.specs.Acts.{Deed, Appends, Says, deed}
use Rattle.chk_site.specs.History.{Step, History, Ever, files_after, since_start}
use Rattle.chk_chunk.specs.Keys.{Stream, Chunk, Covers, chunk_limit}
use Rattle.chk_world.specs.Names.{Folder, Name, BornFile, SinkFile, MarkFile, DoneFile, CheckFile, BookFile, SegmentFile, is_source, read, file}
use Rattle.chk_world.specs.Checkpoints.{Line, read_checkpoint, line_of, checkpoint_of}
use Rattle.chk_seqfile.specs.Entries.{IsSequenceFile}
use Rattle.chk_world.specs.Books.{Segment, Book, read_book, book_of, AllChunks, chunks_within}
use Rattle.chk_world.specs.ArchiveRuns.{Listing, last_listing, unclosed_in, HasReached, IsArchiveRun, report, is_report}
use Rattle.chk_world.specs.Jobs.{IsSoundSegment, IsSource, all_segments}
use Rattle.chk_world.specs.Committed.{OnFile, HasFile, archive_of_stream, archived_end, IsKept, KeptAt, IsAbsent, IsWhole, IsNumber, number_in, committed_length}
use Rattle.chk_world.specs.Agents.{Acknowledged}
use Rattle.chk_world.specs.Collectors.{Current, view}
use Rattle.chk_world.specs.Streams.{Founding, founding, log_of, IsTrueChunk}
use Rattle.chk_world.specs.Rules.{Legal}

-- the collector of a sink
abbrev pub collector : Stem → Who
collector x = record { role = Collector; name = x.collector }

-- the piece, where it is for this sink
abbrev pub piece_to : Stem → Name → List ℕ → List ℕ
piece_to x (SinkFile y) piece = if same_stem x y then piece else []
piece_to x n piece = []

-- what this act wrote to the sink
abbrev pub written_by : Stem → Deed → ActAnswer → List ℕ
written_by x (Appends w piece) (Done words number of) = piece_to x (read w) piece
written_by x call answer = []

-- the pieces of all appends to a sink that were done, in order
abbrev pub wrote : Stem → History → List ℕ
wrote x [] = []
wrote x (step ∷ history) = wrote x history ++ written_by x (deed step.act) step.act.answer

-- the first n bytes of the file are there, synced, the first of what was written, and whole records of chunks
pub record IsSafe (written : List ℕ) (n : ℕ) (f : File) : Type 0 where
  pub there : n ≤ length f.bytes
  pub synced : n ≤ f.synced
  pub front : take n f.bytes ≡ take n written
  pub chunks : AllChunks chunk_limit (take n f.bytes)

-- a done sink is all synced, and all of it was written as it is
pub record IsDoneSink (written : List ℕ) (f : File) : Type 0 where
  pub whole : IsWhole f
  pub front : f.bytes ≡ take (length f.bytes) written
  pub chunks : AllChunks chunk_limit f.bytes

-- a mark is a number of at least 96
abbrev pub IsMark : File → Type 0
IsMark m = IsNumber m × (96 ≤ spelled m.bytes)

-- a sink under writing, whose first bytes, so many, are committed
abbrev pub IsOpenSink : List ℕ → ℕ → File → Type 0
IsOpenSink written committed f = (committed ≡ 0) ⊎ IsSafe written committed f

-- the sink's files after this history
pub record Shape (history : History) (x : Stem) : Type 0 where
  pub under_writing : OnFile (file (files_after history) (SinkFile x))
      (IsOpenSink (wrote x history) (committed_length (files_after history) x))
  pub done : OnFile (file (files_after history) (DoneFile x)) (IsDoneSink (wrote x history))
  pub mark : OnFile (file (files_after history) (MarkFile x)) IsMark
  pub born : OnFile (file (files_after history) (BornFile x.collector)) IsNumber
  -- no more is committed than was written
  pub committed : committed_length (files_after history) x ≤ length (wrote x history)
  -- a mark isn't above its sink's length, and equals the length of a done sink
  pub mark_within : OnFile (file (files_after history) (MarkFile x))
      (λ m. OnFile (file (files_after history) (SinkFile x)) (λ f. spelled m.bytes ≤ length f.bytes))
  pub mark_of_done : OnFile (file (files_after history) (MarkFile x))
      (λ m. OnFile (file (files_after history) (DoneFile x)) (λ f. spelled m.bytes ≡ length f.bytes))
  -- no sink is of a later start than the last one
  pub no_later : number_in (file (files_after history) (BornFile x.collector)) < x.born
      → IsAbsent (file (files_after history) (SinkFile x)) × IsAbsent (file (files_after history) (DoneFile x))
  -- a sink that may still be appended to holds just what was written
  pub current : (cur : Current) → (view (collector x) history).current ≡ Some cur → cur.stem ≡ x
      → OnFile (file (files_after history) (SinkFile x)) (λ f. f.bytes ≡ wrote x history)

-- the sinks of every legal history have this shape
abbrev pub SinksHaveShape : Type 0
SinksHaveShape = (stamped : List (List ℕ)) (history : History) → Legal stamped history
    → (x : Stem) → IsTrue (is_stem x) → Shape history x

-- an append to a sink ends past all that was ever committed before it
pub record EndsPastCommitted (history : History) (step : Step) (x : Stem) : Type 0 where
  pub end : OnFile (file step.files (SinkFile x)) (λ f. length f.bytes ≡ length (wrote x (step ∷ history)))
  pub before : Ever (λ front. length (wrote x (step ∷ history)) ≤ committed_length (files_after front) x) history → ⊥

-- this act wrote something to the sink
abbrev pub Wrote : Stem → Step → Type 0
Wrote x step = 0 < length (written_by x (deed step.act) step.act.answer)

-- a committed length of at least o is there only after the append that ended at o
abbrev pub CommitsAfterAppend : Type 0
CommitsAfterAppend =
    (stamped : List (List ℕ)) (history : History) (step : Step) → Legal stamped (step ∷ history)
    → (x : Stem) → IsTrue (is_stem x) → Wrote x step → EndsPastCommitted history step x

-- a whole checkpoint
pub record IsCheckpointFile (f : File) : Type 0 where
  pub whole : IsWhole f
  pub lines : List Line
  pub is : read_checkpoint f.bytes ≡ Some lines

-- a whole book
pub record IsWholeBook (f : File) : Type 0 where
  pub whole : IsWhole f
  pub book : Book
  pub is : read_book f.bytes ≡ Some book

-- each checkpoint and each book that is there is whole, and is read
pub record HasReadableFiles (files : Files) : Type 0 where
  pub checkpoints : (source : List ℕ) → IsTrue (is_source source)
      → OnFile (file files (CheckFile source)) IsCheckpointFile
  pub books : (folder : Folder) → OnFile (file files (BookFile folder)) IsWholeBook

-- after every legal history the checkpoints and books can be read
abbrev pub OwnFilesAreRead : Type 0
OwnFilesAreRead =
    (stamped : List (List ℕ)) (history : History) → Legal stamped history → HasReadableFiles (files_after history)

-- each segment that a book names is there with its length, all synced, and its records are chunks
abbrev pub NamedSegmentsAreSound : Type 0
NamedSegmentsAreSound =
    (stamped : List (List ℕ)) (history : History) → Legal stamped history → (folder : Folder) (g : Segment)
    → Contains (all_segments (book_of (files_after history) folder)) g
    → HasFile (file (files_after history) (SegmentFile folder g.number)) (IsSoundSegment folder g)

-- the step keeps a stream's archive, and may add to it
pub record ArchiveGrows (history : History) (step : Step) (s : Stream) : Type 0 where
  pub grows : BeginsWith (archive_of_stream step.files s) (archive_of_stream (files_after history) s)
  pub end : archived_end history s ≤ archived_end (step ∷ history) s

-- each legal step keeps every stream's archive, and may add to it
abbrev pub ArchivesOnlyGrow : Type 0
ArchivesOnlyGrow =
    (stamped : List (List ℕ)) (history : History) (step : Step) → Legal stamped (step ∷ history)
    → (s : Stream) → ArchiveGrows history step s

-- each legal step keeps what the kept chunks cover, or it is archived
abbrev pub KeptStaysKept : Type 0
KeptStaysKept =
    (stamped : List (List ℕ)) (history : History) (step : Step) → Legal stamped (step ∷ history)
    → (s : Stream) (o : ℕ) → KeptAt history s o → KeptAt (step ∷ history) s o ⊎ (o < archived_end (step ∷ history) s)

-- the line is there, of the same class and start, and its offset isn't less
abbrev pub MovesOn : Line → Option Line → Type 0
MovesOn old None = ⊥
MovesOn old (Some l) = (old.class ≡ l.class) × (old.start ≡ l.start) × (old.offset ≤ l.offset)

-- no legal step loses a line of a checkpoint or moves one back
abbrev pub CheckpointsMoveOn : Type 0
CheckpointsMoveOn =
    (stamped : List (List ℕ)) (history : History) (step : Step) → Legal stamped (step ∷ history)
    → (s : Stream) → IsTrue (is_source s.source)
    → (l : Line) → line_of (files_after history) s ≡ Some l → MovesOn l (line_of step.files s)

-- each legal step keeps the log of a stream, and may add to it
abbrev pub LogsOnlyGrow : Type 0
LogsOnlyGrow =
    (stamped : List (List ℕ)) (history : History) (step : Step) → Legal stamped (step ∷ history)
    → (s : Stream) → IsTrue (is_source s.source) → BeginsWith (log_of (step ∷ history) s) (log_of history s)

-- the archive of each stream is a front of its log
abbrev pub ArchivesAreFronts : Type 0
ArchivesAreFronts =
    (stamped : List (List ℕ)) (history : History) → Legal stamped history → (s : Stream)
    → BeginsWith (log_of history s) (archive_of_stream (files_after history) s)

-- a kept chunk covers the offset, or it is archived
abbrev pub SavedAt : History → Stream → ℕ → Type 0
SavedAt history s o = KeptAt history s o ⊎ (o < archived_end history s)

-- the first n bytes of what was written are whole records, and the chunk is one of them
pub record StandsWithin (written : List ℕ) (n : ℕ) (c : Chunk) : Type 0 where
  pub within : n ≤ length written
  pub form : IsSequenceFile (take n written)
  pub one : Contains (chunks_within chunk_limit (take n written)) c

-- once a committed length has reached a chunk's end in its sink, the chunk is kept or archived from then on
abbrev pub ReachedIsSaved : Type 0
ReachedIsSaved =
    (stamped : List (List ℕ)) (history : History) → Legal stamped history → (x : Stem) → IsTrue (is_stem x)
    → (n : ℕ) (c : Chunk) → StandsWithin (wrote x history) n c
    → Ever (λ front. n ≤ committed_length (files_after front) x) history
    → (s : Stream) (o : ℕ) → Covers s o c → SavedAt history s o

-- the listing is the job's last one, it shows no sink under writing, and the archives have grown as far as its
-- chunks reach
pub record IsComplete (history : History) (l : Listing) : Type 0 where
  pub last : last_listing history ≡ Some l
  pub closed : unclosed_in l.names ≡ 0
  pub reached : HasReached history l

-- the line that the job printed is the report of the run that began with its last listing. Where that showed no sink under
-- writing the history now ends with a complete run
pub record HasReported (history : History) (step : Step) (text : List ℕ) : Type 0 where
  pub listing : Listing
  pub last : last_listing history ≡ Some listing
  pub taken : ℕ
  pub held : ℕ
  pub removed : ℕ
  pub is : text ≡ report (unclosed_in listing.names) taken held removed
  pub ran : IsArchiveRun history listing (unclosed_in listing.names) taken held removed
  pub complete : unclosed_in listing.names ≡ 0 → IsComplete (step ∷ history) listing

-- each line of the job's that begins as a report does is one
abbrev pub ReportsAreTrue : Type 0
ReportsAreTrue =
    (stamped : List (List ℕ)) (history : History) (step : Step) → Legal stamped (step ∷ history) → step.act.who.role ≡ Job
    → (text : List ℕ) → deed step.act ≡ Says text → IsTrue (is_report text)
    → (words : List (List ℕ)) (number of : ℕ) → step.act.answer ≡ Done words number of
    → HasReported history step text

-- after a complete run the archive holds all that was kept or archived at its listing, up to the first gap
abbrev pub RunsTakeAllSaved : Type 0
RunsTakeAllSaved =
    (stamped : List (List ℕ)) (history : History) → Legal stamped history → (l : Listing) → IsComplete history l
    → (s : Stream) (e : ℕ) → ((o : ℕ) → o < e → SavedAt l.upto s o) → e ≤ archived_end history s

-- the agent of a stream
abbrev pub agent_of : Stream → Who
agent_of s = record { role = Agent; name = s.source }

-- at some moment a chunk over the offset was acknowledged to the stream's agent
abbrev pub WasAcknowledged : History → Stream → ℕ → Type 0
WasAcknowledged history s o =
    (c : Chunk) × Covers s o c × Ever (λ front. Acknowledged (since_start (agent_of s) front) c) history

-- each offset that a checkpoint has passed was acknowledged
abbrev pub PassedIsAcknowledged : Type 0
PassedIsAcknowledged =
    (stamped : List (List ℕ)) (history : History) → Legal stamped history → (s : Stream) → IsTrue (is_source s.source)
    → (l : Line) → line_of (files_after history) s ≡ Some l → (o : ℕ) → l.start ≤ o → o < l.offset
    → WasAcknowledged history s o

-- what is acknowledged to the agent of a stream is kept or archived
abbrev pub AcknowledgedIsSaved : Type 0
AcknowledgedIsSaved =
    (stamped : List (List ℕ)) (history : History) → Legal stamped history → (s : Stream) → IsTrue (is_source s.source)
    → (c : Chunk) → Acknowledged (since_start (agent_of s) history) c → (o : ℕ) → Covers s o c → SavedAt history s o

-- each offset below a checkpoint is kept or archived
abbrev pub CheckpointsAreSaved : Type 0
CheckpointsAreSaved =
    (stamped : List (List ℕ)) (history : History) → Legal stamped history → (s : Stream) → IsTrue (is_source s.source)
    → (o : ℕ) → o < checkpoint_of (files_after history) s → SavedAt history s o

-- the chunk's stream has begun, and its data is what the stream's log has at its offsets
pub record IsOfLog (history : History) (c : Chunk) : Type 0 where
  pub first : Founding
  pub founded : founding history c.key.stream ≡ Some first
  pub is_true : IsTrueChunk history c

-- each chunk that is kept, and each of a done sink or set aside, is of its stream's log
pub record HasTrueChunks (history : History) : Type 0 where
  pub kept : (c : Chunk) → IsKept (files_after history) c → IsOfLog history c
  pub sources : (c : Chunk) → IsSource (files_after history) c → IsOfLog history c

abbrev pub KeptAreTrue : Type 0
KeptAreTrue = (stamped : List (List ℕ)) (history : History) → Legal stamped history → HasTrueChunks history

-- after a complete run the archive holds every byte up to the checkpoint as it stood at the listing
abbrev pub RunsCoverCheckpoints : Type 0
RunsCoverCheckpoints =
    (stamped : List (List ℕ)) (history : History) → Legal stamped history → (l : Listing) → IsComplete history l
    → (s : Stream) → IsTrue (is_source s.source) → checkpoint_of (files_after l.upto) s ≤ archived_end history s
