-- What one run of the demux job leads to.
use Rattle.std.specs.Prelude.{◌≡◌, ℕ, ◌+◌, ◌≤◌, ◌<◌, false, List, [], ◌∷◌, ◌++◌, length, codes, bytes_eq, Contains, Result, Ok, Err}
use Rattle.std.specs.List.{list_any}
use Rattle.chk_bytes.specs.Numbers.{last_number}
use Rattle.chk_site.specs.Acts.{Deed, Starts}
use Rattle.chk_site.specs.Files.{Files}
use Rattle.chk_site.specs.History.{History, files_after}
use Rattle.chk_chunk.specs.Keys.{Stream, Chunk, chunk_begin, chunk_end, stream_lt}
use Rattle.chk_world.specs.Names.{Folder, ArchiveFolder, DemuxFolder}
use Rattle.chk_world.specs.Books.{Segment, book_of, chunks_named}
use Rattle.chk_world.specs.Streams.{start_of}
use Rattle.chk_world.specs.Committed.{archive_of_stream}
use Rattle.chk_world.specs.Splits.{Record, split, demuxed_records}
use Rattle.chk_world.specs.Rules.{Legal}
use Rattle.chk_world.specs.Places.{AtTold}
use Rattle.chk_world.specs.Sight.{job}
use Rattle.chk_world.specs.JobSteps.{ReadsFile, WritesTo}
use Rattle.chk_world.proofs.Each.{Each}
use Rattle.chk_book.specs.Folders.{segment_name}
use Rattle.chk_record_index.specs.declared.fault.JobFault.{JobFault}
use Rattle.chk_record_index.specs.declared.fault.JobFault.TheVariants.{Damaged, Spent}
use Rattle.chk_archive_parts.specs.Publishing.{ReplacesBookOf}
pub use Rattle.chk_archive_parts.specs.Publishing.{writes_book, names_book}
use Rattle.chk_demux.specs.Writes.{bytes_of}
use Rattle.chk_demux.specs.declared.report.DemuxReport.{DemuxReport}

-- the named types are just the stamped ones
abbrev pub NamesStamped : List (List ℕ) → List (List ℕ) → Type 0
NamesStamped stamped names = (kind : List ℕ) → list_any (bytes_eq kind) stamped ≡ list_any (bytes_eq kind) names

-- all records of the segments that a folder's book names, in order
abbrev pub all_named : Files → Folder → List Chunk
all_named files folder = chunks_named files folder (book_of files folder)

-- what stands before a run: all demultiplexed records, the segments that their book names, and its next number
pub record Earlier : Type 0 where
  pub records : List Chunk
  pub segments : List Segment
  pub next : ℕ

abbrev pub earlier_in : Files → Earlier
earlier_in files = record {
  records = all_named files DemuxFolder;
  segments = (book_of files DemuxFolder).segments;
  next = (book_of files DemuxFolder).next;
}

-- before the call the history is legal, and this stands there
abbrev pub Begun : List (List ℕ) → Earlier → History → Type 0
Begun stamped before history = Legal stamped history × (earlier_in (files_after history) ≡ before)

-- the segments are the old ones, and one more where records were added
abbrev pub OneMore : List Segment → List Chunk → List Segment → Type 0
OneMore old [] new = new ≡ old
OneMore old (c ∷ added) new = (g : Segment) × (new ≡ old ++ g ∷ [])

-- the archived record holds the first byte of the other one, which has its stream, start and cluster
pub record IsKeyFrom (archived new : Chunk) : Type 0 where
  pub stream : new.key.stream ≡ archived.key.stream
  pub start : new.key.start ≡ archived.key.start
  pub cluster : new.key.cluster ≡ archived.key.cluster
  pub on : chunk_begin archived ≤ chunk_begin new
  pub before : chunk_begin new < chunk_end archived

-- the record has the key of the archived one that holds its first byte
abbrev pub HasKey : List Chunk → Chunk → Type 0
HasKey archive new = (c : Chunk) × Contains archive c × IsKeyFrom c new

-- the streams of the records come in byte order of source, type and name
abbrev pub InStreamOrder : List Chunk → Type 0
InStreamOrder [] = Unit {0}
InStreamOrder (c ∷ cs) = Each (λ d. stream_lt d.key.stream c.key.stream ≡ false) cs × InStreamOrder cs

-- The records of each stream are the split of its archive. The new ones stand behind those before, stream by stream, each with its
-- key, and are one segment, for which a number was left; the report counts their bytes and them, and the archived bytes that are of
-- no record.
pub record DemuxDone (stamped : List (List ℕ)) (before : Earlier) (r : DemuxReport) (history : History) : Type 0 where
  pub all : (s : Stream) → demuxed_records (files_after history) s
      ≡ split stamped s (start_of history s) (archive_of_stream (files_after history) s)
  pub added : List Chunk
  pub are : all_named (files_after history) DemuxFolder ≡ before.records ++ added
  pub segments : OneMore before.segments added (book_of (files_after history) DemuxFolder).segments
  pub number : 0 < length added → before.next ≡ last_number → ⊥
  pub order : InStreamOrder added
  pub keys : Each (HasKey (all_named (files_after history) ArchiveFolder)) added
  pub taken : r.taken ≡ bytes_of added
  pub entries : r.entries ≡ length added
  pub left : r.left + bytes_of (all_named (files_after history) DemuxFolder)
      ≡ bytes_of (all_named (files_after history) ArchiveFolder)

-- A record is still to be written: the split of this stream's archive goes on past the stream's records with it.
pub record IsDue (stamped : List (List ℕ)) (history : History) : Type 0 where
  pub stream : Stream
  pub record_is : Record
  pub more : List Record
  pub split_is : split stamped stream (start_of history stream) (archive_of_stream (files_after history) stream)
      ≡ demuxed_records (files_after history) stream ++ record_is ∷ more

-- A segment is needed for which no number is left.
pub record LacksNumber (stamped : List (List ℕ)) (history : History) : Type 0 where
  pub last : (book_of (files_after history) DemuxFolder).next ≡ last_number
  pub due : IsDue stamped history

-- At Ok the split is done. Nothing of the program's own is ever damaged. The numbers are spent only where the next one is the last
-- one and a record is still to be written. After any other refusal the history is legal; the start may be what was refused, so that
-- it isn't said that the job may act.
abbrev pub Demuxed : List (List ℕ) → Earlier → Result DemuxReport JobFault → History → Type 0
Demuxed stamped before (Ok r) history = AtTold stamped job (DemuxDone stamped before r) history
Demuxed stamped before (Err (Damaged name at)) history = AtTold stamped job (λ h. ⊥) history
Demuxed stamped before (Err (Spent n)) history =
    AtTold stamped job (λ h. (n ≡ last_number) × LacksNumber stamped h) history
Demuxed stamped before (Err fault) history = Legal stamped history

-- the calls that replace the book of the records
abbrev pub ReplacesBook : Deed → Type 0
ReplacesBook = ReplacesBookOf (codes "demux")

-- the calls that finish a segment of records and replace the book
pub data WritesBook (k : ℕ) : Deed → Type 0 where
  writes_segment : (call : Deed) → WritesTo (segment_name (codes "demux") k) call → WritesBook k call
  replaces : (call : Deed) → ReplacesBook call → WritesBook k call

-- the calls of a run: it starts, reads, writes segments of records, and replaces their book
pub data DemuxesBy : Deed → Type 0 where
  starts : DemuxesBy Starts
  only_reads : (call : Deed) → ReadsFile call → DemuxesBy call
  writes_records : (k : ℕ) (call : Deed) → WritesTo (segment_name (codes "demux") k) call → DemuxesBy call
  replaces_book : (call : Deed) → ReplacesBook call → DemuxesBy call
