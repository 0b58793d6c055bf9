-- Books that the job's rule refuses for one part of what they owe, each beside one that differs in the one fact and is allowed.
use Rattle.chk_site.specs.declared.acts.Call.TheVariants.{Rename, Clock}
use Rattle.chk_world_examples.specs.Texts.{book_name, done_sink, sink, line, check, hello, seg, seg_head, book_tmp, book_1st, book_text, segment, stream, chunk}
use Rattle.chk_world.specs.Sight.{job}
use Rattle.chk_world_examples.specs.Parts.{ItsSource, ItsValue, part_with, sink_with, Thing, PartBut}
use Rattle.chk_world_examples.specs.Refusing.{TheRule, by, ObeysBut}
use Rattle.chk_world.specs.Jobs.{JobRule, folder_limit, Grows, Run, BookNamesSyncedSegments, HasStart, aside_after, chunks_after}
use Rattle.chk_site.specs.Acts.{Renames}
use Rattle.std.specs.Prelude.{◌≡◌, ℕ, true, false, List, [], ◌∷◌, ◌++◌, length, Some, None, bytes_eq, if◌then◌else◌, codes, Contains, Any}
use Rattle.chk_seqfile.specs.Entries.{record_entry}
use Rattle.chk_site.specs.declared.acts.ActAnswer.TheVariants.{Done}
use Rattle.chk_site.specs.Files.{File, Files}
use Rattle.chk_site.specs.Logs.{no_logs}
use Rattle.chk_site.specs.History.{Step, History}
use Rattle.chk_chunk.specs.Keys.{Stream, Chunk, key_1, same_stream}
use Rattle.chk_world.specs.Names.{ArchiveFolder, JoinedFolder}
use Rattle.chk_world.specs.Checkpoints.{Line, One, checkpoint_text}
use Rattle.chk_world.specs.Books.{End, AllChunks, chunks_of_stream, chunks_named}
use Rattle.chk_world.specs.Committed.{aside_chunks, archive_of_stream, archived_end}

-- a line of another kind of the same path
abbrev pub other_line : Line
other_line = record line { name = codes "adaptor_2"; kind = codes "Other" }

-- a job's step after which these are the files
abbrev pub step_to : Files → Step
step_to files = record {
  own = true;
  act = record { who = job; call = Clock; words = []; number = 0; max = 0; answer = Done [] 0 0 };
  files = files;
  logs = no_logs;
}

-- a moment at which two streams have begun
abbrev pub two_begun : Files
two_begun n =
    let bytes = checkpoint_text One (line ∷ other_line ∷ []) in
    if bytes_eq n check then Some (record { bytes = bytes; synced = length bytes }) else None

-- a later moment at which these are the files
abbrev pub with_files : Files → History
with_files files = step_to files ∷ step_to two_begun ∷ []

-- a segment of one record with this data
abbrev pub segment_of : List ℕ → ℕ → File
segment_of value synced = record { bytes = seg_head ++ record_entry (key_1 chunk.key) value; synced = synced }

-- the next book is whole
abbrev pub next_book : File
next_book = record { bytes = book_text; synced = length book_text }

-- the archive's next book, its segment of one record with this data, and a sink of this name with the chunk
abbrev pub next_archive : List ℕ → List ℕ → Files
next_archive name value n =
    if bytes_eq n seg then Some (segment_of value 144) else if bytes_eq n book_tmp then Some next_book else sink_with name chunk n

-- all that the archive's first book owes, where its one part owes all but that thing
pub record ArchiveBut (left_out : Thing) (files : Files) (part : Chunk) : Type 0 where
  pub names : BookNamesSyncedSegments ArchiveFolder (with_files files) book_1st
  pub elsewhere : (s : Stream) → same_stream s stream ≡ false → Grows (with_files files) s (chunks_after (with_files files) book_1st s)
  pub aside_new : aside_after (with_files files) book_1st ≡ []
  pub aside_old : aside_chunks files ≡ []
  pub here : chunks_after (with_files files) book_1st stream ≡ part ∷ []
  pub empty : archive_of_stream files stream ≡ []
  pub reached : archived_end (with_files files) stream ≡ 0
  pub its_part : PartBut left_out files stream 0 chunk part

-- the next book of `joined`, of whose segment so many bytes are synced
abbrev pub next_joined : ℕ → Files
next_joined synced n =
    if bytes_eq n (codes "joined/seg.1") then Some (segment_of hello synced)
    else if bytes_eq n (codes "joined/book.tmp") then Some next_book
    else None

-- all but the synced length holds where it isn't synced
pub record UnsyncedAlone : Type 0 where
  pub length_is : length (segment_of hello 0).bytes ≡ segment.length
  pub chunks : AllChunks (folder_limit JoinedFolder) (segment_of hello 0).bytes
  pub listed : (c : Chunk) → Contains (chunks_named (next_joined 0) JoinedFolder book_1st) c → Any (λ e. e.stream ≡ c.key.stream) book_1st.ends
  pub ends : (e : End) → Contains book_1st.ends e → Run e.start e.start (chunks_of_stream e.stream (chunks_named (next_joined 0) JoinedFolder book_1st)) e.end
  pub starts : (e : End) → Contains book_1st.ends e → HasStart JoinedFolder (with_files (next_joined 0)) e

-- the book of the archive, and that of `joined`, may be published
abbrev pub may_publish : Files → Type 0
may_publish files = JobRule [] (with_files files) (Renames book_tmp book_name)

abbrev pub may_join : Files → Type 0
may_join files = JobRule [] (with_files files) (Renames (codes "joined/book.tmp") (codes "joined/book"))

-- the first book of the archive, and one of `joined`
pub record BooksAreRefused : Type 0 where
  -- all else that the publication owes holds
  pub archive_else : (name value : List ℕ)
      → ObeysBut TheRule (with_files (next_archive name value)) (by job Rename (book_tmp ∷ book_name ∷ []) (with_files (next_archive name value)))
  -- the part in the archive has the data of the done sink's chunk
  pub false_alone : ArchiveBut ItsValue (next_archive done_sink (codes "jello\n")) (part_with (codes "jello\n"))
  pub false_archive : may_publish (next_archive done_sink (codes "jello\n")) → ⊥
  pub true_archive : may_publish (next_archive done_sink hello)
  -- the sink of the part is done
  pub undone_alone : ArchiveBut ItsSource (next_archive sink hello) (part_with hello)
  pub undone_archive : may_publish (next_archive sink hello) → ⊥
  -- a book of `joined` names synced segments too
  pub joined_else : ObeysBut TheRule (with_files (next_joined 0))
      (by job Rename (codes "joined/book.tmp" ∷ codes "joined/book" ∷ []) (with_files (next_joined 0)))
  pub joined_alone : UnsyncedAlone
  pub joined_unsynced : may_join (next_joined 0) → ⊥
  pub joined_synced : may_join (next_joined 144)
