-- Seven rules that are easily drawn too wide or too narrow: of each a step that it allows, and beside that one that it
-- refuses.
use Rattle.std.specs.Prelude.{ℕ, ◌+◌, ◌<◌, ◌^◌, ◌≡◌, true, List, [], ◌∷◌, ◌++◌, length, Some, None, bytes_eq, codes, if◌then◌else◌}
use Rattle.chk_control.specs.declared.Class.TheVariants.{Plain}
use Rattle.chk_seqfile.specs.Headers.{header, marker_of}
use Rattle.chk_seqfile.specs.Entries.{record_entry}
use Rattle.chk_site.specs.declared.acts.Who.{Who}
use Rattle.chk_site.specs.declared.acts.Role.TheVariants.{Agent}
use Rattle.chk_site.specs.declared.acts.Call.TheVariants.{Start, Create, Append, Sync, Rename, Say, Clock, LogAppend}
use Rattle.chk_site.specs.declared.acts.ActAnswer.TheVariants.{Done}
use Rattle.chk_site.specs.Files.{File, Files}
use Rattle.chk_site.specs.Effect.{Effect}
use Rattle.chk_site.specs.History.{Step, History, files_after, logs_after}
use Rattle.chk_chunk.specs.Keys.{Stream, Chunk, written_key}
use Rattle.chk_world.specs.Checkpoints.{Line, Two, checkpoint_text}
use Rattle.chk_world.specs.Books.{Segment, Book, Two as book_2, Three}
use Rattle.chk_world.specs.Streams.{start_of}
use Rattle.chk_world.specs.ArchiveRuns.{report}
use Rattle.chk_world.specs.Rules.{Obeys, Legal}
use Rattle.chk_world_examples.specs.Texts.{c1, log, path, hello, mark, done_sink, segment, end, request, poll}
use Rattle.chk_world.specs.Sight.{job}
use Rattle.chk_world_examples.specs.Moments.{done, h6, g7, l30, g39}
use Rattle.chk_world_examples.specs.Refusing.{TheRule, Starting, Requests, by, Apart}
use Rattle.chk_world_examples.specs.Agents.{reads_past, between, day_9, rotated}
use Rattle.chk_world_examples.specs.Processes.{stopped_removal, sends}
use Rattle.chk_world_examples.specs.Archives.{ItsStarts, OldAside, RefusedFor, IsAllowed, publishing, no_others, first_book, other_start, unbegun, late, set_aside}

-- ---- what is set aside again

-- a chunk of the stream, the sequence id and the cluster of the one past the gap
abbrev pub late_in : List ℕ → List ℕ → Chunk
late_in cluster value = record { key = record late.key { cluster = cluster }; value = value }

-- a file of this chunk alone, behind a header with this marker
abbrev pub file_of : List ℕ → Chunk → File
file_of marker c = record { bytes = header (marker_of marker) ++ record_entry (written_key c.key) c.value; synced = 156 }

-- the archive has set one chunk aside. A done sink has another, which the third segment has too
abbrev pub set_aside_again : Chunk → Files
set_aside_again c n =
    if bytes_eq n (codes "archive/seg.3") then Some (file_of (codes "seg.3") c)
    else if bytes_eq n (codes "sinks/c1.1.2.done") then Some (file_of (codes "c1.1.2") c)
    else set_aside n

abbrev pub third : Segment
third = record { number = 3; length = 156 }

-- a book that sets the third segment's chunk aside, and no other
abbrev pub third_aside : Book
third_aside = record { next = 4; segments = segment ∷ []; ends = end ∷ []; aside = Some third }

-- in another cluster's name the same data, and other data
abbrev pub same_late : Chunk
same_late = late_in (codes "dc") hello

abbrev pub other_late : Chunk
other_late = late_in (codes "dc") (codes "jello\n")

-- ---- a log's growth

-- a writer appends these bytes to a log that nobody has written to
abbrev pub grows_by : List ℕ → Step
grows_by piece = by log LogAppend (path ∷ piece ∷ []) h6

-- all but the bound holds of it
pub record GrowsAlone (piece : List ℕ) : Type 0 where
  pub effect : Effect (files_after h6) (logs_after h6) (grows_by piece).act (grows_by piece).files (grows_by piece).logs
  pub bounded : length piece < 2 ^ 62 → Obeys [] h6 (grows_by piece)

-- ---- a stream that begins in a run

-- an agent of another source, whose stream begins at 5
abbrev pub a2 : Who
a2 = record { role = Agent; name = codes "h2" }

abbrev pub line_5 : Line
line_5 = record {
  live = true;
  name = codes "adaptor_1";
  class = Plain;
  kind = codes "Log";
  path = codes "/b.log";
  offset = 5;
  first = 5;
  after = None;
  start = 5;
}

abbrev pub other_stream : Stream
other_stream = record { source = codes "h2"; kind = codes "Log"; name = codes "/b.log" }

abbrev pub other_check : List ℕ
other_check = codes "agents/h2.check"

abbrev pub other_check_tmp : List ℕ
other_check_tmp = codes "agents/h2.check.tmp"

-- it publishes its first checkpoint after the job's listing and before its report
abbrev pub q1 : History
q1 = done a2 Start [] 0 0 (Done [] 0 0) g39

abbrev pub q2 : History
q2 = done a2 Create (other_check_tmp ∷ []) 0 0 (Done [] 0 0) q1

abbrev pub q3 : History
q3 = done a2 Append (other_check_tmp ∷ checkpoint_text Two (line_5 ∷ []) ∷ []) 0 0 (Done [] 0 0) q2

abbrev pub q4 : History
q4 = done a2 Sync (other_check_tmp ∷ []) 0 0 (Done [] 0 0) q3

abbrev pub q5 : History
q5 = done a2 Rename (other_check_tmp ∷ other_check ∷ []) 0 0 (Done [] 0 0) q4

-- the job reports that it took so many bytes
abbrev pub reports : ℕ → History → Step
reports taken = by job Say (report 0 taken 0 1 ∷ [])

-- ---- the rules

pub record SevenRules : Type 0 where
  -- a stop that names a done sink is no stop that names a file of its collector, and one that names a mark is
  pub removal_is_legal : Legal [] (stopped_removal done_sink)
  pub done_sinks_spare : Apart Starting (stopped_removal mark) (by c1 Clock []) (stopped_removal done_sink) (by c1 Clock [])
  -- a book names only streams that have begun, with the start that they began with
  pub unbegun_stream : RefusedFor ItsStarts (publishing book_2 unbegun no_others) unbegun
  pub another_start : RefusedFor ItsStarts (publishing book_2 other_start no_others) other_start
  pub begun_stream : IsAllowed (publishing book_2 first_book no_others) first_book
  -- what was set aside stays so up to equality in stream, sequence id and data
  pub other_data : RefusedFor OldAside (publishing Three third_aside (set_aside_again other_late)) third_aside
  pub same_data : IsAllowed (publishing Three third_aside (set_aside_again same_late)) third_aside
  -- only agents send posts of chunks, and anybody sends polls
  pub anybody_polls : Apart Requests g7 (sends c1 request) g7 (sends c1 poll)
  -- a read past a suffix is at or past the line's offset too, whatever the suffix
  pub made_up_suffix : Apart TheRule rotated (reads_past between 0 (Done (codes "abcdefgh" ∷ day_9 ∷ []) 0 0))
      rotated (reads_past between 2 (Done (codes "cdefgh" ∷ day_9 ∷ []) 0 0))
  -- a log has fewer than 2^62 bytes
  pub log_too_long : (piece : List ℕ) × (length piece ≡ 2 ^ 62) × GrowsAlone piece × (Obeys [] h6 (grows_by piece) → ⊥)
  pub log_fits : (piece : List ℕ) × (length piece + 1 ≡ 2 ^ 62) × Obeys [] h6 (grows_by piece)
  -- a run's ends count from the starts at its listing: here another stream's start is known only since then
  pub start_then : start_of l30 other_stream ≡ 0
  pub start_now : start_of q5 other_stream ≡ 5
  pub run_is_legal : Legal [] q5
  pub ends_from_listing : Apart TheRule q5 (reports 11) q5 (reports 6)
