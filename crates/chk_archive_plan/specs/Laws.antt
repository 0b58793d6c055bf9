-- What a plan gives.
use Rattle.std.specs.Prelude.{◌≡◌, ℕ, List, length, flat_map, filter, count_by, sum_by, ◌-◌, Contains, IsTrue, None}
use Rattle.chk_site.specs.History.{History, files_after}
use Rattle.chk_chunk.specs.Keys.{Stream, Chunk, chunk_limit}
use Rattle.chk_site.specs.Files.{File}
use Rattle.chk_world.specs.ArchiveRuns.{Listing, in_order, found, end_before, end_since, HasReached, IsArchiveRun, total_gain, unclosed_in, is_closed, sink_path}
use Rattle.chk_world.specs.Books.{Book, book_of, chunks_within}
use Rattle.chk_world.specs.Committed.{aside_chunks, archived_end}
use Rattle.chk_world.specs.Jobs.{NewBook, IsSaved}
use Rattle.chk_world.specs.Names.{ArchiveFolder}
use Rattle.chk_world.specs.Rules.{Legal}
use Rattle.chk_world.specs.TrueBooks.{HasBytes}
use Rattle.chk_world.proofs.Each.{Each}
use Rattle.chk_record_index.specs.Heads.{Head}
use Rattle.chk_record_index.specs.Order.{in_head_order}
use Rattle.chk_archive_plan.specs.Plan.{parts_from, parts_of, ends_of, is_past, set_aside}
use Rattle.chk_archive_plan.specs.HeadsOf.{AreHeads}
use Rattle.chk_archive_plan.specs.Passes.{between, head_in, AreSpans}
use Rattle.chk_archive_plan.specs.NextBooks.{NamesParts, AreFound, AsideIs}
use Rattle.chk_archive_plan.specs.declared.spans.Span.{Span}
use Rattle.chk_archive_plan.specs.declared.spans.Known.{Known}

-- the stream of a span
abbrev pub span_stream : List Head → Span → Stream
span_stream heads s = (head_in heads s.first).key.stream

-- how many bytes its pass takes
abbrev pub span_gain : Span → ℕ
span_gain s = s.reached - s.from

-- each span's pass goes on from its stream's end
abbrev pub BeginAt : (Stream → ℕ) → List Head → List Span → Type 0
BeginAt ends heads spans = (s : Span) → Contains spans s → s.from ≡ ends (span_stream heads s)

-- the spans of heads in order give the gain and the parts of the chunks, the chunks past their
-- streams' ends, and these ends
pub record SpansGive (ends : Stream → ℕ) (heads : List Head) (cs : List Chunk)
    (spans : List Span) : Type 0 where
  pub gain : total_gain ends cs ≡ sum_by span_gain spans
  pub parts : parts_of ends cs ≡ flat_map
      (λ (s : Span). parts_from s.from (between s.first s.end cs)) spans
  pub past : filter (is_past (ends_of ends cs)) cs ≡ flat_map
      (λ (s : Span). between s.past s.end cs) spans
  pub reached : (s : Span) → Contains spans s → ends_of ends cs (span_stream heads s) ≡ s.reached

-- whatever the order in which the heads were found
abbrev pub PlansGive : Type 0
PlansGive =
    (known : List Known) (heads : List Head) (cs : List Chunk) (spans : List Span)
    (ends : Stream → ℕ)
    → AreHeads heads cs → Each HasBytes cs
    → AreSpans known (in_head_order heads) 0 spans (length (in_head_order heads))
    → BeginAt ends (in_head_order heads) spans
    → SpansGive ends (in_head_order heads) (in_order cs) spans

-- the pass over what was found, in order, reaches for each stream the greatest end without a gap
abbrev pub PassesReach : Type 0
PassesReach =
    (history : History) (l : Listing)
    → ((s : Stream) → end_since history l s ≡ ends_of (end_before history l) (in_order (found l)) s)
    → HasReached history l

-- a book that names the parts of a pass may be published
abbrev pub PlansMayBePublished : Type 0
PlansMayBePublished =
    (stamped : List (List ℕ)) (history : History) → Legal stamped history → (old new : Book)
    → book_of (files_after history) ArchiveFolder ≡ old
    → (cs : List Chunk) → AreFound history cs → NamesParts history old new cs
    → AsideIs history new cs
    → NewBook stamped ArchiveFolder history new

-- once it is, each done sink of which all chunks were found may be removed
abbrev pub FoundMayGo : Type 0
FoundMayGo =
    (history : History) (ends : Stream → ℕ) (cs : List Chunk)
    → ((s : Stream) → archived_end history s ≡ ends s)
    → aside_chunks (files_after history) ≡ set_aside ends cs → (f : File)
    → ((c : Chunk) → Contains (chunks_within chunk_limit f.bytes) c → Contains cs c)
    → IsSaved history f

-- what stands at the end of a run makes it one with these numbers
abbrev pub PlansAreRuns : Type 0
PlansAreRuns =
    (history : History) (l : Listing) (unclosed taken held removed : ℕ)
    → unclosed ≡ unclosed_in l.names → taken ≡ total_gain (end_before history l)
    (in_order (found l))
    → ((s : Stream) → end_since history l s ≡ ends_of (end_before history l) (in_order (found l)) s)
    → aside_chunks (files_after history)
    ≡ set_aside (ends_of (end_before history l) (in_order (found l))) (in_order (found l))
    → held ≡ length (aside_chunks (files_after history)) → removed ≡ count_by is_closed l.names
    → ((name : List ℕ) → Contains l.names name → IsTrue (is_closed name)
    → files_after history (sink_path name) ≡ None)
    → IsArchiveRun history l unclosed taken held removed
