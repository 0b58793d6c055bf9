use Rattle.std.proofs.Common.{ℕ, ◌+◌, ◌<◌}
use Rattle.std.specs.Prelude.{slice_index_or, IsTrue}
use Rattle.chk_chunk.specs.Keys.{stream_lt}
use Rattle.chk_book.specs.Views.{end_view}
use Rattle.chk_book.specs.declared.lists.End.{End}
use Rattle.chk_archive_parts.proofs.publishing.ends_rise.Given as goal

abbrev pub invariant-loop-i : goal.invariant-loop-i
invariant-loop-i l =
    (k : ℕ) (d : End) → k + 1 < l.i
    → IsTrue (stream_lt (end_view (slice_index_or l.ends k d)).stream (end_view (slice_index_or l.ends (k + 1) d)).stream)
