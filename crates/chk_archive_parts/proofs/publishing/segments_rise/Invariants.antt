use Rattle.std.proofs.Common.{ℕ, ◌+◌, ◌<◌}
use Rattle.std.specs.Prelude.{slice_index_or}
use Rattle.chk_book.specs.declared.lists.Segment.{Segment}
use Rattle.chk_archive_parts.proofs.publishing.segments_rise.Given as goal

abbrev pub invariant-loop-i : goal.invariant-loop-i
invariant-loop-i l =
    (k : ℕ) (d : Segment) → k + 1 < l.i
    → (slice_index_or l.segments k d).number < (slice_index_or l.segments (k + 1) d).number
