use Rattle.std.proofs.Common.{◌≡◌, ◌++◌, length, take, map}
use Rattle.chk_bytes.specs.Numbers.{be32}
use Rattle.chk_bytes.specs.Words.{joined}
use Rattle.chk_world.specs.Books.{segment_bytes}
use Rattle.chk_book.specs.Views.{segment_view}
use Rattle.chk_book.proofs.writing.push_segments.Given as goal

abbrev pub invariant-loop-segment : goal.invariant-loop-segment
invariant-loop-segment l =
    l.out ≡ l.fn.out ++ (be32 (length l.segments) ++ joined (map segment_bytes (map segment_view (take l.segment-index l.segments))))
