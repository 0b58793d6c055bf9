use Rattle.std.proofs.Common.{map}
use Rattle.chk_book.specs.Views.{segment_view}
use Rattle.chk_book.proofs.ReadLists.{SegmentsSo}
use Rattle.chk_book.proofs.reading.read_segments.Given as goal

abbrev pub invariant-loop-read : goal.invariant-loop-read
invariant-loop-read l = SegmentsSo l.next l.count l.bytes (map segment_view l.segments) l._read l.last l.at
