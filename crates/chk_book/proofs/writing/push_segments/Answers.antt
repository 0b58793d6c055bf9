use Rattle.std.proofs.Common.{length, get_or, refl}
use Rattle.chk_bytes.specs.Numbers.{be32}
use Rattle.chk_world.specs.Books.{segment_bytes}
use Rattle.chk_book.specs.declared.lists.Segment.{Segment}
use Rattle.chk_book.specs.Views.{segment_view}
use Rattle.chk_book.proofs.WrittenLists.{more_written}
use Rattle.chk_book.proofs.writing.push_segments.Goals as goal

abbrev no_segment : Segment
no_segment = record { number = 0; length = 0 }

pub loop-segment-preserved : goal.loop-segment-preserved
loop-segment-preserved c =
    more_written segment_view segment_bytes c.args.segments.now c.loop-segment.segment-index
    (get_or c.args.segments.now c.loop-segment.segment-index no_segment) no_segment c.args.out.now (be32 (length c.args.segments.now)) c.loop-segment.out
    c.push_segment.new.out c.loop-segment-test.true refl c.loop-segment.invariant c.in_ok-push_segment.ensures
