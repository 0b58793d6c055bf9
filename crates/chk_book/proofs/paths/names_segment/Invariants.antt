use Rattle.std.proofs.Common.{◌≡◌, ◌++◌, map, drop, option_map}
use Rattle.std.specs.Prelude.{nat_eq}
use Rattle.std.specs.List.{list_any}
use Rattle.chk_world.specs.Books.{Segment}
use Rattle.chk_world.specs.Jobs.{segment_list}
use Rattle.chk_book.specs.Views.{segment_view}
use Rattle.chk_book.specs.Books.{book_view}
use Rattle.chk_book.specs.SegmentNames.{names_segment}
use Rattle.chk_book.proofs.paths.names_segment.Given as goal

abbrev pub invariant-loop-segment : goal.invariant-loop-segment
invariant-loop-segment l =
    list_any (λ (g : Segment). nat_eq g.number l.number)
    (map segment_view (drop l.segment-index l.segment-items) ++ segment_list
    (option_map segment_view l.book.aside))
    ≡ names_segment (book_view l.book) l.number
