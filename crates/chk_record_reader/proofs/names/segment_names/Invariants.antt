use Rattle.std.proofs.Common.{◌≡◌, take, map}
use Rattle.chk_world.specs.Books.{Segment}
use Rattle.chk_book.specs.Folders.{segment_name}
use Rattle.chk_book.specs.Views.{segment_view}
use Rattle.chk_record_reader.proofs.names.segment_names.Given as goal

abbrev pub invariant-loop-segment : goal.invariant-loop-segment
invariant-loop-segment l =
    l.names.items
    ≡ map (λ (g : Segment). segment_name l.folder g.number) (map segment_view
    (take l.segment-index l.segment-items))
