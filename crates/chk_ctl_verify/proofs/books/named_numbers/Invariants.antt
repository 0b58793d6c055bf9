use Rattle.std.proofs.Common.{◌≡◌, map, take}
use Rattle.chk_book.specs.Views.{segment_view}
use Rattle.chk_ctl_verify.proofs.books.named_numbers.Given as goal

abbrev pub invariant-loop-segment : goal.invariant-loop-segment
invariant-loop-segment l =
    l.numbers.items ≡ map (λ g. g.number) (map segment_view (take l.segment-index l.segments))
