use Rattle.std.proofs.Common.{◌≡◌, map, drop}
use Rattle.chk_book.specs.Books.{end_in}
use Rattle.chk_book.specs.Views.{end_view}
use Rattle.chk_ctl_streams.proofs.recorded.recorded_end.Given as goal

abbrev pub invariant-loop-at : goal.invariant-loop-at
invariant-loop-at l =
    end_in 0 (drop l.at (map end_view l.ends)) (end_view l.end).stream
    ≡ end_in 0 (map end_view l.ends) (end_view l.end).stream
