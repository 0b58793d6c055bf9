use Rattle.std.proofs.Common.{◌≡◌, map, drop}
use Rattle.chk_book.specs.Views.{end_view}
use Rattle.chk_book.specs.Books.{end_in}
use Rattle.chk_book.proofs.book.Book.archived_end.Given as goal

abbrev pub invariant-loop-end : goal.invariant-loop-end
invariant-loop-end l =
    end_in 0 (map end_view (drop l.end-index l.end-items)) (record { source = l.source; kind = l.kind; name = l.name })
    ≡ end_in 0 (map end_view l.end-items) (record { source = l.source; kind = l.kind; name = l.name })
