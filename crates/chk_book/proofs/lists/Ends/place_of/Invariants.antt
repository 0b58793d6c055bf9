use Rattle.chk_book.specs.Views.{end_view}
use Rattle.chk_book.specs.Raising.{ArePassed}
use Rattle.chk_book.proofs.lists.Ends.place_of.Given as goal

abbrev pub invariant-loop-at : goal.invariant-loop-at
invariant-loop-at l = ArePassed (end_view l.end) l.self-inside.items.items l.at
