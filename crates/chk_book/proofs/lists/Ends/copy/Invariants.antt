use Rattle.std.proofs.Common.{◌≡◌, map, take}
use Rattle.chk_book.specs.Views.{end_view}
use Rattle.chk_book.proofs.lists.Ends.copy.Given as goal

abbrev pub invariant-loop-end : goal.invariant-loop-end
invariant-loop-end l = map end_view l.ends ≡ map end_view (take l.end-index l.end-items)
