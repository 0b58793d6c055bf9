use Rattle.std.proofs.Common.{◌≡◌, map, drop}
use Rattle.chk_book.specs.Views.{end_view}
use Rattle.chk_book.specs.Raising.{AreUpTo}
use Rattle.chk_book.specs.Segmenting.{raised_by}
use Rattle.chk_book.proofs.lists.Ends.raised_by.Given as goal

abbrev pub invariant-loop-other : goal.invariant-loop-other
invariant-loop-other l = record {
  so_far : raised_by (drop l.other-index (map end_view l.other-items)) (map end_view l.ends) ≡ raised_by (map end_view l.other-items) (map end_view l.self);
  near : AreUpTo l.ends l.at;
}
