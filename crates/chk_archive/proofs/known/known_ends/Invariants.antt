use Rattle.std.proofs.Common.{◌≡◌, map, drop, ◌++◌}
use Rattle.chk_book.specs.Views.{end_view}
use Rattle.chk_archive.proofs.KnownEnds.{as_end}
use Rattle.chk_archive.proofs.known.known_ends.Given as goal

abbrev pub invariant-loop-end : goal.invariant-loop-end
invariant-loop-end l =
    map as_end l.known.items ++ map end_view (drop l.end-index l.end-items) ≡ map end_view l.end-items
