use Rattle.std.proofs.Common.{◌≡◌, length, map, take}
use Rattle.std.specs.Prelude.{IsTrue}
use Rattle.chk_world.specs.Books.{ends_rise}
use Rattle.chk_book.specs.Books.{book_view}
use Rattle.chk_demux.specs.Splitting.{split_from}
use Rattle.chk_demux.proofs.splitting.places_of.Given as goal

abbrev pub invariant-loop-end : goal.invariant-loop-end
invariant-loop-end l = record {
  size : length l.places.items ≡ l.end-index;
  so_far : IsTrue (ends_rise (book_view l.book).ends)
      → l.places.items ≡ map (split_from (book_view l.book)) (take l.end-index (book_view l.archive).ends);
}
