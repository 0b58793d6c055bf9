use Rattle.std.proofs.Common.{map, take}
use Rattle.chk_world.proofs.Each.{Each}
use Rattle.chk_book.specs.Books.{book_view}
use Rattle.chk_book.specs.Views.{end_view}
use Rattle.chk_record_reader.specs.Checking.{EndGoesWell}
use Rattle.chk_record_reader.proofs.checking.check_ends.Given as goal

abbrev pub invariant-loop-end : goal.invariant-loop-end
invariant-loop-end l = Each (EndGoesWell (book_view l.book).ends l.heads) (map end_view (take l.end-index l.end-items))
