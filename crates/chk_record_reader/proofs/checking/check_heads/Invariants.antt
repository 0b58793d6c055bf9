use Rattle.std.proofs.Common.{take}
use Rattle.chk_world.proofs.Each.{Each}
use Rattle.chk_book.specs.Books.{book_view}
use Rattle.chk_record_reader.specs.Checking.{HeadGoesWell}
use Rattle.chk_record_reader.proofs.checking.check_heads.Given as goal

abbrev pub invariant-loop-index : goal.invariant-loop-index
invariant-loop-index l = Each (HeadGoesWell (book_view l.book).ends l.heads) (take l.index l.heads)
