use Rattle.std.proofs.Common.{take}
use Rattle.chk_world.proofs.Each.{Each}
use Rattle.chk_book.specs.Books.{book_view}
use Rattle.chk_join.specs.Names.{IsStray}
use Rattle.chk_join.proofs.StraysGone.{AllFound}
use Rattle.chk_join.proofs.names.strays.Given as goal

abbrev pub invariant-loop-name : goal.invariant-loop-name
invariant-loop-name l = record {
  each : Each (IsStray (book_view l.book)) l.strays.items;
  all : AllFound (book_view l.book) (take l.name-index l.names) l.strays.items;
}
