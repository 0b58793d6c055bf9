use Rattle.std.proofs.Common.{◌≡◌, take}
use Rattle.chk_book.specs.Books.{book_view}
use Rattle.chk_archive.specs.FolderNames.{strays_in}
use Rattle.chk_archive.proofs.folder_names.strays.Given as goal

abbrev pub invariant-loop-name : goal.invariant-loop-name
invariant-loop-name l = l.strays.items ≡ strays_in (book_view l.book) (take l.name-index l.names)
