use Rattle.std.proofs.Common.{◌≡◌, ◌++◌, take}
use Rattle.chk_book.specs.Books.{book_view}
use Rattle.chk_archive.specs.FolderNames.{closed_in}
use Rattle.chk_archive.specs.Listed.{aside_files}
use Rattle.chk_archive.proofs.sources.sources.Given as goal

abbrev pub invariant-loop-name : goal.invariant-loop-name
invariant-loop-name l = l.files.items ≡ aside_files (book_view l.book) ++ closed_in (take l.name-index l.names)
