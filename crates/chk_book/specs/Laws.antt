-- What holds of the bytes of books.
use Rattle.std.specs.Prelude.{◌≡◌, ℕ, List, Some, None}
use Rattle.chk_world.specs.Books.{Book, read_book}
use Rattle.chk_book.specs.Damage.{book_damage}

-- bytes that are a book have no wrong field
abbrev pub BooksHaveNoDamage : Type 0
BooksHaveNoDamage = (bytes : List ℕ) (b : Book) → read_book bytes ≡ Some b → book_damage bytes ≡ None
