-- What a load of a book gives.
use Rattle.std.specs.Prelude.{◌≡◌, ◌⊎◌, ℕ, List, Option, Some, None, Result, Ok, Err}
use Rattle.chk_site.specs.Files.{File}
use Rattle.chk_site.specs.History.{History}
use Rattle.chk_replace.specs.Load.{Has}
use Rattle.chk_world.specs.Books.{Book, read_book, empty_book, book_in}
use Rattle.chk_record_index.specs.declared.fault.JobFault.{JobFault}
use Rattle.chk_record_index.specs.declared.fault.JobFault.TheVariants.{Outside, Damaged, Spent, NoMemory}
use Rattle.chk_record_index.specs.Shown.{Shown, HasMissed}
use Rattle.chk_book.specs.Folders.{book_name}
use Rattle.chk_book.specs.Damage.{book_damage}
use Rattle.chk_book.specs.Books.{book_view}
use Rattle.chk_book.specs.declared.book.Book.{Book as Struct}

-- the same result, of what the book is seen as
abbrev pub book_result : Result Struct JobFault → Result Book JobFault
book_result (Ok b) = Ok (book_view b)
book_result (Err fault) = Err fault

-- the bytes are this book, and none of their fields is wrong; where there are none it is the empty one
abbrev pub IsBookOf : Option (List ℕ) → Book → Type 0
IsBookOf None b = b ≡ empty_book
IsBookOf (Some bytes) b = (read_book bytes ≡ Some b) × (book_damage bytes ≡ None)

-- the bytes are no book, and this is their first wrong field
abbrev pub IsNoBookAt : Option (List ℕ) → ℕ → Type 0
IsNoBookAt None at = ⊥
IsNoBookAt (Some bytes) at = book_damage bytes ≡ Some at

-- a book that is read of a file's bytes; damage is of the file of this name
abbrev pub ReadBook : Option (List ℕ) → List ℕ → Result Book JobFault → Type 0
ReadBook given name (Ok b) = IsBookOf given b
ReadBook given name (Err (Damaged which at)) = (which ≡ name) × IsNoBookAt given at
ReadBook given name (Err NoMemory) = Unit {0}
ReadBook given name (Err (Outside call)) = ⊥
ReadBook given name (Err (Spent number)) = ⊥

-- the bytes of a file, where it is there
abbrev pub file_bytes : Option File → Option (List ℕ)
file_bytes None = None
file_bytes (Some f) = Some f.bytes

-- at Ok it is the file's book, and the file is still there as it was; damage is of this file, at its first wrong field
abbrev pub LoadedBook : List ℕ → Option File → Result Book JobFault → History → Type 0
LoadedBook folder file (Ok b) history =
    Has (book_name folder) file history × (b ≡ book_in file) × IsBookOf (file_bytes file) b
LoadedBook folder file (Err (Damaged name at)) history = (name ≡ book_name folder) × IsNoBookAt (file_bytes file) at
LoadedBook folder file (Err fault) history = Unit {0}

-- What own reads of the folder's book show, on every site: at Ok that its bytes are this book and none of their fields is wrong, or
-- that there was none and it is the empty one; at damage, which is of this file, that the field there is its first wrong one.
abbrev pub ShowsBook : List ℕ → Result Book JobFault → History → History → Type 0
ShowsBook folder (Ok b) added history =
    (HasMissed (book_name folder) added × (b ≡ empty_book)) ⊎ Shown (book_name folder) (λ bytes. IsBookOf (Some bytes) b) added history
ShowsBook folder (Err (Damaged name at)) added history =
    (name ≡ book_name folder) × Shown (book_name folder) (λ bytes. IsNoBookAt (Some bytes) at) added history
ShowsBook folder (Err fault) added history = Unit {0}
