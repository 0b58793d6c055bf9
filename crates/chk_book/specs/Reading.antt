-- What the fields of a book are read as.
use Rattle.std.specs.Prelude.{◌≡◌, ℕ, List, Option, Some, IsFalse}
use Rattle.chk_bytes.specs.Words.{is_word}
use Rattle.chk_book.specs.declared.fields.BookFault.{BookFault}
use Rattle.chk_book.specs.declared.fields.BookFault.TheVariants.{Damaged, NoMemory}

-- the bytes are damaged there, or there was no memory
abbrev pub IsRefused : Option ℕ → BookFault → Type 0
IsRefused damage (Damaged at) = damage ≡ Some at
IsRefused damage NoMemory = Unit {0}

-- the text at this place is no word, or there was no memory for it
abbrev pub IsNoWord : ℕ → List ℕ → BookFault → Type 0
IsNoWord at text (Damaged place) = (place ≡ at) × IsFalse (is_word text)
IsNoWord at text NoMemory = Unit {0}
