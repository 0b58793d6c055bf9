-- A word that may be lent.
use Rattle.std.specs.Prelude.{ℕ, List, Option, Some, None}
use Rattle.std.specs.Borrow.{Bor}

abbrev pub word_of : Option (Bor (List ℕ)) → Option (List ℕ)
word_of None = None
word_of (Some word) = Some word.now
