-- What a borrowed chunk of a message stands for.
use Rattle.std.specs.Prelude.{◌≡◌, ℕ, List, [], map, All, IsTrue, Option, Some, None}
use Rattle.chk_chunk.specs.Lent.{lent_chunk}
use Rattle.chk_tee.specs.Messages.{Teed, IsTee, is_teed, written_tee}
use Rattle.chk_tee.specs.declared.Teed.{Teed as LentTeed}

-- the chunk that it is, with its stem and its offset
abbrev pub lent_teed : LentTeed → Teed
lent_teed t = record { stem = t.stem; offset = t.offset; chunk = lent_chunk t.chunk }

-- the same of some
abbrev pub lent_teeds : List LentTeed → List Teed
lent_teeds items = map lent_teed items

-- each can be spelled
abbrev pub AreValidTeeds : List LentTeed → Type 0
AreValidTeeds items = All (λ t. IsTrue (is_teed (lent_teed t))) items

-- the bytes are the message of these chunks; without one there are no bytes
abbrev pub IsWrittenOf : List Teed → Option (List ℕ) → Type 0
IsWrittenOf items None = items ≡ []
IsWrittenOf items (Some bytes) = (bytes ≡ written_tee items) × IsTee items bytes
