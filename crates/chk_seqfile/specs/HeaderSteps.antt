-- Reading a header in steps, while its bytes come.
use Rattle.std.specs.Prelude.{◌≡◌, ◌⊎◌, ℕ, ◌-◌, ◌*◌, ◌≤◌, List, ◌++◌, length, drop, Option, Some, None, IfSome, Result, Ok, Err}
use Rattle.chk_seqfile.specs.declared.headers.HeaderRef.{HeaderRef}
use Rattle.chk_seqfile.specs.declared.headers.HeaderFault.{HeaderFault}
use Rattle.chk_seqfile.specs.declared.headers.TextsLeft.{TextsLeft}
use Rattle.chk_seqfile.specs.Headers.{◌>>=◌, read_front, read_digits, read_text, read_texts, read_marker, read_header}

-- the place of the first text of the metadata, and how many texts there are
unfoldable pub read_first_text : List ℕ → Result TextsLeft HeaderFault
read_first_text bytes = do
  behind_front ← read_front bytes
  count ← read_digits (length bytes - length behind_front) 4 behind_front
  Ok (record { place = length bytes - length count.1; texts = 2 * count.0 })

-- the header that these bytes have where only those texts and the marker are left to read
abbrev pub header_from : TextsLeft → List ℕ → Result HeaderRef HeaderFault
header_from left bytes = do
  behind_texts ← read_texts (length bytes) left.texts (drop left.place bytes)
  read_marker (length bytes) behind_texts

-- the fields before those texts are whole: whatever follows, the header is read on from there
pub record HasComeTo (left : TextsLeft) (bytes : List ℕ) : Type 0 where
  pub within : left.place ≤ length bytes
  pub on : (more : List ℕ) → read_header (bytes ++ more) ≡ header_from left (bytes ++ more)

-- the same, where reading has come to a text at all
abbrev pub HasCome : Option TextsLeft → List ℕ → Type 0
HasCome from bytes = IfSome from (λ left. HasComeTo left bytes)

-- no further step can be made: the fields before the texts can't be read, or no text is left, or the next one can't be
-- read
abbrev pub NoStepLeft : Option TextsLeft → List ℕ → Type 0
NoStepLeft None bytes = (fault : HeaderFault) × (read_first_text bytes ≡ Err fault)
NoStepLeft (Some left) bytes =
    (left.texts ≡ 0) ⊎ ((fault : HeaderFault) × (read_text (length bytes) (drop left.place bytes) ≡ Err fault))
