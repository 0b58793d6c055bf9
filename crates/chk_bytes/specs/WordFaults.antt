-- What is wrong with a text that is no word.
use Rattle.std.specs.Prelude.{◌≡◌, ◌⊎◌, ℕ, ◌==◌, not, nat_lt, List, length, position, if◌then◌else◌, Option, Some, None}
use Rattle.std.specs.Option.{option_map}
use Rattle.std.specs.Str.{is_utf8}
use Rattle.std.specs.Str.Lossy.{utf8_valid_len}
use Rattle.chk_bytes.specs.Words.{is_word_byte}
use Rattle.chk_bytes.specs.declared.word.WordFault.{WordFault}
use Rattle.chk_bytes.specs.declared.word.WordFault.TheVariants.{Empty, TooLong, NotUtf8, NotWord, NoMemory}

-- the first that is wrong with a text: no byte, more than 4,096 bytes, no UTF-8 from a place on,
-- a byte at a place that may not stand in a word
unfoldable pub word_fault_of : List ℕ → Option WordFault
word_fault_of text =
    if length text == 0 then Some Empty
    else (if nat_lt 4096 (length text) then Some (TooLong 4096 (length text))
    else (if is_utf8 text then option_map NotWord (position (λ b. not (is_word_byte b)) text)
    else Some (NotUtf8 (utf8_valid_len text))))

-- why no word was made of a text: just what is wrong with it, or else for want of memory
abbrev pub IsRefusal : List ℕ → WordFault → Type 0
IsRefusal text fault =
    (word_fault_of text ≡ Some fault) ⊎ ((fault ≡ NoMemory) × (word_fault_of text ≡ None))
