-- Which texts are words, names and numbers.
use Rattle.std.specs.Prelude.{ℕ, ◌-◌, Bool, ◌&&◌, ◌||◌, not, ◌==◌, nat_lt, nat_le, List, length, slice_index, if◌then◌else◌, Option, Some, None, option_and_then}
use Rattle.std.specs.Char.{is_ascii_alphanumeric}
use Rattle.std.specs.List.{list_all}
use Rattle.chk_bytes.specs.Words.{is_word}
use Rattle.chk_bytes.specs.Numbers.{number_in_digits, last_number}

-- a letter, a digit, `_`, `-` or `.`
abbrev pub is_source_byte : ℕ → Bool
is_source_byte b = is_ascii_alphanumeric b || (b == 95 || (b == 45 || b == 46))

-- the source of an agent: 1 to 64 such bytes, the first not `.`
abbrev pub is_source : List ℕ → Bool
is_source name =
    nat_lt 0 (length name) && nat_le (length name) 64 && not (slice_index name 0 == 46)
    && list_all is_source_byte name

-- so many words
abbrev pub are_words : ℕ → ℕ → List (List ℕ) → Bool
are_words least most words =
    nat_le least (length words) && nat_le (length words) most && list_all is_word words

-- a number in these bounds, of 1 to 19 digits
abbrev pub number_in : ℕ → ℕ → List ℕ → Option ℕ
number_in least most text =
    option_and_then (λ n. if nat_le least n && nat_le n most then Some n else None)
    (number_in_digits text)

-- the most that a number may be
abbrev pub most : ℕ
most = last_number
