-- Numbers as bytes and as digits.
use Rattle.std.specs.Prelude.{ℕ, ◌+◌, ◌-◌, ◌*◌, ◌/◌, ◌%◌, ◌^◌, ◌&&◌, nat_lt, nat_le, List, [], ◌∷◌, ◌++◌, length, take, drop, decimal, bytes_eq, if◌then◌else◌, Option, Some, None}
use Rattle.std.specs.Char.{is_ascii_digit}
use Rattle.std.specs.List.{list_all}
use Rattle.std.specs.Str.Parse.{digits_value}

-- a number as 2, 4 and 8 bytes, the high one first
abbrev pub be16 : ℕ → List ℕ
be16 n = n / 2 ^ 8 % 256 ∷ n % 256 ∷ []

-- in 4 bytes
abbrev pub be32 : ℕ → List ℕ
be32 n = n / 2 ^ 24 % 256 ∷ n / 2 ^ 16 % 256 ∷ n / 2 ^ 8 % 256 ∷ n % 256 ∷ []

-- in 3 bytes
abbrev pub be24 : ℕ → List ℕ
be24 n = n / 2 ^ 16 % 256 ∷ n / 2 ^ 8 % 256 ∷ n % 256 ∷ []

-- in 8 bytes
abbrev pub be64 : ℕ → List ℕ
be64 n =
    n / 2 ^ 56 % 256 ∷ n / 2 ^ 48 % 256 ∷ n / 2 ^ 40 % 256 ∷ n / 2 ^ 32 % 256
    ∷ n / 2 ^ 24 % 256 ∷ n / 2 ^ 16 % 256 ∷ n / 2 ^ 8 % 256 ∷ n % 256 ∷ []

-- the number that bytes spell, the high one first
abbrev pub spelled_after : ℕ → List ℕ → ℕ
spelled_after n [] = n
spelled_after n (b ∷ bytes) = spelled_after (n * 256 + b) bytes

-- the number that all these bytes spell
abbrev pub spelled : List ℕ → ℕ
spelled bytes = spelled_after 0 bytes

-- the number that the first 2, 4 and 8 bytes from a place spell
abbrev pub spelled_at : ℕ → ℕ → List ℕ → ℕ
spelled_at at size bytes = spelled (take size (drop at bytes))

-- numbers in files are below this
abbrev pub limit : ℕ
limit = 2 ^ 63

-- the last of them
abbrev pub last_number : ℕ
last_number = 2 ^ 63 - 1

-- the number of 1 to 19 digits that stand there, below 2^63
abbrev pub number_in_digits : List ℕ → Option ℕ
number_in_digits text =
    if nat_lt 0 (length text) && nat_le (length text) 19 && list_all is_ascii_digit text
    && nat_lt (digits_value 10 text) limit
    then Some (digits_value 10 text) else None

-- the same without a leading zero
abbrev pub plain_number : List ℕ → Option ℕ
plain_number text =
    if nat_lt (digits_value 10 text) limit && bytes_eq (decimal (digits_value 10 text)) text
    then Some (digits_value 10 text) else None

-- bytes behind their length in 4 bytes
abbrev pub with_length : List ℕ → List ℕ
with_length bytes = be32 (length bytes) ++ bytes
