-- Which texts are names of stores, and numbers.
use Rattle.std.specs.Prelude.{ℕ, ◌-◌, ◌^◌, ◌&&◌, Bool, nat_lt, nat_le, List, length, if◌then◌else◌}
use Rattle.std.specs.Prelude.{Option, Some, None, option_and_then}
use Rattle.std.specs.List.{list_all}
use Rattle.chk_bytes.specs.Words.{is_word}
use Rattle.chk_bytes.specs.Numbers.{number_in_digits}

-- the path of a folder
abbrev pub is_store : List ℕ → Bool
is_store text = nat_lt 0 (length text)

-- a path that may stand in front of the names of a store's files
abbrev pub is_path : List ℕ → Bool
is_path text = is_word text && nat_le (length text) 4064

-- 2 to 64 such paths
abbrev pub are_stores : List (List ℕ) → Bool
are_stores words =
    nat_le 2 (length words) && nat_le (length words) 64 && list_all is_path words

-- 1 to 64 words
abbrev pub are_collectors : List (List ℕ) → Bool
are_collectors words =
    nat_le 1 (length words) && nat_le (length words) 64 && list_all is_word words

-- a number of 1 to 19 digits that is at most so large
abbrev pub number_in : ℕ → List ℕ → Option ℕ
number_in most text = option_and_then (λ n. if nat_le n most then Some n else None)
    (number_in_digits text)

-- the most that an offset may be
abbrev pub most : ℕ
most = 2 ^ 63 - 1
