-- The room that is left beside a store, as `df -P -k` tells it, and the text that shows it.
use Rattle.std.specs.Prelude.{ℕ, ◌-◌, ◌*◌, ◌^◌, ◌==◌, not, min, List, ◌++◌, length, take, drop}
use Rattle.std.specs.Prelude.{codes, decimal, position, Option, Some, None, option_and_then}
use Rattle.std.specs.Prelude.{option_map}
use Rattle.std.specs.List.{suffix_len}
use Rattle.chk_bytes.specs.Numbers.{number_in_digits}
use Rattle.chk_bytes.specs.Words.{before_end}
use Rattle.chk_ctl_status_rows.specs.Lines.{quiet_cell}

-- the place behind the last such byte; 0 where there is none
abbrev pub behind_last : ℕ → List ℕ → ℕ
behind_last byte text = length text - suffix_len (λ b. not (b == byte)) text

-- the place behind the last byte that is another one
abbrev pub behind_other : ℕ → List ℕ → ℕ
behind_other byte text = length text - suffix_len (λ b. b == byte) text

-- the number that is the last word, where no space (32) is behind it
abbrev pub number_at_end : List ℕ → Option ℕ
number_at_end text = number_in_digits (drop (behind_last 32 text) text)

-- the same, in front of spaces
abbrev pub number_before_spaces : List ℕ → Option ℕ
number_before_spaces text = number_at_end (take (behind_other 32 text) text)

-- a number of blocks of 1,024 bytes, as bytes
abbrev pub block_bytes : ℕ → ℕ
block_bytes blocks = min (blocks * 1024) (2 ^ 64 - 1)

-- two numbers stand at the end, what is free and how much is used of all
abbrev pub free_before : List ℕ → Option ℕ
free_before front =
    option_and_then
    (λ used. option_map block_bytes (number_before_spaces (take (behind_last 32 front) front)))
    (number_at_end front)

-- and a percent sign (37) behind them, the first one of the line
abbrev pub free_of_line : List ℕ → Option ℕ
free_of_line line =
    option_and_then (λ at. free_before (take at line)) (position (λ b. b == 37) line)

-- in the last line (10)
abbrev pub free_in : List ℕ → Option ℕ
free_in answer =
    option_and_then (λ lines. free_of_line (drop (behind_last 10 lines) lines))
    (before_end (codes "\n") answer)

-- the table, with the number in a column, or a hyphen
abbrev pub free_text : Option ℕ → List ℕ
free_text free = codes "           FREE\n" ++ (quiet_cell free ++ codes "\n")

-- in a line, the number, or a hyphen
abbrev pub free_word : Option ℕ → List ℕ
free_word (Some bytes) = decimal bytes
free_word None = codes "-"
