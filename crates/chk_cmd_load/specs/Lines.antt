-- The lines of a load, log by log.
use Rattle.std.specs.Prelude.{ℕ, ◌+◌, ◌%◌, zero, suc, Bool, true, ◌==◌, List, [], ◌∷◌, ◌++◌, length, if◌then◌else◌}
use Rattle.chk_cmd_line.specs.Loads.{load_text}

-- of the first `n` of so many lines those that go to this log, which is counted from 0
abbrev pub lines_to : ℕ → ℕ → ℕ → List ℕ
lines_to lines log zero = []
lines_to lines log (suc n) = lines_to lines log n ++ (if n % 3 == log then load_text lines n else [])

-- all lines that the generator gives to this log
abbrev pub all_lines : ℕ → ℕ → List ℕ
all_lines lines log = lines_to lines log lines

-- how many bytes all lines of the first logs have
abbrev pub bytes_of : ℕ → ℕ → ℕ
bytes_of lines zero = 0
bytes_of lines (suc log) = bytes_of lines log + length (all_lines lines log)

-- the text ends after a line, or there is none
abbrev pub ends_lines : List ℕ → Bool
ends_lines [] = true
ends_lines (b ∷ []) = b == 10
ends_lines (b ∷ c ∷ text) = ends_lines (c ∷ text)
