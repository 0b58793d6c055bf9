-- The lines of a load.
use Rattle.std.specs.Prelude.{◌≡◌, ℕ, ◌+◌, ◌*◌, ◌%◌, ◌^◌, ◌<◌, zero, suc, Bool, true, false, List, [], ◌∷◌, ◌++◌, codes, decimal, Result, Ok, Err}
use Rattle.chk_bytes.specs.declared.NoMemory.{NoMemory}
use Rattle.chk_cmd_line.specs.Lines.{line_of}

-- the next number of the generator
abbrev pub next_value : ℕ → ℕ
next_value x = (1103515245 * x + 12345) % 2 ^ 31

-- the number of each line, where there are so many lines
abbrev pub load_value : ℕ → ℕ → ℕ
load_value lines zero = lines % 2 ^ 31
load_value lines (suc line) = next_value (load_value lines line)

-- the text of each line
abbrev pub load_text : ℕ → ℕ → List ℕ
load_text lines line = line_of (decimal line ∷ decimal (load_value lines line) ∷ [])

-- the path of the log to which a line goes
abbrev pub load_log : ℕ → List ℕ
load_log line = codes "load." ++ (decimal (line % 3) ++ codes ".log")

-- which line of how many comes next
pub record LoadPlace : Type 0 where
  pub lines : ℕ
  pub line : ℕ

-- the next line was appended, where there is one
abbrev pub Moved : LoadPlace → LoadPlace → List ℕ → List ℕ → Result Bool NoMemory → Type 0
Moved old new before after (Ok true) =
    (old.line < old.lines) × (after ≡ before ++ load_text old.lines old.line)
    × (new ≡ record { lines = old.lines; line = old.line + 1 })
Moved old new before after (Ok false) = (old.line ≡ old.lines) × (new ≡ old) × (after ≡ before)
Moved old new before after (Err fault) = Unit {0}
