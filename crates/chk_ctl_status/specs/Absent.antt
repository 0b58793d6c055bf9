-- The texts that tell of a folder that is no store.
use Rattle.std.specs.Prelude.{ℕ, List, ◌++◌, codes}

-- for people
abbrev pub absent_text : List ℕ → List ℕ
absent_text folder =
    codes "store " ++ (folder ++ codes "\n  no store: it has no folder sinks\n")

-- one line
abbrev pub absent_line : List ℕ → List ℕ
absent_line folder = codes "WARNING - " ++ (folder ++ codes ": no store\n")
