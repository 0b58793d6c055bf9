-- Words of lines.
use Rattle.std.specs.Prelude.{ℕ, List, [], ◌∷◌, ◌++◌, codes}
use Rattle.chk_bytes.specs.Words.{joined_at}

-- words with a space between each two, and a newline
abbrev pub line_of : List (List ℕ) → List ℕ
line_of words = joined_at 32 words ++ 10 ∷ []

-- the words that name a stream, in front of its offsets
abbrev pub named : List ℕ → List ℕ → List ℕ → List ℕ
named source kind name =
    codes "stream " ++ (source ++ (codes " " ++ (kind ++ (codes " " ++ name))))
