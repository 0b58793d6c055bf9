-- The line of a stream and its digest, and those of all.
use Rattle.std.specs.Prelude.{ℕ, List, [], ◌∷◌, codes, decimal}
use Rattle.chk_world.specs.Books.{End}
use Rattle.hex.specs.Hex.{encode_lower}
pub use Rattle.chk_cmd_output.specs.Lines.{line_of, named}

-- the words of a line
abbrev pub sum_words : List ℕ → List ℕ → List ℕ → ℕ → ℕ → List ℕ → List (List ℕ)
sum_words source kind name start end digits =
    codes "stream" ∷ source ∷ kind ∷ name ∷ codes "start" ∷ decimal start ∷ codes "end"
    ∷ decimal end ∷ codes "sha256" ∷ digits ∷ []

-- the line of a stream
abbrev pub sum_line : End → List ℕ → List ℕ
sum_line e digest =
    line_of (sum_words e.stream.source e.stream.kind e.stream.name e.start e.end
    (encode_lower digest))

-- the line of each stream and the digest at its place
abbrev pub sum_lines : List End → List (List ℕ) → List (List ℕ)
sum_lines [] digests = []
sum_lines (e ∷ ends) [] = []
sum_lines (e ∷ ends) (d ∷ digests) = sum_line e d ∷ sum_lines ends digests
