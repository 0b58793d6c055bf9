-- The words of `join`, what holds of them, and the line that it prints.
use Rattle.std.specs.Prelude.{ℕ, Bool, ◌&&◌, not, nat_le, bytes_eq, IsTrue, List, [], ◌∷◌, length, codes, decimal}
use Rattle.chk_bytes.specs.Words.{is_word}
use Rattle.chk_cmd_line.specs.declared.joining.JoinWords.{JoinWords}
use Rattle.chk_cmd_line.specs.Lines.{line_of}

-- a word of at most 4,072 bytes, which is neither `joined` nor `demux`
abbrev pub is_joinable : List ℕ → Bool
is_joinable folder =
    (is_word folder && nat_le (length folder) 4072)
    && (not (bytes_eq folder (codes "joined")) && not (bytes_eq folder (codes "demux")))

-- the words of `join`
pub record JoinAsked : Type 0 where
  pub left : List ℕ
  pub right : List ℕ

-- the texts that borrowed words lend
abbrev pub join_of : JoinWords → JoinAsked
join_of w = record { left = w.left.now; right = w.right.now }

-- both are such folders
abbrev pub IsGoodJoin : JoinAsked → Type 0
IsGoodJoin w = IsTrue (is_joinable w.left) × IsTrue (is_joinable w.right)

-- a join: the streams of the joined archive, and their bytes
abbrev pub join_line : ℕ → ℕ → List ℕ
join_line streams bytes =
    line_of (codes "join" ∷ codes "streams" ∷ decimal streams ∷ codes "bytes" ∷ decimal bytes ∷ [])
