-- The names of a folder's files.
use Rattle.std.specs.Prelude.{ℕ, ◌&&◌, Bool, nat_le, List, ◌∷◌, ◌++◌, length, bytes_eq, codes, decimal, if◌then◌else◌}
use Rattle.chk_chunk.specs.Keys.{chunk_limit, record_limit}
use Rattle.chk_bytes.specs.Words.{is_word}

-- a folder whose files can be named
abbrev pub is_folder : List ℕ → Bool
is_folder folder = is_word folder && nat_le (length folder) 4072

abbrev pub book_name : List ℕ → List ℕ
book_name folder = folder ++ codes "/book"

abbrev pub segment_stem : ℕ → List ℕ
segment_stem number = codes "seg." ++ decimal number

abbrev pub segment_name : List ℕ → ℕ → List ℕ
segment_name folder number = folder ++ 47 ∷ segment_stem number

-- the most bytes of a value in a segment of the folder
abbrev pub most_in : List ℕ → ℕ
most_in folder = if bytes_eq folder (codes "demux") then record_limit else chunk_limit
