-- The line of a stream of which chunks wait, and those of all.
use Rattle.std.specs.Prelude.{ℕ, List, [], ◌∷◌, ◌++◌, map, codes, decimal}
use Rattle.chk_world.specs.Books.{Book, End}
use Rattle.chk_record_index.specs.Heads.{Head}
use Rattle.chk_book.specs.Books.{end_in}
use Rattle.chk_ctl_held.specs.Groups.{Group, groups}
pub use Rattle.chk_cmd_output.specs.Lines.{line_of}

-- the words of a line
abbrev pub held_words : List ℕ → List ℕ → List ℕ → ℕ → ℕ → ℕ → ℕ → List (List ℕ)
held_words source kind name archived begin end count =
    codes "held" ∷ source ∷ kind ∷ name ∷ codes "archived" ∷ decimal archived ∷ codes "missing"
    ∷ decimal archived ∷ codes "to" ∷ decimal begin ∷ codes "waits" ∷ decimal begin ∷ codes "to"
    ∷ decimal end ∷ codes "chunks" ∷ decimal count ∷ []

-- the words that name the stream, in front of the offsets
abbrev pub named : List ℕ → List ℕ → List ℕ → List ℕ
named source kind name =
    codes "held " ++ (source ++ (codes " " ++ (kind ++ (codes " " ++ name))))

-- the offsets, as they follow them
abbrev pub places : ℕ → ℕ → ℕ → List ℕ
places archived begin end =
    codes " archived " ++ (decimal archived ++ (codes " missing " ++ (decimal archived
    ++ (codes " to " ++ (decimal begin ++ (codes " waits " ++ (decimal begin ++ (codes " to "
    ++ decimal end))))))))

-- the line of a stream that is archived up to this offset: the bytes from there to the first one
-- that waits are missing
abbrev pub line_at : ℕ → Group → List ℕ
line_at archived g =
    line_of (held_words g.head.key.stream.source g.head.key.stream.kind g.head.key.stream.name
    archived g.head.begin g.end g.count)

-- the same, by the ends of the book
abbrev pub held_line : List End → Group → List ℕ
held_line ends g = line_at (end_in 0 ends g.head.key.stream) g

-- a line for each stream of which chunks wait
abbrev pub held_lines : Book → List Head → List (List ℕ)
held_lines b heads = map (held_line b.ends) (groups heads)
