-- The line of a stream, and those of all.
use Rattle.std.specs.Prelude.{ℕ, List, [], ◌∷◌, map, codes, decimal}
use Rattle.chk_world.specs.Books.{Book, End}
pub use Rattle.chk_book.specs.Books.{split_to}
pub use Rattle.chk_cmd_output.specs.Lines.{line_of, named}

-- the words of the line of a stream
abbrev pub stream_words : List ℕ → List ℕ → List ℕ → ℕ → ℕ → ℕ → List (List ℕ)
stream_words source kind name start end split =
    codes "stream" ∷ source ∷ kind ∷ name ∷ codes "start" ∷ decimal start ∷ codes "end"
    ∷ decimal end
    ∷ codes "demuxed" ∷ decimal split ∷ []

-- the line of a stream whose records go up to this offset
abbrev pub stream_line : End → ℕ → List ℕ
stream_line e split = line_of (stream_words e.stream.source e.stream.kind e.stream.name e.start
    e.end split)

-- the same, by the ends of the book of the records
abbrev pub line_in : List End → End → List ℕ
line_in records e = stream_line e (split_to records e)

-- a line for each stream of the archive, in the order of its book
abbrev pub stream_lines : Book → Book → List (List ℕ)
stream_lines archive records = map (line_in records.ends) archive.ends
