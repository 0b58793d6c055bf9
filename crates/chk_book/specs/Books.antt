-- What the struct of a book stands for.
use Rattle.std.specs.Prelude.{ℕ, List, [], ◌∷◌, map, option_map, if◌then◌else◌, max}
use Rattle.chk_chunk.specs.Keys.{Stream, same_stream}
use Rattle.chk_world.specs.Books.{Book, End}
use Rattle.chk_book.specs.declared.book.Book.{Book as Struct}
use Rattle.chk_book.specs.Views.{segment_view, end_view}

abbrev pub book_view : Struct → Book
book_view b = record {
  next = b.next;
  segments = map segment_view b.segments;
  ends = map end_view b.ends;
  aside = option_map segment_view b.aside;
}

-- the end of a stream in a list of ends, or this one
abbrev pub end_in : ℕ → List End → Stream → ℕ
end_in none [] s = none
end_in none (e ∷ es) s = if same_stream s e.stream then e.end else end_in none es s

-- the offset up to which the records of a stream go, by the ends of their book; its start where
-- they have none of it
abbrev pub split_to : List End → End → ℕ
split_to records e = max (end_in 0 records e.stream) e.start
