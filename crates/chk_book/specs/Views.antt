-- What the structs of a book stand for.
use Rattle.std.specs.Prelude.{List, [], ◌∷◌, Option, Some, None}
use Rattle.std.specs.Borrow.{Bor}
use Rattle.chk_chunk.specs.Keys.{Stream}
use Rattle.chk_world.specs.Books.{Segment, End}
use Rattle.chk_book.specs.declared.lists.Segment.{Segment as SegmentStruct}
use Rattle.chk_book.specs.declared.lists.End.{End as EndStruct}
use Rattle.chk_book.specs.declared.reading.Texts.{Texts}

abbrev pub segment_view : SegmentStruct → Segment
segment_view g = record { number = g.number; length = g.length }

abbrev pub end_view : EndStruct → End
end_view e = record { stream = record { source = e.source; kind = e.kind; name = e.name }; start = e.start; end = e.end }

-- the stream of texts that were read
abbrev pub stream_of : Texts → Stream
stream_of t = record { source = t.source; kind = t.kind; name = t.name }

-- the stream before, if there is one
abbrev pub lent_stream : Option (Bor EndStruct) → Option Stream
lent_stream None = None
lent_stream (Some e) = Some (end_view e.now).stream

-- the last stream of a list, if there is one
abbrev pub last_stream : List End → Option Stream
last_stream [] = None
last_stream (e ∷ []) = Some e.stream
last_stream (e ∷ f ∷ es) = last_stream (f ∷ es)
