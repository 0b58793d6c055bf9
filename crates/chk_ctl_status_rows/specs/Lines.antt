-- The lines of the tables.
use Rattle.std.specs.Prelude.{ℕ, ◌-◌, ◌^◌, List, ◌++◌, codes, Option, Some, None}
use Rattle.std.specs.Fmt.{format_spec, styled_decimal}
use Rattle.chk_bytes.specs.Stems.{stem_text}
use Rattle.chk_world.specs.Books.{End}
use Rattle.chk_ctl_status_rows.specs.declared.sinks.OpenSink.{OpenSink}
pub use Rattle.chk_book.specs.Books.{split_to}

-- a number at the right end of a column of 15 places, with spaces before it
abbrev pub right : ℕ → List ℕ
right n = styled_decimal (format_spec 32 3 0 15 (2 ^ 64 - 1)) n

-- two such columns, and a space between them
abbrev pub columns : ℕ → ℕ → List ℕ
columns first second = right first ++ (codes " " ++ right second)

-- the words that name a stream
abbrev pub words_of : List ℕ → List ℕ → List ℕ → List ℕ
words_of source kind name = source ++ (codes " " ++ (kind ++ (codes " " ++ name)))

-- a stream that is archived up to its end, and whose records go up to this offset
abbrev pub stream_line : End → ℕ → List ℕ
stream_line e split =
    columns e.end split ++ (codes "  " ++ (words_of e.stream.source e.stream.kind e.stream.name
    ++ codes "\n"))

-- the same, by the ends of the book of the records
abbrev pub stream_in : List End → End → List ℕ
stream_in records e = stream_line e (split_to records e)

-- how many seconds a sink has been quiet
abbrev pub quiet_cell : Option ℕ → List ℕ
quiet_cell (Some seconds) = right seconds
quiet_cell None = codes "              -"

-- a sink under writing
abbrev pub sink_line : OpenSink → List ℕ
sink_line s =
    columns s.written s.committed ++ (codes " " ++ (quiet_cell s.quiet ++ (codes "  "
    ++ (stem_text s.stem ++ codes "\n"))))

-- three counts
abbrev pub counts_line : ℕ → ℕ → ℕ → List ℕ
counts_line first second third =
    columns first second ++ (codes " " ++ (right third ++ codes "\n"))
