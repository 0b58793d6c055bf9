-- The lines that tell of streams and runs.
use Rattle.std.specs.Prelude.{ℕ, List, [], ◌∷◌, ◌++◌, codes, decimal}
use Rattle.chk_bytes.specs.Words.{joined_at}
use Rattle.chk_bytes.specs.Stems.{stem_text}
use Rattle.chk_cmd_line.specs.declared.lines.Part.{Part}
use Rattle.chk_cmd_line.specs.declared.lines.Part.TheVariants.{Text, Number, Stem}

-- words with a space between each two, and a newline
abbrev pub line_of : List (List ℕ) → List ℕ
line_of words = joined_at 32 words ++ 10 ∷ []

-- the text of a part of a line
abbrev pub part_text : Part → List ℕ
part_text (Text text) = text.now
part_text (Number number) = decimal number
part_text (Stem stem) = stem_text stem.now

-- a stream that was read to this offset
abbrev pub stream_line : List ℕ → List ℕ → List ℕ → ℕ → List ℕ
stream_line source kind name offset =
    line_of (codes "stream" ∷ source ∷ kind ∷ name ∷ decimal offset ∷ [])

-- a stream that is archived up to this offset
abbrev pub end_line : List ℕ → List ℕ → List ℕ → ℕ → List ℕ
end_line source kind name end =
    line_of (codes "end" ∷ source ∷ kind ∷ name ∷ decimal end ∷ [])

-- an archive run: sinks under writing, bytes taken, chunks that are set aside, done sinks that were removed
abbrev pub archive_line : ℕ → ℕ → ℕ → ℕ → List ℕ
archive_line unclosed taken held removed =
    line_of (codes "archive" ∷ codes "unclosed" ∷ decimal unclosed ∷ codes "taken" ∷ decimal taken
    ∷ codes "held" ∷ decimal held ∷ codes "removed" ∷ decimal removed ∷ [])

-- a run that splits into records: bytes taken, records, bytes left
abbrev pub demux_line : ℕ → ℕ → ℕ → List ℕ
demux_line taken entries left =
    line_of (codes "demux" ∷ codes "taken" ∷ decimal taken ∷ codes "entries" ∷ decimal entries
    ∷ codes "left" ∷ decimal left ∷ [])

-- a load: lines, bytes appended, the sum of the archived ends
abbrev pub load_line : ℕ → ℕ → ℕ → List ℕ
load_line lines bytes archived =
    line_of (codes "load" ∷ codes "lines" ∷ decimal lines ∷ codes "bytes" ∷ decimal bytes
    ∷ codes "archived" ∷ decimal archived ∷ [])
