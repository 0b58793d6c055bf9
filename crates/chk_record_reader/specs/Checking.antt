-- Whether the records of all streams run as the book says.
use Rattle.std.specs.Prelude.{◌≡◌, ℕ, List, None}
use Rattle.chk_chunk.specs.Keys.{Stream}
use Rattle.chk_world.specs.Books.{End, Book}
use Rattle.chk_record_index.specs.Heads.{Head}
use Rattle.chk_record_index.specs.declared.fault.JobFault.{JobFault}
use Rattle.chk_record_reader.specs.Courses.{end_of, IsBreakBy}
use Rattle.chk_record_reader.specs.Archives.{ToldBreak}

-- nothing is wrong with the stream's records
abbrev pub GoesWell : List End → List Head → Stream → Type 0
GoesWell es heads s = IsBreakBy s (end_of s es) heads None

abbrev pub EndGoesWell : List End → List Head → End → Type 0
EndGoesWell es heads e = GoesWell es heads e.stream

-- the same of a head's stream, if that isn't in the book
abbrev pub HeadGoesWell : List End → List Head → Head → Type 0
HeadGoesWell es heads h = end_of h.key.stream es ≡ None → GoesWell es heads h.key.stream

-- the same of all streams
abbrev pub AllGoWell : List End → List Head → Type 0
AllGoWell es heads = (s : Stream) → GoesWell es heads s

-- what is wrong with some stream's records is told
abbrev pub ToldOfSome : List ℕ → Book → List (List ℕ) → List Head → JobFault → Type 0
ToldOfSome folder b names heads fault = (s : Stream) × ToldBreak folder b names s heads fault
