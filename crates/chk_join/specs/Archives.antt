-- Archives of streams, and what the join of two of them is.
use Rattle.std.specs.Prelude.{◌≡◌, ◌⊎◌, ℕ, nat_lt, List, length, Option, Some, None, if◌then◌else◌}
use Rattle.chk_bytes.specs.Words.{BeginsWith}
use Rattle.chk_chunk.specs.Keys.{Stream}

-- a stream's bytes, with their start
pub record Archived : Type 0 where
  pub start : ℕ
  pub bytes : List ℕ

-- an archive: what it has of each stream
abbrev pub Archive : Type 0
Archive = Stream → Option Archived

-- the one with more bytes, the first where they are equally long
abbrev pub longer : Option Archived → Option Archived → Option Archived
longer None b = b
longer (Some a) None = Some a
longer (Some a) (Some b) = if nat_lt (length a.bytes) (length b.bytes) then Some b else Some a

-- each stream of either, with the longer bytes
abbrev pub join : Archive → Archive → Archive
join a b s = longer (a s) (b s)

-- they have the same start, and one is a front of the other
abbrev pub AgreeAt : Option Archived → Option Archived → Type 0
AgreeAt None b = Unit {0}
AgreeAt (Some a) None = Unit {0}
AgreeAt (Some a) (Some b) = (a.start ≡ b.start) × (BeginsWith a.bytes b.bytes ⊎ BeginsWith b.bytes a.bytes)

-- the same of each stream that both have
abbrev pub Agree : Archive → Archive → Type 0
Agree a b = (s : Stream) → AgreeAt (a s) (b s)

-- what there is has the log's start and is a front of it
abbrev pub IsFrontOf : Option Archived → Option Archived → Type 0
IsFrontOf log None = Unit {0}
IsFrontOf None (Some a) = ⊥
IsFrontOf (Some log) (Some a) = (log.start ≡ a.start) × BeginsWith log.bytes a.bytes

-- the archive is a prefix of these logs
abbrev pub IsPrefix : Archive → Archive → Type 0
IsPrefix logs a = (s : Stream) → IsFrontOf (logs s) (a s)
