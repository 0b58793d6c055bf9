-- The log of a stream, since its agent first had a line for it, and what is true of it.
use Rattle.std.specs.Prelude.{◌≡◌, ℕ, ◌+◌, ◌-◌, ◌≤◌, Bool, false, ◌&&◌, not, nat_le, List, [], ◌∷◌, ◌++◌, length, take, drop, map, if◌then◌else◌, Option, Some, None}
use Rattle.chk_bytes.specs.Words.{joined}
use Rattle.chk_control.specs.Classes.{is_plain, breaks_lines}
use Rattle.chk_site.specs.Suffixes.{is_after}
use Rattle.chk_site.specs.Logs.{Generation, Log, is_cut_place, last_cut}
use Rattle.chk_site.specs.History.{History, logs_after}
use Rattle.chk_chunk.specs.Keys.{Stream, Chunk, chunk_begin}
use Rattle.chk_world.specs.Checkpoints.{Line, line_of}

-- the first line of a stream, and the rotated generations of its path at that step
pub record Founding : Type 0 where
  pub line : Line
  pub rotated : List Generation

-- a line and the log at its step
abbrev pub founded_by : Option Line → Log → Option Founding
founded_by None log = None
founded_by (Some l) log = Some (record { line = l; rotated = log.rotated })

-- the first, where it is there
abbrev pub or_else : {A : Type 0} → Option A → Option A → Option A
or_else None later = later
or_else (Some x) later = Some x

-- the first step after which the stream's agent has a line for it
abbrev pub founding : History → Stream → Option Founding
founding [] s = None
founding (step ∷ history) s = or_else (founding history s) (founded_by (line_of step.files s) (step.logs s.name))

-- the start of that line
abbrev pub start_at : Option Founding → ℕ
start_at None = 0
start_at (Some f) = f.line.start

-- the offset of the stream's first byte
abbrev pub start_of : History → Stream → ℕ
start_of history s = start_at (founding history s)

-- of the generations that were there, those that weren't deleted then and come after the line's suffix; and
-- all later ones
abbrev pub chosen : Option (List ℕ) → List Generation → List Generation → List Generation
chosen after [] gs = gs
chosen after (then_g ∷ then_gs) [] = []
chosen after (then_g ∷ then_gs) (g ∷ gs) =
    if not then_g.deleted && is_after after then_g.suffix then g ∷ chosen after then_gs gs else chosen after then_gs gs

-- the parts of a stream's log: rotated generations and the base file
pub record Parts : Type 0 where
  pub lines : Bool
  pub rotated : List Generation
  pub base : List ℕ

-- the parts of the log since that step
abbrev pub parts_since : Option Founding → Log → Parts
parts_since None log = record { lines = false; rotated = []; base = [] }
parts_since (Some f) log = record {
  lines = breaks_lines f.line.class;
  rotated = if is_plain f.line.class then [] else chosen f.line.after f.rotated log.rotated;
  base = log.base;
}

-- the parts of a stream's log
abbrev pub parts_of : History → Stream → Parts
parts_of history s = parts_since (founding history s) (logs_after history s.name)

-- the bytes of each generation
abbrev pub bytes_of : List Generation → List (List ℕ)
bytes_of gs = map (λ g. g.bytes) gs

-- the log of a stream. Its first byte has the start as its offset
abbrev pub log_of : History → Stream → List ℕ
log_of history s = let p = parts_of history s in joined (bytes_of p.rotated) ++ p.base

-- the offset past the log's last byte
abbrev pub log_end : History → Stream → ℕ
log_end history s = start_of history s + length (log_of history s)

-- an offset at which a reader of the stream may stop
abbrev pub is_stream_cut : History → Stream → ℕ → Bool
is_stream_cut history s o =
    let p = parts_of history s in
    nat_le (start_of history s) o && is_cut_place p.lines (bytes_of p.rotated) p.base (o - start_of history s)

-- the log up to its greatest such offset
abbrev pub whole_log : History → Stream → List ℕ
whole_log history s =
    let p = parts_of history s in
    take (last_cut p.lines (bytes_of p.rotated) p.base (length (log_of history s))) (log_of history s)

-- the offset past the whole log
abbrev pub whole_end : History → Stream → ℕ
whole_end history s = start_of history s + length (whole_log history s)

-- the chunk has its stream's start, and its data is what the log has at its offsets
pub record IsTrueChunk (history : History) (c : Chunk) : Type 0 where
  pub start : c.key.start ≡ start_of history c.key.stream
  pub data_is : c.value ≡ take (length c.value) (drop (chunk_begin c - c.key.start) (log_of history c.key.stream))

-- the bytes of the generations at or below a suffix
abbrev pub passed_by : Option (List ℕ) → List Generation → ℕ
passed_by after [] = 0
passed_by after (g ∷ gs) = if is_after after g.suffix then passed_by after gs else length g.bytes + passed_by after gs

-- the length of the generation that follows a suffix
abbrev pub next_length : Option (List ℕ) → List Generation → List ℕ → ℕ
next_length after [] base = length base
next_length after (g ∷ gs) base = if is_after after g.suffix then length g.bytes else next_length after gs base

-- the line's place lies in the generation that follows its suffix, which begins at `first`
pub record IsTruePlace (history : History) (s : Stream) (l : Line) : Type 0 where
  pub first : l.first ≡ start_of history s + passed_by l.after (parts_of history s).rotated
  pub on : l.first ≤ l.offset
  pub within : l.offset ≤ l.first + next_length l.after (parts_of history s).rotated (parts_of history s).base
