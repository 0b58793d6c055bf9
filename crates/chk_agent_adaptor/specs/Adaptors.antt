-- An adaptor, as contracts see it.
use Rattle.std.specs.Prelude.{◌≡◌, ℕ, Bool, true, false, not, ◌==◌, List, [], ◌∷◌, length}
use Rattle.std.specs.Prelude.{if◌then◌else◌, Some, None}
use Rattle.chk_control.specs.declared.Class.{Class}
use Rattle.chk_chunk.specs.Keys.{Stream}
use Rattle.chk_tail.specs.Walks.{Spot}
use Rattle.chk_rotate.specs.Marks.{place_of, forgotten, kept_to, RiseTo, newest_at}
use Rattle.chk_world.specs.Checkpoints.{Line}
use Rattle.chk_world.specs.Reading.{IsAtOrBehind, IsPlacePast, part_for}
use Rattle.chk_agent_adaptor.specs.declared.adaptor.Phase.{Phase}
use Rattle.chk_agent_adaptor.specs.declared.adaptor.Phase.TheVariants.{Live, Stopping, Shrank, Past}
use Rattle.chk_agent_adaptor.specs.declared.adaptor.Before.{Before}

-- The words of a stream and its start, what its adaptor does, the places behind the generations
-- that were passed and may still be needed, the oldest first, the first of them that of the
-- generation in which its committed end lies, and the place read.
pub record Adaptor : Type 0 where
  pub name : List ℕ
  pub class : Class
  pub kind : List ℕ
  pub path : List ℕ
  pub start : ℕ
  pub phase : Phase
  pub marks : List Spot
  pub read : Spot

-- its log is read on: it is live, or is to end and hasn't come to its end since
abbrev pub is_stepped : Phase → Bool
is_stepped Live = true
is_stepped (Stopping None) = true
is_stepped (Stopping (Some end)) = false
is_stepped Shrank = false
is_stepped Past = false

abbrev pub is_past : Phase → Bool
is_past Past = true
is_past phase = false

-- the stream of an agent's adaptor
abbrev pub stream_at : List ℕ → Adaptor → Stream
stream_at source a = record { source = source; kind = a.kind; name = a.path }

-- the adaptor of a line
abbrev pub adaptor_of : Line → Adaptor
adaptor_of l = record {
  name = l.name;
  class = l.class;
  kind = l.kind;
  path = l.path;
  start = l.start;
  phase = (if l.live then Live else Past);
  marks = (record { after = l.after; first = l.first; offset = l.first }) ∷ [];
  read = record { after = l.after; first = l.first; offset = l.offset };
}

-- the line of an adaptor whose stream is committed up to this offset
abbrev pub line_at : ℕ → Adaptor → Line
line_at o a = record {
  live = not (is_past a.phase);
  name = a.name;
  class = a.class;
  kind = a.kind;
  path = a.path;
  offset = o;
  first = (place_of a.marks o).first;
  after = (place_of a.marks o).after;
  start = a.start;
}

-- its reader's place, as one of a line
abbrev pub read_line : Adaptor → Line
read_line a = record (line_at a.read.offset a) { first = a.read.first; after = a.read.after }

-- the reader is at or past its line in the checkpoint
pub record IsPastLine (saved read : Line) : Type 0 where
  pub class : saved.class ≡ read.class
  pub start : saved.start ≡ read.start
  pub behind : IsAtOrBehind saved.after read.after
  pub past : IsPlacePast (part_for read.class read.after) read saved

-- its marks rise to the place read, which lies in the generation of the last one
pub record IsPlaced (a : Adaptor) : Type 0 where
  pub rises : RiseTo a.marks a.read.offset
  pub newest : newest_at a.marks a.read.offset ≡ a.read

-- where it stands
abbrev pub before_of : Adaptor → Before
before_of a = record { marks = length a.marks; offset = a.read.offset; phase = a.phase }

-- ---- what calls make of it

-- one that had come to its end has not, after it went back
abbrev pub phase_back : Phase → Phase
phase_back (Stopping end) = Stopping None
phase_back phase = phase

-- it goes back to an offset
abbrev pub sent_back : ℕ → Adaptor → Adaptor
sent_back o a =
    record a { marks = kept_to o a.marks; read = place_of a.marks o; phase = phase_back a.phase }

-- one that had come to this end is past
abbrev pub phase_at : ℕ → Phase → Phase
phase_at o (Stopping (Some end)) = if end == o then Past else Stopping (Some end)
phase_at o phase = phase

-- what lies below an offset is forgotten
abbrev pub settled_one : ℕ → Adaptor → Adaptor
settled_one o a = record a { phase = phase_at o a.phase; marks = forgotten o a.marks }

abbrev pub phase_to_end : Phase → Phase
phase_to_end Live = Stopping None
phase_to_end phase = phase

abbrev pub shut_down : Adaptor → Adaptor
shut_down a = record a { phase = phase_to_end a.phase }

abbrev pub stopped : ℕ → Adaptor → Adaptor
stopped o a = record (sent_back o a) { phase = Past }

abbrev pub revived : List ℕ → Adaptor → Adaptor
revived name a = record a { name = name; phase = Live }
