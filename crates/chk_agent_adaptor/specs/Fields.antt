-- What the fields stand for.
use Rattle.std.specs.Prelude.{◌≡◌, ◌+◌, ◌<◌, ◌^◌, Bool, true, false, not, IsTrue, List, [], ◌∷◌}
use Rattle.std.specs.Prelude.{Option, None, Result}
use Rattle.chk_control.specs.Classes.{is_plain, breaks_lines}
use Rattle.chk_site.specs.declared.acts.Who.{Who}
use Rattle.chk_site.specs.declared.acts.OutsideFault.{OutsideFault}
use Rattle.chk_site.specs.History.{History}
use Rattle.chk_tail.specs.declared.step.Step.{Step}
use Rattle.chk_tail.specs.Walks.{Spot, Way, Walks}
use Rattle.chk_tail.specs.Tails.{base_spot}
use Rattle.chk_rotate.specs.Readers.{Reader as Rotated, IsRising, stepped}
use Rattle.chk_world.specs.Checkpoints.{is_after_text}
use Rattle.chk_agent_adaptor.specs.declared.reader.Reader.{Reader}
use Rattle.chk_agent_adaptor.specs.declared.reader.Reader.TheVariants.{Base, Over}
use Rattle.chk_agent_adaptor.specs.Adaptors.{Adaptor}
use Rattle.chk_agent_adaptor.specs.declared.adaptor.Adaptor.TheInside.{Inside}

-- A reader, seen as one over generations. That of the base file stands behind none.
abbrev pub seen : Reader → Rotated
seen (Base tail) = record {
  path = tail.path;
  lines = tail.lines;
  marks = (record { after = None; first = tail.start; offset = tail.start }) ∷ [];
  read = base_spot tail.start tail.at;
}
seen (Over rotated) = rotated

abbrev pub is_over : Reader → Bool
is_over (Base tail) = false
is_over (Over rotated) = true

-- how it reads
abbrev pub reads_as : Who → Reader → Way
reads_as who r =
    record { who = who; path = (seen r).path; lines = (seen r).lines; rotated = is_over r }

-- the offset read is a number of the machine
abbrev pub IsWithin : Reader → Type 0
IsWithin (Base tail) = tail.start + tail.at < 2 ^ 64
IsWithin (Over rotated) = Unit {0}

-- each is the first place, or behind a suffix
abbrev pub AreNamed : List Spot → Type 0
AreNamed [] = Unit {0}
AreNamed (m ∷ marks) = IsTrue (is_after_text m.after) × AreNamed marks

-- what holds of every reader
pub record IsSoundReader (r : Reader) : Type 0 where
  pub rising : IsRising (seen r)
  pub named : AreNamed (seen r).marks
  pub within : IsWithin r

-- A step of a reader made its reads in turn, and it has gone on as they say.
pub record Walked (who : Who) (old : Reader) (result : Result Step OutsideFault) (new : Reader)
    (before after : Option History) : Type 0 where
  pub marks : List Spot
  pub next : Spot
  pub walks : Walks (reads_as who old) result next (seen old).read marks before after
  pub is : seen new ≡ stepped marks next result (seen old)

abbrev pub adaptor_view : Inside → Adaptor
adaptor_view a = record {
  name = a.name;
  class = a.class;
  kind = a.kind;
  path = a.path;
  start = a.start;
  phase = a.phase;
  marks = (seen a.reader).marks;
  read = (seen a.reader).read;
}

-- the reader is that of the class, and reads this log
pub record IsSoundInside (a : Inside) : Type 0 where
  pub path : (seen a.reader).path ≡ a.path
  pub lines : (seen a.reader).lines ≡ breaks_lines a.class
  pub over : is_over a.reader ≡ not (is_plain a.class)
  pub reader : IsSoundReader a.reader
