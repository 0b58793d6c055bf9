-- What the lines in memory stand for.
use Rattle.std.specs.Prelude.{ℕ, Bool, List, [], ◌∷◌, ◌++◌, map, codes, if◌then◌else◌}
use Rattle.chk_world.specs.Checkpoints.{Line, Version as Text, One, Two, version_text, checkpoint_text, written_version}
use Rattle.chk_checkpoint.specs.declared.CheckLine.{CheckLine}
use Rattle.chk_checkpoint.specs.declared.Checkpoint.{Checkpoint}
use Rattle.chk_checkpoint.specs.declared.version.Version.{Version}
use Rattle.chk_checkpoint.specs.declared.version.Version.TheVariants.{One as first_version, Two as second_version}

-- a line of the text
abbrev pub shown : CheckLine → Line
shown l = record {
  live = l.live;
  name = l.name;
  class = l.class;
  kind = l.kind;
  path = l.path;
  offset = l.place.offset;
  first = l.place.first;
  after = l.place.after;
  start = l.start;
}

-- all of them
abbrev pub lines_of : Checkpoint → List Line
lines_of c = map shown c.lines.items

-- the text that is written of some lines
abbrev pub written_text : List Line → List ℕ
written_text lines = checkpoint_text (written_version lines) lines

-- a version as that of the text
abbrev pub text_version : Version → Text
text_version first_version = One
text_version second_version = Two

-- the first line with its newline
abbrev pub first_line : Text → List ℕ
first_line v = version_text v ++ 10 ∷ []

-- the first word of a line
abbrev pub state_word : Bool → List ℕ
state_word live = if live then codes "add" else codes "past"
