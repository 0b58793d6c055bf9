-- Where a line of a checkpoint stands, and what a reader that goes on from there is shown.
use Rattle.std.specs.Prelude.{◌≡◌, ◌⊎◌, ℕ, false, ◌&&◌, not, IsTrue, List, [], ◌∷◌, if◌then◌else◌, Option, Some, None}
use Rattle.chk_control.specs.Classes.{is_plain}
use Rattle.chk_site.specs.Suffixes.{is_after}
use Rattle.chk_site.specs.Logs.{Generation, Shown}
use Rattle.chk_site.specs.History.{Step, History, files_after, logs_after}
use Rattle.chk_chunk.specs.Keys.{Stream}
use Rattle.chk_world.specs.Names.{is_source}
use Rattle.chk_world.specs.Checkpoints.{Line, line_of}
use Rattle.chk_world.specs.Streams.{Founding, founding, start_of, parts_of, is_stream_cut, IsTruePlace}
use Rattle.chk_world.specs.Agents.{has_generation}
use Rattle.chk_world.specs.Rules.{Legal}

-- none, or the suffix of one of these generations
abbrev pub IsSuffixOf : Option (List ℕ) → List Generation → Type 0
IsSuffixOf None gs = Unit {0}
IsSuffixOf (Some suffix) gs = IsTrue (has_generation suffix gs)

-- a generation as a reader sees it
abbrev pub shown_as : Generation → Shown
shown_as g = record { suffix = Some g.suffix; bytes = g.bytes }

-- the generations past a suffix
abbrev pub past : Option (List ℕ) → List Generation → List Shown
past after [] = []
past after (g ∷ gs) = if is_after after g.suffix then shown_as g ∷ past after gs else past after gs

-- the generations past a suffix that aren't deleted
abbrev pub open_past : Option (List ℕ) → List Generation → List Shown
open_past after [] = []
open_past after (g ∷ gs) =
    if not g.deleted && is_after after g.suffix then shown_as g ∷ open_past after gs else open_past after gs

-- past this suffix all generations of the stream's log are there, and no others
abbrev pub ShowsLog : History → Stream → Option (List ℕ) → Type 0
ShowsLog history s after = open_past after (logs_after history s.name).rotated ≡ past after (parts_of history s).rotated

-- the stream has begun, the place is a true one at which a reader may stop, and its suffix is one
-- of the path's
pub record Stands (history : History) (s : Stream) (l : Line) : Type 0 where
  pub first : Founding
  pub founded : founding history s ≡ Some first
  pub place : IsTruePlace history s l
  pub cut : (l.offset ≡ start_of history s) ⊎ IsTrue (is_stream_cut history s l.offset)
  pub suffix : IsSuffixOf l.after (logs_after history s.name).rotated

-- a place that stands does so after every further legal step
abbrev pub PlacesStand : Type 0
PlacesStand =
    (stamped : List (List ℕ)) (history : History) (step : Step) → Legal stamped (step ∷ history) → (s : Stream)
    → IsTrue (is_source s.source) → (l : Line) → Stands history s l → Stands (step ∷ history) s l

-- each line of a checkpoint stands, and who reads on from there is shown the stream's log
pub record LineStands (history : History) (s : Stream) (l : Line) : Type 0 where
  pub stands : Stands history s l
  pub shows : is_plain l.class ≡ false → ShowsLog history s l.after

abbrev pub LinesStand : Type 0
LinesStand =
    (stamped : List (List ℕ)) (history : History) → Legal stamped history → (s : Stream) → IsTrue (is_source s.source)
    → (l : Line) → line_of (files_after history) s ≡ Some l → LineStands history s l
