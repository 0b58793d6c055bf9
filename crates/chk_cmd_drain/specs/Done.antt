-- What a drain that was done leaves: the checkpoint, and the lines that were printed.
use Rattle.std.specs.Prelude.{◌≡◌, ◌⊎◌, ℕ, true, false, List, [], ◌∷◌, ◌++◌, map, if◌then◌else◌, Contains, Option, Some, Result, Ok, Err}
use Rattle.chk_bytes.specs.Words.{parts_at}
use Rattle.chk_control.specs.declared.commands.Command.TheVariants.{Blank}
use Rattle.chk_control.specs.Lines.{Meaning, meaning_of}
use Rattle.chk_site.specs.declared.acts.Who.{Who}
use Rattle.chk_site.specs.History.{History, Others, files_after, is_stopped}
use Rattle.chk_site.specs.Runs.{HasStarted, own_acts}
use Rattle.chk_world.specs.Agents.{stream_of}
use Rattle.chk_world.specs.Checkpoints.{Line, checkpoint_lines}
use Rattle.chk_world.specs.Rules.{Legal}
use Rattle.chk_world.specs.Streams.{whole_end}
use Rattle.chk_world.specs.Together.{Outside}
use Rattle.chk_agent_run.specs.Initial.{ReadsInitial, AddsStream}
use Rattle.chk_agent_drain.specs.Whole.{Meanwhile}
use Rattle.chk_cmd_line.specs.Lines.{stream_line}
use Rattle.chk_cmd_output.specs.Printing.{by, printed}
use Rattle.chk_cmd_drain.specs.declared.faults.DrainFault.{DrainFault}
use Rattle.chk_cmd_drain.specs.declared.faults.DrainFault.TheVariants.{Shrank}
pub use Rattle.chk_world.specs.Checkpoints.{HasLiveLine}

-- ---- the lines of a checkpoint

-- the checkpoint of this source
abbrev pub lines_then : List ℕ → History → List Line
lines_then source history = checkpoint_lines (files_after history) source

-- what is printed of a line: nothing, where it is past
abbrev pub line_here : List ℕ → Line → List (List ℕ)
line_here source l = if l.live then stream_line source l.kind l.path l.offset ∷ [] else []

-- and of all lines, in their order
abbrev pub lines_here : List ℕ → List Line → List (List ℕ)
lines_here source [] = []
lines_here source (l ∷ lines) = line_here source l ++ lines_here source lines

-- ---- the lines of an initial file

-- one of the lines of the text adds the stream of this type and path
abbrev pub IsAskedFor : List ℕ → List ℕ → List ℕ → Type 0
IsAskedFor text kind path =
    (line : List ℕ) × Contains (parts_at 10 text) line × AddsStream kind path (meaning_of line)

-- the line is blank, or adds a stream that has a live line
abbrev pub HasItsLine : List Line → Meaning → Type 0
HasItsLine lines meaning =
    (meaning ≡ Ok Blank)
    ⊎ ((kind path : List ℕ) × AddsStream kind path meaning × HasLiveLine kind path lines)

-- ---- the drain

-- In these steps the initial file was read, then the agent was started, and behind the start the
-- streams of the file were added, the logs drained, and the lines printed.
pub record DrainDone (who writer : Who) (initial : Option (List ℕ)) (added history : History)
    : Type 0 where
  pub reads : History
  pub start : History
  pub later : History
  pub split : added ≡ later ++ (start ++ reads)
  pub text : List ℕ
  pub file : ReadsInitial writer initial (Ok text) (Some history) (Some (reads ++ history))
  pub started : HasStarted who start (reads ++ history)
  -- the offset of each live line of the checkpoint was the end of the whole log of its stream at a
  -- moment behind the start
  pub read : (l : Line) → Contains (lines_then who.name (added ++ history)) l → l.live ≡ true
      → Meanwhile (λ h. whole_end h (stream_of who.name l) ≡ l.offset) later
      (start ++ (reads ++ history))
  -- behind the start just the live lines of the checkpoint were printed, in their order
  pub printed_is : printed (own_acts later)
      ≡ map (by who) (lines_here who.name (lines_then who.name (added ++ history)))
  -- each line of the initial file is blank, or its stream has a live line
  pub live : (line : List ℕ) → Contains (parts_at 10 text) line
      → HasItsLine (lines_then who.name (added ++ history)) (meaning_of line)
  -- a stream that had a live line behind the start has one
  pub kept : (kind path : List ℕ)
      → HasLiveLine kind path (lines_then who.name (start ++ (reads ++ history)))
      → HasLiveLine kind path (lines_then who.name (added ++ history))
  -- and no further stream has one: without a live line then, and with no stream to add, nothing is
  -- live, and nothing was printed
  pub only : (kind path : List ℕ) → HasLiveLine kind path (lines_then who.name (added ++ history))
      → HasLiveLine kind path (lines_then who.name (start ++ (reads ++ history)))
      ⊎ IsAskedFor text kind path

-- Where the drain is done, from a legal history on, the steps of others are as is supposed, and the
-- site wasn't stopped. So no log is shorter than what was read of it.
abbrev pub DoneSo : List (List ℕ) → Who → Who → Option (List ℕ) → Result Unit DrainFault → History
    → History → Type 0
DoneSo stamped who writer initial (Ok value) added history =
    Others (Outside stamped (who ∷ [])) added history → Legal stamped history
    → is_stopped (added ++ history) ≡ false → DrainDone who writer initial added history
DoneSo stamped who writer initial (Err (Shrank path had is)) added history =
    Others (Outside stamped (who ∷ [])) added history → Legal stamped history
    → is_stopped (added ++ history) ≡ false → ⊥
DoneSo stamped who writer initial (Err fault) added history = Unit {0}
