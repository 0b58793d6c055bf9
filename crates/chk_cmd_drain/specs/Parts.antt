-- What the beginning of a drain and what follows it leave, each for itself.
use Rattle.std.specs.Prelude.{◌≡◌, ◌⊎◌, ℕ, true, false, List, [], ◌∷◌, ◌++◌, map, slice_get, Contains, Option, Some, Result, Ok, Err}
use Rattle.chk_bytes.specs.Words.{parts_at}
use Rattle.chk_control.specs.declared.commands.Command.TheVariants.{Blank}
use Rattle.chk_control.specs.Lines.{meaning_of}
use Rattle.chk_site.specs.declared.acts.Who.{Who}
use Rattle.chk_site.specs.History.{History, Others, is_stopped}
use Rattle.chk_site.specs.Runs.{HasStarted, own_acts}
use Rattle.chk_world.specs.Checkpoints.{Line}
use Rattle.chk_world.specs.Places.{Foreign}
use Rattle.chk_world.specs.Rules.{Legal}
use Rattle.chk_world.specs.Together.{Outside}
use Rattle.chk_agent_adaptor.specs.declared.adaptor.Phase.TheVariants.{Live}
use Rattle.chk_agent_adaptor.specs.Adaptors.{Adaptor, is_past, is_stepped}
use Rattle.chk_agent.specs.Commands.{live_from}
use Rattle.chk_agent.specs.Facts.{Matches}
use Rattle.chk_agent.specs.States.{State, committed_at, process}
use Rattle.chk_agent_run.specs.declared.faults.RunFault.{RunFault}
use Rattle.chk_agent_run.specs.Initial.{AddsStream, ReadsInitial}
use Rattle.chk_agent_drain.specs.Whole.{WasWhole}
use Rattle.chk_cmd_output.specs.Printing.{by, printed}
use Rattle.chk_cmd_drain.specs.declared.begin.Begun.{Begun}
use Rattle.chk_cmd_drain.specs.declared.faults.DrainFault.{DrainFault}
use Rattle.chk_cmd_drain.specs.declared.faults.DrainFault.TheVariants.{Shrank}
use Rattle.chk_cmd_drain.specs.Done.{HasLiveLine, IsAskedFor, lines_then}
use Rattle.chk_cmd_drain.specs.Streams.{told_line}

-- ---- adaptors

-- it isn't past, and reads the stream of this type and path
pub record Reads (kind path : List ℕ) (a : Adaptor) : Type 0 where
  pub lives : is_past a.phase ≡ false
  pub kind_is : a.kind ≡ kind
  pub path_is : a.path ≡ path

-- one of these adaptors reads it
abbrev pub IsRead : List ℕ → List ℕ → List Adaptor → Type 0
IsRead kind path adaptors =
    (i : ℕ) × (a : Adaptor) × (slice_get adaptors i ≡ Some a) × Reads kind path a

-- each of them that isn't past is live
abbrev pub AreSteady : List Adaptor → Type 0
AreSteady adaptors =
    (i : ℕ) (a : Adaptor) → slice_get adaptors i ≡ Some a → is_past a.phase ≡ false
    → a.phase ≡ Live

-- the stream of each live line that is saved is read
abbrev pub SavedAreRead : State → Type 0
SavedAreRead s = (l : Line) → Contains s.saved l → l.live ≡ true → IsRead l.kind l.path s.adaptors

-- ---- the beginning

-- The initial file was read, then the agent was started, and then the streams of the file were
-- added, and nothing was printed. `lines` were those of the checkpoint behind the start.
pub record BegunTo (stamped : List (List ℕ)) (who writer : Who) (initial : Option (List ℕ))
    (s : State) (added history : History) : Type 0 where
  pub reads : History
  pub start : History
  pub later : History
  pub split : added ≡ later ++ (start ++ reads)
  pub text : List ℕ
  pub file : ReadsInitial writer initial (Ok text) (Some history) (Some (reads ++ history))
  pub started : HasStarted who start (reads ++ history)
  pub silent : printed (own_acts later) ≡ []
  pub lines : List Line
  pub lines_are : Others (Outside stamped (who ∷ [])) added history → Legal stamped history
      → is_stopped (added ++ history) ≡ false
      → lines_then who.name (start ++ (reads ++ history)) ≡ lines
  pub steady : AreSteady s.adaptors
  pub saved : SavedAreRead s
  pub met : (line : List ℕ) → Contains (parts_at 10 text) line
      → (meaning_of line ≡ Ok Blank)
      ⊎ ((kind path : List ℕ) × AddsStream kind path (meaning_of line)
      × IsRead kind path s.adaptors)
  pub kept : (kind path : List ℕ) → HasLiveLine kind path lines → IsRead kind path s.adaptors
  pub only : (kind path : List ℕ) → IsRead kind path s.adaptors
      → HasLiveLine kind path lines ⊎ IsAskedFor text kind path

abbrev pub BeginsSo : List (List ℕ) → Who → Who → Option (List ℕ) → Result Begun RunFault → History
    → History → Type 0
BeginsSo stamped who writer initial (Ok b) added history =
    BegunTo stamped who writer initial b.agent added history
BeginsSo stamped who writer initial (Err fault) added history = Unit {0}

-- ---- what follows

-- The agent was drained, and just the lines of the streams that were live were printed. The
-- committed end of each adaptor that was read was the end of its whole log at a moment of it.
pub record FinishedTo (stamped : List (List ℕ)) (who : Who) (s t : State) (added history : History)
    : Type 0 where
  pub printed_is : printed (own_acts added)
      ≡ map (by who) (map (told_line t) (live_from 0 s.adaptors))
  pub ready : t.ready ≡ true
  pub whole : Others (Foreign stamped (process s)) added history → Matches stamped s history
      → is_stopped (added ++ history) ≡ false → (i : ℕ) (a : Adaptor)
      → slice_get s.adaptors i ≡ Some a
      → is_stepped a.phase ≡ true → WasWhole s a (committed_at t i) added history

abbrev pub FinishesSo : List (List ℕ) → Who → State → Result Unit DrainFault → State → History
    → History → Type 0
FinishesSo stamped who s (Ok value) t added history = FinishedTo stamped who s t added history
FinishesSo stamped who s (Err (Shrank path had is)) t added history =
    Others (Foreign stamped (process s)) added history → Matches stamped s history
    → is_stopped (added ++ history) ≡ false → ⊥
FinishesSo stamped who s (Err fault) t added history = Unit {0}
