-- What the told history holds of a state.
use Rattle.std.specs.Prelude.{◌≡◌, ℕ, false, true, List, Contains, Some, slice_get, Result, Ok}
use Rattle.chk_site.specs.History.{History, is_stopped}
use Rattle.chk_world.specs.Streams.{whole_end}
use Rattle.chk_world.specs.Places.{AtTold}
use Rattle.chk_world.specs.Knowing.{Knows}
use Rattle.chk_agent_adaptor.specs.Adaptors.{Adaptor, stream_at}
use Rattle.chk_agent_adaptor.specs.Facts.{ReaderStands}
use Rattle.chk_agent_delivery.specs.Facts.{Holds as HoldsDelivery}
use Rattle.chk_agent.specs.declared.answers.AgentFault.{AgentFault}
use Rattle.chk_agent.specs.declared.answers.Stepped.{Stepped}
use Rattle.chk_agent.specs.declared.answers.Stepped.TheVariants.{AtEnd, Shrank}
use Rattle.chk_agent.specs.States.{State, process, basis_of}

pub record Holds (s : State) (history : History) : Type 0 where
  pub readers : (a : Adaptor) → Contains s.adaptors a → ReaderStands s.source a history
  pub delivery : HoldsDelivery (basis_of s) s.delivery history

-- The told history is legal. Where the site wasn't stopped and the agent is ready, the checkpoint has the saved lines, all
-- that was sent since the start is of the cluster, and the history holds the state.
abbrev pub Matches : List (List ℕ) → State → History → Type 0
Matches stamped s history =
    AtTold stamped (process s) (λ h. s.ready ≡ true → Knows s.source s.cluster s.saved (Holds s) h) history

-- the place read of an adaptor is the end of the whole log
abbrev pub IsAtWholeEnd : State → ℕ → History → Type 0
IsAtWholeEnd s i history =
    (a : Adaptor) → slice_get s.adaptors i ≡ Some a → whole_end history (stream_at s.source a) ≡ a.read.offset

-- after a step at which an adaptor came to the end of its log; no log is ever shorter than the place
abbrev pub AtEndOf : ℕ → State → Result Stepped AgentFault → History → Type 0
AtEndOf i s (Ok AtEnd) history = is_stopped history ≡ false → IsAtWholeEnd s i history
AtEndOf i s (Ok (Shrank had is)) history = is_stopped history ≡ false → ⊥
AtEndOf i s result history = Unit {0}

pub record AfterStep (stamped : List (List ℕ)) (i : ℕ) (s : State) (result : Result Stepped AgentFault) (history : History) : Type 0 where
  pub matches : Matches stamped s history
  pub whole : AtEndOf i s result history
