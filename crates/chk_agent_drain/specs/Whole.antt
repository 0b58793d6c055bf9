-- The ends of whole logs that a drain has read to.
use Rattle.std.specs.Prelude.{◌≡◌, ℕ, ◌<◌, true, false, List, ◌++◌, slice_get, Option, Some, None, Result, Ok}
use Rattle.chk_site.specs.History.{History, Others, is_stopped}
use Rattle.chk_site.specs.Runs.{Leads}
use Rattle.chk_world.specs.Streams.{whole_end}
use Rattle.chk_world.specs.Places.{Talking, Foreign}
use Rattle.chk_agent_adaptor.specs.Adaptors.{Adaptor, is_stepped, stream_at}
use Rattle.chk_agent.specs.declared.answers.AgentFault.{AgentFault}
use Rattle.chk_agent.specs.States.{State, process, committed_at}
use Rattle.chk_agent.specs.Facts.{Matches, IsAtWholeEnd}
use Rattle.chk_agent_drain.specs.declared.answers.Drained.{Drained}
use Rattle.chk_agent_drain.specs.declared.answers.Drained.TheVariants.{Done, Shrank}

-- P holds at one of the moments between an earlier history and the later one that these steps make
-- of it
pub record Meanwhile (P : History → Type 0) (added history : History) : Type 0 where
  pub later : History
  pub earlier : History
  pub split : added ≡ later ++ earlier
  pub holds : P (earlier ++ history)

-- at one of these moments the whole log of the adaptor ended at this offset
abbrev pub WasWhole : State → Adaptor → ℕ → History → History → Type 0
WasWhole s a end = Meanwhile (λ h. whole_end h (stream_at s.source a) ≡ end)

-- after the reads of an adaptor: where they came to an end, it is that of the whole log
pub record AfterReads (stamped : List (List ℕ)) (i : ℕ) (s : State)
    (end : Option (Result Drained AgentFault))
    (history : History) : Type 0 where
  pub matches : Matches stamped s history
  pub whole : end ≡ None → is_stopped history ≡ false → IsAtWholeEnd s i history

-- The adaptors below this number that were read on are read to the ends of their whole logs.
pub record ReadsTo (stamped : List (List ℕ)) (n : ℕ) (s t : State) (added history : History) : Type
    0 where
  pub leads : Leads (Talking stamped (process s)) (Matches stamped s) (Matches stamped t) added
      history
  pub whole : Others (Foreign stamped (process s)) added history → Matches stamped s history
      → is_stopped (added ++ history) ≡ false → (i : ℕ) (a b : Adaptor) → i < n
      → slice_get s.adaptors i ≡ Some a
      → is_stepped a.phase ≡ true → slice_get t.adaptors i ≡ Some b
      → WasWhole s a b.read.offset added history

-- after the reads of all adaptors: each that was read on is read to the end of its whole log
pub record EndsReading (stamped : List (List ℕ)) (s : State)
    (end : Option (Result Drained AgentFault)) (t : State)
    (added history : History) : Type 0 where
  pub leads : Leads (Talking stamped (process s)) (Matches stamped s) (Matches stamped t) added
      history
  pub whole : end ≡ None → Others (Foreign stamped (process s)) added history
      → Matches stamped s history
      → is_stopped (added ++ history) ≡ false → (i : ℕ) (a b : Adaptor)
      → slice_get s.adaptors i ≡ Some a
      → is_stepped a.phase ≡ true → slice_get t.adaptors i ≡ Some b
      → WasWhole s a b.read.offset added history

-- the drain ended at a log that is shorter than what was read of it
abbrev pub IsShort : Result Drained AgentFault → Type 0
IsShort (Ok (Shrank i had is)) = Unit {0}
IsShort result = ⊥

-- From a legal history each step obeys the agent's rules, and the history holds the later state.
-- Where the drain is done,
-- the committed end of each adaptor that was read is the end of its whole log at a moment of this
-- drain. It doesn't end at a log that is shorter than what was read of it, but where the site was
-- stopped.
pub record DrainsTo (stamped : List (List ℕ)) (s : State) (result : Result Drained AgentFault)
    (t : State)
    (added history : History) : Type 0 where
  pub leads : Leads (Talking stamped (process s)) (Matches stamped s) (Matches stamped t) added
      history
  pub whole : result ≡ Ok Done → Others (Foreign stamped (process s)) added history
      → Matches stamped s history
      → is_stopped (added ++ history) ≡ false → (i : ℕ) (a : Adaptor)
      → slice_get s.adaptors i ≡ Some a
      → is_stepped a.phase ≡ true → WasWhole s a (committed_at t i) added history
  pub long : IsShort result → Others (Foreign stamped (process s)) added history
      → Matches stamped s history → is_stopped (added ++ history) ≡ false → ⊥
