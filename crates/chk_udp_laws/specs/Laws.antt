-- What holds of what a writer took, in every history in which its steps are runs.
use Rattle.std.specs.Prelude.{◌≡◌, ℕ, ◌<◌, ◌≤◌, List, [], ◌∷◌, ◌++◌, Option, Some, None}
use Rattle.chk_bytes.specs.Words.{BeginsWith}
use Rattle.chk_site.specs.History.{Step, History, Others, files_after}
use Rattle.chk_wahead.specs.Names.{writer, buffer_name, closed_name}
use Rattle.chk_wahead.specs.States.{State, Held, last_number}
use Rattle.chk_udp_laws.specs.Marked.{marked, took, tally, joined, IsPart}
use Rattle.chk_udp_laws.specs.Uses.{IsRun, AreRuns}
use Rattle.chk_udp_laws.specs.Histories.{IsApart}

-- no buffer was closed under a greater number
abbrev pub NoneAbove : List ℕ → ℕ → History → Type 0
NoneAbove n last history =
    (last ≤ last_number) × ((k : ℕ) → last < k → k ≤ last_number → files_after history
    (closed_name n k) ≡ None)

-- what the files hold is just what is saved, one payload behind the other; and that is some of what
-- was taken, in its order, each
-- taking once
pub record IsKept (n : List ℕ) (history : History) : Type 0 where
  pub all : (last : ℕ) → NoneAbove n last history
      → marked (files_after history) n last ≡ joined (tally n history).saved
  pub part : IsPart (tally n history).saved (took n history)

-- at the end of such a history and at each front of it
abbrev pub IsKeptAlways : List ℕ → History → Type 0
IsKeptAlways n [] = IsKept n []
IsKeptAlways n (step ∷ history) = IsKeptAlways n history × IsKept n (step ∷ history)

abbrev pub SavedIsMarked : Type 0
SavedIsMarked = (n : List ℕ) (history : History) → AreRuns n history → IsKeptAlways n history

-- what is saved only grows at its end
abbrev pub SavedGrows : Type 0
SavedGrows =
    (n : List ℕ) (history : History) (step : Step)
    → (more : List (List ℕ)) × ((tally n (step ∷ history)).saved ≡ (tally n history).saved ++ more)

-- what the files hold is at the front of what they hold later
abbrev pub MarkedGrows : Type 0
MarkedGrows =
    (n : List ℕ) (added history : History) (early late : ℕ) → AreRuns n (added ++ history)
    → NoneAbove n early history
    → NoneAbove n late (added ++ history)
    → BeginsWith (marked (files_after (added ++ history)) n late)
    (marked (files_after history) n early)

-- there is no buffer, or its mark says all of it, as behind a commit that was done
abbrev pub IsMarked : Option Held → Type 0
IsMarked None = Unit {0}
IsMarked (Some held) = held.marked ≡ held.length_now

-- nothing that was put since the start waits to be saved; and where the state has no buffer, none
-- is there
pub record IsAllSaved (n : List ℕ) (s : State) (history : History) : Type 0 where
  pub saved : joined (tally n history).unsaved ≡ []
  pub closed : s.held ≡ None → files_after history (buffer_name n) ≡ None

-- behind a run that came to such buffers, at its end or on its way
abbrev pub MarkedSavesAll : Type 0
MarkedSavesAll =
    (n : List ℕ) (added history : History) (s : State) → AreRuns n history
    → IsRun (writer n) (Some s) (Some history) (Some (added ++ history))
    → Others (IsApart n) added history → IsMarked s.held → IsAllSaved n s (added ++ history)
