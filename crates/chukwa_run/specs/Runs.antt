-- What a run leads to.
use Rattle.std.specs.Prelude.{◌≡◌, ◌⊎◌, ℕ, true, false, List, ◌++◌, Result, Ok, Err}
use Rattle.chk_site.specs.History.{History, is_stopped}
use Rattle.chk_site.specs.Runs.{Since, own_acts}
use Rattle.chk_world.specs.Rules.{Legal}
use Rattle.chk_cmd_line.specs.Commands.{Asked}
use Rattle.chk_cmd_line.specs.declared.endings.Ending.{Ending}
use Rattle.chk_cmd_line.specs.declared.endings.Ending.TheVariants.{NoMemory}
use Rattle.chk_cmd_line.specs.Endings.{ending_line}
use Rattle.chukwa_run.specs.Endings.{Ended, SaysAtMost}
use Rattle.chukwa_run.specs.Showing.{Shows, IsOf}
use Rattle.chukwa_run.specs.Whole.{Whole, Did}

-- a legal history before the run
pub record Begins (stamped : List (List ℕ)) (earlier history : History) : Type 0 where
  pub is : history ≡ earlier
  pub legal : Legal stamped history

-- a legal history after it, which goes on from that one, and in which the run ended so
pub record Ends (stamped : List (List ℕ)) (command : Asked) (status : ℕ) (earlier history : History) : Type 0 where
  pub legal : Legal stamped history
  pub since : Since earlier
      (λ added. Ended (Whole stamped command earlier) (Shows command earlier) added earlier status) history

-- what a run did by its own acts, whatever others do and whatever the site tells
abbrev pub Caused : Asked → ℕ → History → History → Type 0
Caused command status added earlier = Ended (Did command earlier) (IsOf command earlier) added earlier status

-- without words that ask for a command at most the usage line is said, or there was no memory to read them
abbrev pub SaysUsage : List ℕ → ℕ → History → History → Type 0
SaysUsage line status added earlier =
    ((status ≡ 2) × SaysAtMost line (own_acts added)) ⊎ ((status ≡ 4) × SaysAtMost (ending_line NoMemory) (own_acts added))

-- ---- the same before the last line is said

-- it isn't answered that all was done
abbrev pub IsNotDone : Result Unit Ending → Type 0
IsNotDone (Ok value) = ⊥
IsNotDone (Err e) = Unit {0}

-- by the result this was done, or that is shown
abbrev pub Came : (History → Type 0) → (Ending → History → Type 0) → Result Unit Ending → History → Type 0
Came Done Shows (Ok value) added = Done added
Came Done Shows (Err e) added = Shows e added

-- where the site wasn't stopped, that is so; and where it was, it isn't answered that all was done
pub record CameTo (Done : History → Type 0) (Shows : Ending → History → Type 0) (result : Result Unit Ending)
    (added earlier : History) : Type 0 where
  pub running : is_stopped (added ++ earlier) ≡ false → Came Done Shows result added
  pub stopped : is_stopped (added ++ earlier) ≡ true → IsNotDone result

-- a legal history after the command
pub record EndsWith (stamped : List (List ℕ)) (command : Asked) (result : Result Unit Ending) (earlier history : History) : Type 0 where
  pub legal : Legal stamped history
  pub since : Since earlier
      (λ added. CameTo (Whole stamped command earlier) (Shows command earlier) result added earlier) history

-- what a command did by its own acts
abbrev pub CausedBy : Asked → Result Unit Ending → History → History → Type 0
CausedBy command result added earlier = CameTo (Did command earlier) (IsOf command earlier) result added earlier
