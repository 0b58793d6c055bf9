-- How a run ends: well, or otherwise, with a status and a line.
use Rattle.std.specs.Prelude.{◌≡◌, ◌⊎◌, ℕ, true, false, List, [], ◌∷◌, ◌++◌}
use Rattle.chk_site.specs.declared.acts.Act.{Act}
use Rattle.chk_site.specs.declared.acts.Call.TheVariants.{Say}
use Rattle.chk_site.specs.History.{History, is_stopped}
use Rattle.chk_site.specs.Runs.{own_acts}
use Rattle.chk_cmd_line.specs.declared.endings.Ending.{Ending}
use Rattle.chk_cmd_line.specs.Endings.{ending_status, ending_line}
use Rattle.chk_cmd_load.specs.Processes.{chukwa}

-- the act says this line as the writer, also where that fails
pub record IsSaying (line : List ℕ) (act : Act) : Type 0 where
  pub who : act.who ≡ chukwa
  pub call : act.call ≡ Say
  pub words : act.words ≡ line ∷ []

-- no act, or the one that says this line
abbrev pub SaysAtMost : List ℕ → List Act → Type 0
SaysAtMost line acts = (acts ≡ []) ⊎ ((act : Act) × IsSaying line act × (acts ≡ act ∷ []))

-- The run's steps up to its end, at which the site wasn't stopped, show this, and behind them it
-- says at most the line of its ending.
pub record EndedBy (Shows : History → Type 0) (line : List ℕ) (added earlier : History) : Type 0 where
  pub tail : History
  pub body : History
  pub is : added ≡ tail ++ body
  pub running : is_stopped (body ++ earlier) ≡ false
  pub shows : Shows body
  pub said : SaysAtMost line (own_acts tail)

-- By its status a run has done this; or it ended otherwise, which shows that; or the site was
-- stopped, and then it is never answered that all was done.
pub data Ended (Done : History → Type 0) (Shows : Ending → History → Type 0) (added earlier : History) : ℕ → Type 0 where
  done : is_stopped (added ++ earlier) ≡ false → Done added → Ended Done Shows added earlier 0
  ended : (e : Ending) → EndedBy (Shows e) (ending_line e) added earlier → Ended Done Shows added earlier (ending_status e)
  stopped : (e : Ending) → is_stopped (added ++ earlier) ≡ true → Ended Done Shows added earlier (ending_status e)
