-- What a command did by its result, before the line of its ending is said.
use Rattle.std.specs.Prelude.{ℕ, List, Option, Result}
use Rattle.chk_site.specs.History.{History}
use Rattle.chk_site.specs.Runs.{Leads}
use Rattle.chk_site.specs.Site.{Adds}
use Rattle.chk_cmd_line.specs.Commands.{Asked}
use Rattle.chk_cmd_line.specs.declared.endings.Ending.{Ending}
use Rattle.chukwa_run.specs.Causes.{EndingCause}
use Rattle.chukwa_run.specs.Demuxing.{SuitsTypes}
use Rattle.chukwa_run.specs.Processes.{RunSide}
use Rattle.chukwa_run.specs.Runs.{Begins, EndsWith, CausedBy}
use Rattle.chukwa_run.specs.Statuses.{HasItsStatus}

-- from a legal history it leads to a legal one, its own acts show how it ended, a call failed only
-- where the count of faults rose, and its status is one of the command's
pub record Works (command : Asked) (result : Result Unit Ending) (old new : Option History) (before now : ℕ)
    : Type 0 where
  pub told : (stamped : List (List ℕ)) (earlier : History) → SuitsTypes stamped command
      → Adds old new
      (Leads (RunSide stamped command) (Begins stamped earlier) (EndsWith stamped command result earlier))
  pub causes : Adds old new (CausedBy command result)
  pub cause : EndingCause before now result
  pub status : HasItsStatus command result
