-- What `check` shows.
use Rattle.std.specs.Prelude.{◌≡◌, ℕ, ◌≤◌, Option, Result, Ok, Err}
use Rattle.chk_site.specs.declared.acts.OutsideFault.{OutsideFault}
use Rattle.chk_site.specs.History.{History}
use Rattle.chk_site.specs.Site.{Rose}
use Rattle.chk_ctl_check.specs.declared.checking.Checked.{Checked}
use Rattle.chk_ctl_check.specs.declared.checking.Checked.TheVariants as check
use Rattle.chk_ctl_check.specs.Checking.{FileChecked}
use Rattle.chk_ctl_line.specs.Commands.{CheckAsked}
use Rattle.chk_ctl_run.specs.declared.outcome.Outcome.{Outcome}
use Rattle.chk_ctl_run.specs.declared.outcome.Outcome.TheVariants.{Done, Found, NoFile, Outside}
use Rattle.chk_ctl_run.specs.Outcomes.{told_as}

-- the outcome of a check
abbrev pub checked_as : Result Checked OutsideFault → Outcome
checked_as (Ok check.NoFile) = NoFile
checked_as (Ok check.Fine) = Done
checked_as (Ok check.Found) = Found
checked_as (Err fault) = told_as (Err fault)

-- the file and the collectors are checked
pub record ShowsChecked (w : CheckAsked) (outcome : Outcome) (before after : Option History) : Type
    0 where
  pub given : Result Checked OutsideFault
  pub checked : FileChecked w.file w.collectors given before after
  pub is : outcome ≡ checked_as given

-- calls on logs and collectors that fail are found, and may raise the count
abbrev pub CheckedCause : ℕ → ℕ → Outcome → Type 0
CheckedCause before now (Outside call) = Rose before now × (before ≤ now)
CheckedCause before now outcome = before ≤ now
