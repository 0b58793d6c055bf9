-- A line that is printed.
use Rattle.std.specs.Prelude.{◌≡◌, ℕ, List, [], ◌∷◌, Option, Result}
use Rattle.chk_site.specs.declared.acts.OutsideFault.{OutsideFault}
use Rattle.chk_site.specs.History.{History}
use Rattle.chk_world.specs.Sight.{job}
use Rattle.chk_cmd_output.specs.Printing.{PrintsInTurn}
use Rattle.chk_ctl_run.specs.declared.outcome.Outcome.{Outcome}
use Rattle.chk_ctl_run.specs.Outcomes.{told_as}

-- the line is printed, up to a refusal
pub record Tells (line : List ℕ) (outcome : Outcome) (before after : Option History) : Type 0 where
  pub given : Result (Unit {0}) OutsideFault
  pub printed : PrintsInTurn job (line ∷ []) given before after
  pub is : outcome ≡ told_as given
