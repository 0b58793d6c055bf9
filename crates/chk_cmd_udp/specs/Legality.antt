-- What is supposed of the steps of others, and what is promised of the run's.
use Rattle.std.specs.Prelude.{◌≡◌, ◌⊎◌, ℕ, false, List, Option}
use Rattle.chk_site.specs.declared.acts.Who.{Who}
use Rattle.chk_site.specs.History.{Step, History, is_stopped}
use Rattle.chk_site.specs.Site.{Adds}
use Rattle.chk_site.specs.Runs.{Side, Leads}
use Rattle.chk_world.specs.Rules.{Obeys, Legal}

-- the step is by one of the two processes, and was made while the site wasn't stopped
pub record IsByEither (who writer : Who) (before : History) (step : Step) : Type 0 where
  pub by : (step.act.who ≡ who) ⊎ (step.act.who ≡ writer)
  pub running : is_stopped before ≡ false

-- each step of others obeys its rule; each own step is by one of the two
abbrev pub BesideBoth : List (List ℕ) → Who → Who → Side
BesideBoth stamped who writer = record { others = Obeys stamped; own = IsByEither who writer }

-- from a legal history on the told history stays legal, after each step and however the run ends
abbrev pub GoesOnLegal : Who → Who → Option History → Option History → Type 0
GoesOnLegal who writer old new =
    (stamped : List (List ℕ)) → Adds old new (Leads (BesideBoth stamped who writer) (Legal stamped)
    (Legal stamped))
