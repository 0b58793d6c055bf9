-- What is supposed of the steps of others, and what is promised of the watcher's.
use Rattle.std.specs.Prelude.{◌≡◌, ℕ, false, List, Option}
use Rattle.chk_site.specs.declared.acts.Who.{Who}
use Rattle.chk_site.specs.Acts.{Deed, Takes, TakesMore, Says, deed}
use Rattle.chk_site.specs.History.{Step, History, is_stopped}
use Rattle.chk_site.specs.Site.{Adds}
use Rattle.chk_site.specs.Runs.{Side, Leads}
use Rattle.chk_world.specs.Rules.{Obeys, Legal}

-- a message is taken or read on, or a line is printed
abbrev pub IsWatching : Deed → Type 0
IsWatching (Takes door wait) = Unit {0}
IsWatching (TakesMore number) = Unit {0}
IsWatching (Says text) = Unit {0}
IsWatching call = ⊥

-- the step is by this process, was made while the site wasn't stopped, and touches no file
pub record IsWatchers (who : Who) (before : History) (step : Step) : Type 0 where
  pub by : step.act.who ≡ who
  pub running : is_stopped before ≡ false
  pub does : IsWatching (deed step.act)

-- each step of others obeys its rule; each own step is the watcher's
abbrev pub BesideWatcher : List (List ℕ) → Who → Side
BesideWatcher stamped who = record { others = Obeys stamped; own = IsWatchers who }

-- from a legal history on the told history stays legal, after each step and however the run ends
abbrev pub StaysLegal : Who → Option History → Option History → Type 0
StaysLegal who old new =
    (stamped : List (List ℕ)) → Adds old new (Leads (BesideWatcher stamped who) (Legal stamped) (Legal stamped))
