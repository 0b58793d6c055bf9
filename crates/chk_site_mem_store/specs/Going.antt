-- How the history goes on.
use Rattle.std.specs.Prelude.{◌≡◌, true, ◌∷◌, ◌++◌}
use Rattle.chk_site.specs.declared.acts.Act.{Act}
use Rattle.chk_site.specs.Files.{Files}
use Rattle.chk_site.specs.Logs.{Logs}
use Rattle.chk_site.specs.History.{History, Every, IsTheirs, Modelled}

-- the history went on by steps of others
pub record TheirsSince (before now : History) : Type 0 where
  pub added : History
  pub goes_on : now ≡ added ++ before
  pub theirs : Every IsTheirs added before

-- the history went on by this own act, which the file model allows
pub record GoesOn (act : Act) (before now : History) : Type 0 where
  pub files : Files
  pub logs : Logs
  pub goes_on : now ≡ record { own = true; act = act; files = files; logs = logs } ∷ before
  pub modelled : Modelled before (record { own = true; act = act; files = files; logs = logs })
