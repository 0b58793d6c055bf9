-- Several processes that act by calls on one site: what is supposed of others than these, and what
-- each of them leaves of what another knows.
use Rattle.std.specs.Prelude.{◌≡◌, ℕ, Bool, false, IsFalse, List, Contains, bytes_eq}
use Rattle.chk_site.specs.declared.acts.Who.{Who}
use Rattle.chk_site.specs.Acts.{Deed, Sends, Takes, deed}
use Rattle.chk_site.specs.History.{Step, History, is_stopped}
use Rattle.chk_site.specs.Messages.{self_address}
use Rattle.chk_site.specs.Runs.{Side}
use Rattle.chk_world.specs.Rules.{Obeys}
use Rattle.chk_world.specs.Places.{Foreign}

-- the call names the mailbox inside the process
abbrev pub names_self : Deed → Bool
names_self (Sends m address bytes) = bytes_eq address self_address
names_self (Takes door wait) = bytes_eq door self_address
names_self call = false

-- What is supposed of a step of others than these processes. It obeys its rule, is by none of them,
-- is no stop that names a file of one of them, and doesn't name the mailbox.
pub record Outside (stamped : List (List ℕ)) (processes : List Who) (history : History) (step : Step) : Type 0 where
  pub obeys : Obeys stamped history step
  pub foreign : (who : Who) → Contains processes who → Foreign stamped who history step
  pub elsewhere : IsFalse (names_self (deed step.act))

-- what is promised of a step of the site's own: it is by one of these, made while the site wasn't
-- stopped
pub record IsByOne (processes : List Who) (before : History) (step : Step) : Type 0 where
  pub one : Contains processes step.act.who
  pub running : is_stopped before ≡ false

-- The side of a run. Of the processes that it started nobody else acts as one, and no stop of
-- others names a file. Its own steps may be by further processes too: by a writer, whose files are
-- those of every writer.
abbrev pub Together : List (List ℕ) → List Who → List Who → Side
Together stamped started acting = record { others = Outside stamped started; own = IsByOne acting }
