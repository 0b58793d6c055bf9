-- What is supposed of the steps of others, and what is promised of the writer's.
use Rattle.std.specs.Prelude.{◌≡◌, ℕ, List, Option}
use Rattle.chk_site.specs.declared.acts.Role.TheVariants.{Writer}
use Rattle.chk_site.specs.declared.acts.Who.{Who}
use Rattle.chk_site.specs.History.{History}
use Rattle.chk_site.specs.Site.{Adds}
use Rattle.chk_site.specs.Runs.{Side, Leads}
use Rattle.chk_world.specs.Places.{IsBy}
use Rattle.chk_world.specs.Rules.{Obeys, Legal}

-- each step of others obeys its rule; each own step is by this process, was made while the site wasn't stopped, and
-- leaves the messages alone
abbrev pub Beside : List (List ℕ) → Who → Side
Beside stamped who = record { others = Obeys stamped; own = IsBy who }

-- from a legal history on the told history stays legal, after each step and however the call ends
abbrev pub StaysLegal : Who → Option History → Option History → Type 0
StaysLegal who old new =
    who.role ≡ Writer → (stamped : List (List ℕ)) → Adds old new (Leads (Beside stamped who) (Legal stamped) (Legal stamped))
