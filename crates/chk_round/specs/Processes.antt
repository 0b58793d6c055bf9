-- The processes of a round.
use Rattle.std.specs.Prelude.{ℕ, List, [], ◌∷◌, codes, Contains}
use Rattle.chk_site.specs.declared.acts.Role.TheVariants.{Collector}
use Rattle.chk_site.specs.declared.acts.Who.{Who}
use Rattle.chk_world.specs.Knowing.{agent}
use Rattle.chk_world.specs.Sight.{job}

-- the collector
abbrev pub c1 : Who
c1 = record { role = Collector; name = codes "c1" }

-- the three of a round with this source
abbrev pub processes : List ℕ → List Who
processes source = c1 ∷ agent source ∷ job ∷ []

-- those that begin first
abbrev pub both : List ℕ → List Who
both source = c1 ∷ agent source ∷ []

-- the run started these two, and they act in it
pub record AreBoth (source : List ℕ) (started acting : List Who) : Type 0 where
  pub started_all : (who : Who) → Contains (both source) who → Contains started who
  pub acts_all : (who : Who) → Contains (both source) who → Contains acting who

-- the run started the three, and they act in it
pub record IsRunOf (source : List ℕ) (started acting : List Who) : Type 0 where
  pub started_all : (who : Who) → Contains (processes source) who → Contains started who
  pub acts_all : (who : Who) → Contains (processes source) who → Contains acting who
