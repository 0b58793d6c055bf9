-- Of which sinks the rows of an agent are that posts inside the process.
use Rattle.std.specs.Prelude.{◌≡◌, ℕ, List, [], ◌∷◌, Contains, Option}
use Rattle.chk_bytes.specs.Stems.{Stem}
use Rattle.chk_site.specs.declared.acts.Who.{Who}
use Rattle.chk_site.specs.History.{History, Others}
use Rattle.chk_site.specs.Site.{Adds}
use Rattle.chk_world.specs.Together.{Outside}
use Rattle.chk_acks.specs.declared.row.Row.{Row}
use Rattle.chk_sink.specs.States.{State as Sinks}
use Rattle.chk_agent.specs.States.{State as Agents, process as agent_of}
use Rattle.chk_exchange.specs.Legality.{BothAt}

-- so it is of the sink and the offset of each row
abbrev pub AllRows : (Stem → ℕ → Type 0) → List Row → Type 0
AllRows P [] = Unit {0}
AllRows P (row ∷ rows) = P row.stem row.offset × AllRows P rows

-- the sink is one of the collector's start
pub record IsOwnSink (s : Sinks) (x : Stem) : Type 0 where
  pub collector : x.collector ≡ s.collector
  pub born : x.born ≡ s.born

-- each row's sink is
abbrev pub RowsOwn : Sinks → Agents → Type 0
RowsOwn s a = AllRows (λ x offset. IsOwnSink s x) a.delivery.table.rows

-- in a legal history they are so behind these steps, where they were before
abbrev pub KeepsOwn : Who → Sinks → Agents → Sinks → Agents → Option History → Option History
    → Type 0
KeepsOwn who s a t b old new =
    (stamped : List (List ℕ)) (started acting : List Who) → Contains started who
    → Contains started (agent_of a) → Contains acting who → Contains acting (agent_of a)
    → Adds old new (λ added history. Others (Outside stamped started) added history
    → BothAt stamped s a history → RowsOwn s a → RowsOwn t b)
