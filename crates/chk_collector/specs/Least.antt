-- What the lines of a reply to a poll are at least.
use Rattle.std.specs.Prelude.{◌≡◌, ℕ, ◌≤◌, ◌<◌, List, [], ◌∷◌, Option}
use Rattle.chk_bytes.specs.Numbers.{limit}
use Rattle.chk_bytes.specs.Stems.{Stem}
use Rattle.chk_site.specs.declared.acts.Who.{Who}
use Rattle.chk_site.specs.History.{History}
use Rattle.chk_site.specs.Site.{Adds}
use Rattle.chk_http_grammar.specs.Messages.{Ack}
use Rattle.chk_sink.specs.Least.{StaysReached}

-- The number can be written. In the line of this sink, where it is one of this collector, it is at
-- least so many bytes.
pub record LineIsLeast (who : Who) (x : Stem) (k : ℕ) (a : Ack) : Type 0 where
  pub small : a.number < limit
  pub least : a.stem ≡ x → x.collector ≡ who.name → k ≤ a.number

-- so it is for each line
abbrev pub LinesAreLeast : Who → Stem → ℕ → List Ack → Type 0
LinesAreLeast who x k [] = Unit {0}
LinesAreLeast who x k (a ∷ acks) = LineIsLeast who x k a × LinesAreLeast who x k acks

-- the line of each sink of this collector tells at least what is committed of it from before these
-- steps until behind them, whoever asks for its files meanwhile
abbrev pub TellLeast : Who → List Ack → Option History → Option History → Type 0
TellLeast who acks old new =
    (stamped : List (List ℕ)) (x : Stem) (k : ℕ)
    → Adds old new
    (λ added history. StaysReached stamped who x k added history → LinesAreLeast who x k acks)
