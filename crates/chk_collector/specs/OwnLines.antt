-- Of which sinks the lines of a reply to a post are.
use Rattle.std.specs.Prelude.{◌≡◌, ◌<◌, ◌^◌, IsTrue, List, [], ◌∷◌}
use Rattle.chk_bytes.specs.Stems.{is_stem}
use Rattle.chk_http_grammar.specs.Messages.{Ack}
use Rattle.chk_sink.specs.States.{State}

-- the line is of a sink of this collector's start, with a number of 8 bytes
pub record IsOfStart (s : State) (a : Ack) : Type 0 where
  pub collector : a.stem.collector ≡ s.collector
  pub born : a.stem.born ≡ s.born
  pub stem : IsTrue (is_stem a.stem)
  pub wide : a.number < 2 ^ 64

-- so is each of them
abbrev pub AreOfStart : State → List Ack → Type 0
AreOfStart s [] = Unit {0}
AreOfStart s (a ∷ acks) = IsOfStart s a × AreOfStart s acks
