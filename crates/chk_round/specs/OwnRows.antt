-- Of which sinks the rows of a round's agent are, and that none of these is gone.
use Rattle.std.specs.Prelude.{◌≡◌, ℕ, false, IsTrue, List, Option, Result, Ok, Err}
use Rattle.chk_bytes.specs.Stems.{Stem, is_stem}
use Rattle.chk_site.specs.declared.acts.Who.{Who}
use Rattle.chk_site.specs.History.{History, Others, is_stopped}
use Rattle.chk_site.specs.Site.{Adds}
use Rattle.chk_world.specs.DoneSinks.{IsGone}
use Rattle.chk_world.specs.NamedEnds.{gave_up}
use Rattle.chk_world.specs.Together.{Outside as OutsideOf}
use Rattle.chk_sink.specs.States.{State as Sinks}
use Rattle.chk_agent.specs.States.{State as Agents}
use Rattle.chk_exchange.specs.OwnRows.{IsOwnSink, RowsOwn}
use Rattle.chk_round.specs.declared.faults.RoundFault.{RoundFault}
use Rattle.chk_round.specs.declared.faults.RoundFault.TheVariants.{Length}
use Rattle.chk_round.specs.Joint.{AreIn, BothAt}

-- behind an end each row is of a sink of the collector's start, and so is a length that ended it
abbrev pub OwnBehind : Sinks → Agents → Result (Unit {0}) RoundFault → Type 0
OwnBehind s a (Ok value) = RowsOwn s a
OwnBehind s a (Err (Length stem got want)) = IsOwnSink s stem
OwnBehind s a (Err fault) = Unit {0}

-- so it is in a legal history, where the rows were so before
abbrev pub OwnTo : Sinks → Agents → Sinks → Agents → Result (Unit {0}) RoundFault → Option History
    → Option History → Type 0
OwnTo s a t b result old new =
    (stamped : List (List ℕ)) (started acting : List Who) → AreIn started acting s a
    → Adds old new (λ added history. Others (OutsideOf stamped started) added history
    → BothAt stamped s a history → RowsOwn s a → OwnBehind t b result)

-- no sink of the collector's start is gone, but for those that were given up
abbrev pub NoneGone : Sinks → History → Type 0
NoneGone s history =
    (x : Stem) → IsTrue (is_stem x) → x.collector ≡ s.collector → x.born ≡ s.born
    → gave_up x history ≡ false → IsGone history x → ⊥

-- The history is as both know it. The rows are of sinks of the collector's start, none of which is
-- gone, where the site wasn't stopped.
abbrev pub FromStart : List (List ℕ) → Sinks → Agents → History → Type 0
FromStart stamped s a history =
    BothAt stamped s a history × (RowsOwn s a × (is_stopped history ≡ false → NoneGone s history))
