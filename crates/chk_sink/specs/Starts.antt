-- What a start leads to.
use Rattle.std.specs.Prelude.{◌≡◌, ℕ, false, List, None, Result, Ok, Err}
use Rattle.chk_site.specs.declared.acts.Who.{Who}
use Rattle.chk_site.specs.History.{History, files_after}
use Rattle.chk_world.specs.Names.{BornFile, file}
use Rattle.chk_world.specs.Committed.{number_in}
use Rattle.chk_world.specs.Rules.{Legal}
use Rattle.chk_world.specs.Places.{AtTold}
use Rattle.chk_sink.specs.declared.fault.SinkFault.{SinkFault}
use Rattle.chk_sink.specs.declared.fault.SinkFault.TheVariants.{Damaged, Spent}
use Rattle.chk_sink.specs.States.{State, last_number}
use Rattle.chk_sink.specs.Held.{Holds}

-- sinks of this collector's start, of which none is created yet and none was abandoned
pub record IsFresh (who : Who) (ms : ℕ) (s : State) : Type 0 where
  pub collector : s.collector ≡ who.name
  pub rotate : s.rotate ≡ ms
  pub number : s.number ≡ 0
  pub current : s.current ≡ None
  pub abandoned : s.abandoned ≡ false

-- The told history stays legal. At Ok it holds the sinks: `born` was published, and no sink of an earlier start is
-- under writing or has a mark. The number of starts is spent only where it is the last one, and nothing of the
-- collector's own is ever damaged.
abbrev pub Started : List (List ℕ) → Who → Result State SinkFault → History → Type 0
Started stamped who (Ok s) history = AtTold stamped who (Holds s) history
Started stamped who (Err (Damaged name at)) history = AtTold stamped who (λ front. ⊥) history
Started stamped who (Err (Spent born)) history =
    AtTold stamped who (λ front. number_in (file (files_after front) (BornFile who.name)) ≡ last_number) history
Started stamped who (Err fault) history = Legal stamped history

-- the number of starts that was read is the last one
abbrev pub IsLastStart : {T : Type 0} → Result T SinkFault → Type 0
IsLastStart (Err (Spent born)) = born ≡ last_number
IsLastStart result = Unit {0}
