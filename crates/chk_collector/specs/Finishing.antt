-- The end of a collector's work.
use Rattle.chk_sink.specs.Works.{LeavesAfterTick}
use Rattle.chk_sink.specs.Faults.{IsOutside}
use Rattle.std.specs.Prelude.{ℕ, false, List, None, Result, Err, ◌≡◌, ◌⊎◌, Option}
use Rattle.chk_site.specs.History.{History}
use Rattle.chk_world.specs.Places.{AtTold}
use Rattle.chk_sink.specs.declared.fault.SinkFault.{SinkFault}
use Rattle.chk_sink.specs.declared.fault.SinkFault.TheVariants.{Damaged}
use Rattle.chk_sink.specs.States.{State, process, last_stem, let_go, ticked_state}
use Rattle.chk_sink.specs.Held.{Holds}
use Rattle.chk_sink.specs.Closes.{OnceDone, WasClosed}

-- no sink of the start is under writing
abbrev pub finished : State → State
finished s = record {
  collector = s.collector;
  born = s.born;
  number = s.number;
  rotate = s.rotate;
  current = None;
  abandoned = false;
}

-- no sink is written to, and none was abandoned
pub record IsAtEnd (s : State) : Type 0 where
  pub current : s.current ≡ None
  pub settled : s.abandoned ≡ false

-- what stands after a refusal: that of the tick, or the sink that it left was let go
abbrev pub LeavesAfterFinish : State → State → SinkFault → Option History → Option History → Type 0
LeavesAfterFinish old new fault before after =
    LeavesAfterTick old new fault before after ⊎ (IsOutside fault × (new ≡ let_go (ticked_state 0 old)))

-- the history holds the sinks, and at Ok the sink that was written to became a done one; and nothing of the collector's own is
-- ever damaged
pub record FinishHolds (old new : State) (result : Result (Unit {0}) SinkFault) (history : History) : Type 0 where
  pub holds : Holds new history
  pub closed : OnceDone result (WasClosed (last_stem old) old.current history)
  pub sound : (name : List ℕ) (at : ℕ) → result ≡ Err (Damaged name at) → ⊥

-- the same of a told history
abbrev pub Finished : List (List ℕ) → State → State → Result (Unit {0}) SinkFault → History → Type 0
Finished stamped old new result history = AtTold stamped (process new) (FinishHolds old new result) history
