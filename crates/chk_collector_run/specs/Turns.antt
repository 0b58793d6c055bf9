-- One turn of a collector, and a chain of turns: which calls are made, in order, and where a turn
-- is cut short.
use Rattle.std.specs.Prelude.{◌≡◌, ℕ, suc, ◌<◌, List, [], Option, None, Result, Ok, Err}
use Rattle.chk_site.specs.declared.acts.Who.{Who}
use Rattle.chk_site.specs.declared.acts.Call.TheVariants.{Clock}
use Rattle.chk_site.specs.declared.acts.CallFault.{CallFault}
use Rattle.chk_site.specs.History.{History}
use Rattle.chk_site.specs.Site.{Adds, asked, answered, sized, Calls}
use Rattle.chk_site.specs.Runs.{Leads, Owns}
use Rattle.chk_world.specs.Places.{As, IsBy}
use Rattle.chk_world.specs.Works.{Works, NoneFailed}
use Rattle.chk_sink.specs.declared.fault.SinkFault.{SinkFault}
use Rattle.chk_sink.specs.Closes.{IsOfTick, Ticked}
use Rattle.chk_sink.specs.Damage.{DamageCause}
use Rattle.chk_sink.specs.Faults.{FailsLast, ended_by}
use Rattle.chk_sink.specs.Held.{Matches}
use Rattle.chk_sink.specs.States.{State, IsSameStart, ticked_state}
use Rattle.chk_sink.specs.Works.{OfTick, LeavesAfterTick}
use Rattle.chk_tee_sender.specs.declared.Subscriber.{Subscriber}
use Rattle.chk_collector_run.specs.Messages.{EndsBy, IsTakenUpTo}

-- A tick at this moment: its calls were done, and no sink is left that is to be closed. From a
-- legal history that holds the sinks before it, the history holds them behind it: what is written
-- to is committed whole, and the sink that was due was a done one.
pub record IsTicked (who : Who) (now : ℕ) (s t : State) (old new : Option History) : Type 0 where
  pub is : t ≡ ticked_state now s
  pub told : (stamped : List (List ℕ)) → Adds old new
      (Leads (As stamped who) (Matches stamped s) (Ticked stamped s t (Ok tt)))
  pub quiet : Adds old new (Owns (IsBy who))
  pub own : Works who (OfTick s) None old new
  pub acts : Adds old new NoneFailed
  pub damaged : Adds old new (DamageCause {T = Unit {0}} (Ok tt))

-- a tick that was refused, what it left, and that the history holds it
pub record IsUnticked (who : Who) (fault : SinkFault) (s t : State) (old new : Option History) :
    Type 0 where
  pub of : IsOfTick fault
  pub same : IsSameStart s t
  pub leaves : LeavesAfterTick s t fault old new
  pub told : (stamped : List (List ℕ)) → Adds old new
      (Leads (As stamped who) (Matches stamped s) (Ticked stamped s t (Err fault)))
  pub quiet : Adds old new (Owns (IsBy who))
  pub own : Works who (OfTick s) (ended_by {T = Unit {0}} (Err fault)) old new
  pub last : Adds old new (FailsLast {T = Unit {0}} (Err fault))
  pub damaged : Adds old new (DamageCause {T = Unit {0}} (Err fault))

-- at most `most` messages at the door, the clock, and a tick at its moment
pub record IsCollectorTurn (who : Who) (door : List ℕ) (most wait : ℕ) (s : State)
    (a : List Subscriber) (old : Option History) (t : State) (b : List Subscriber)
    (new : Option History) : Type 0 where
  pub u : State
  pub taken : Option History
  pub messages : IsTakenUpTo who door most wait s a old (Ok tt) u b taken
  pub now : ℕ
  pub timed : Option History
  pub clock : Adds taken timed (Calls (asked who Clock [] 0 0) (answered sized (Ok now)))
  pub tick : IsTicked who now u t timed new

-- a turn that was cut short: at a taking or for want of memory, at the clock, or in the tick
pub data IsCutTurn (who : Who) (door : List ℕ) (most wait : ℕ) (fault : SinkFault) (s : State)
    (a : List Subscriber) (old : Option History)
    : State → List Subscriber → Option History → Type 0 where
  untaken : {t : State} {b : List Subscriber} {new : Option History}
      → IsTakenUpTo who door most wait s a old (Err fault) t b new
      → IsCutTurn who door most wait fault s a old t b new
  untimed : {t : State} {b : List Subscriber} {taken new : Option History}
      (given : Result ℕ CallFault) → IsTakenUpTo who door most wait s a old (Ok tt) t b taken
      → EndsBy Clock given fault → Adds taken new (Calls (asked who Clock [] 0 0) (answered sized
      given))
      → IsCutTurn who door most wait fault s a old t b new
  unticked : {u t : State} {b : List Subscriber} {taken timed new : Option History} (now : ℕ)
      → IsTakenUpTo who door most wait s a old (Ok tt) u b taken
      → Adds taken timed (Calls (asked who Clock [] 0 0) (answered sized (Ok now)))
      → IsUnticked who fault u t timed new
      → IsCutTurn who door most wait fault s a old t b new

-- so many turns, one after the other
pub data AreCollectorTurns (who : Who) (door : List ℕ) (most wait : ℕ)
    : ℕ → State → List Subscriber → Option History → State → List Subscriber → Option History
    → Type 0 where
  over : {s : State} {a : List Subscriber} {now : Option History}
      → AreCollectorTurns who door most wait 0 s a now s a now
  turn : {n : ℕ} {s t u : State} {a b c : List Subscriber} {old mid new : Option History}
      → IsCollectorTurn who door most wait s a old t b mid
      → AreCollectorTurns who door most wait n t b mid u c new
      → AreCollectorTurns who door most wait (suc n) s a old u c new

-- some of so many turns, and then one that was cut short
pub record IsCutChain (who : Who) (door : List ℕ) (most wait turns : ℕ) (fault : SinkFault)
    (s : State) (a : List Subscriber) (old : Option History) (t : State) (b : List Subscriber)
    (new : Option History) : Type 0 where
  pub done : ℕ
  pub within : done < turns
  pub u : State
  pub standing : List Subscriber
  pub turned : Option History
  pub each : AreCollectorTurns who door most wait done s a old u standing turned
  pub cut : IsCutTurn who door most wait fault u standing turned t b new

-- all of so many turns, or a chain that was cut short
abbrev pub AreTurned : Who → List ℕ → ℕ → ℕ → ℕ → State → List Subscriber → Option History
    → Result (Unit {0}) SinkFault → State → List Subscriber → Option History → Type 0
AreTurned who door most wait turns s a old (Ok value) t b new =
    AreCollectorTurns who door most wait turns s a old t b new
AreTurned who door most wait turns s a old (Err fault) t b new =
    IsCutChain who door most wait turns fault s a old t b new
