-- The command of a collector: its start, its turns and its end.
use Rattle.std.specs.Prelude.{◌≡◌, ℕ, IsTrue, List, Option, None, Result, Ok, Err}
use Rattle.chk_bytes.specs.Stems.{Stem, is_stem}
use Rattle.chk_site.specs.declared.acts.Who.{Who}
use Rattle.chk_site.specs.Files.{Files}
use Rattle.chk_site.specs.History.{History, files_after}
use Rattle.chk_site.specs.Site.{Adds}
use Rattle.chk_site.specs.Runs.{HasStarted, Leads, Owns}
use Rattle.chk_world.specs.Committed.{IsAbsent, number_in}
use Rattle.chk_world.specs.Names.{BornFile, SinkFile, file}
use Rattle.chk_world.specs.Places.{As, IsBy, AtTold}
use Rattle.chk_world.specs.Rules.{Legal}
use Rattle.chk_world.specs.Works.{Works, NoneFailed}
use Rattle.chk_sink.specs.declared.fault.SinkFault.{SinkFault}
use Rattle.chk_sink.specs.declared.fault.SinkFault.TheVariants.{Damaged, Spent}
use Rattle.chk_sink.specs.Closes.{IsOfTick}
use Rattle.chk_sink.specs.Damage.{DamageCause, SpentCause}
use Rattle.chk_sink.specs.Faults.{FailsLast, ended_by}
use Rattle.chk_sink.specs.Held.{Matches}
use Rattle.chk_sink.specs.Starts.{IsFresh, Started, IsLastStart}
use Rattle.chk_sink.specs.States.{State, IsSameStart, last_number}
use Rattle.chk_sink.specs.Works.{OfStart, OfTick}
use Rattle.chk_collector.specs.Finishing.{finished, Finished, LeavesAfterFinish}
use Rattle.chk_tee_sender.specs.declared.Subscriber.{Subscriber}
use Rattle.chk_collector_run.specs.Turns.{AreCollectorTurns, IsCutChain}

-- The start, after whose `rotate` milliseconds a sink is closed. From a legal history the history
-- behind it holds the sinks of this state.
pub record IsStarted (who : Who) (rotate : ℕ) (s : State) (old new : Option History) : Type 0 where
  pub fresh : IsFresh who rotate s
  pub told : (stamped : List (List ℕ)) → Adds old new
      (Leads (As stamped who) (Legal stamped) (Started stamped who (Ok s)))
  pub starts : Adds old new (HasStarted who)
  pub quiet : Adds old new (Owns (IsBy who))
  pub own : Works who (OfStart who) None old new
  pub damaged : Adds old new (DamageCause {T = Unit {0}} (Ok tt))
  pub spent : Adds old new (SpentCause {T = Unit {0}} (Ok tt))

-- a start that was refused
pub record IsUnstarted (who : Who) (fault : SinkFault) (old new : Option History) : Type 0 where
  pub last_start : IsLastStart {T = Unit {0}} (Err fault)
  pub told : (stamped : List (List ℕ)) → Adds old new
      (Leads (As stamped who) (Legal stamped) (Started stamped who (Err fault)))
  pub quiet : Adds old new (Owns (IsBy who))
  pub own : Works who (OfStart who) (ended_by {T = Unit {0}} (Err fault)) old new
  pub last : Adds old new (FailsLast {T = Unit {0}} (Err fault))
  pub damaged : Adds old new (DamageCause {T = Unit {0}} (Err fault))
  pub spent : Adds old new (SpentCause {T = Unit {0}} (Err fault))

-- The end: no sink of the start is under writing. From a legal history that holds the sinks before
-- it, the sink that was written to was a done one.
pub record IsFinished (who : Who) (s t : State) (old new : Option History) : Type 0 where
  pub is : t ≡ finished s
  pub told : (stamped : List (List ℕ)) → Adds old new
      (Leads (As stamped who) (Matches stamped s) (Finished stamped s t (Ok tt)))
  pub quiet : Adds old new (Owns (IsBy who))
  pub own : Works who (OfTick s) None old new
  pub acts : Adds old new NoneFailed
  pub damaged : Adds old new (DamageCause {T = Unit {0}} (Ok tt))

-- an end that was refused, and what it left
pub record IsUnfinished (who : Who) (fault : SinkFault) (s t : State) (old new : Option History) :
    Type 0 where
  pub of : IsOfTick fault
  pub same : IsSameStart s t
  pub leaves : LeavesAfterFinish s t fault old new
  pub told : (stamped : List (List ℕ)) → Adds old new
      (Leads (As stamped who) (Matches stamped s) (Finished stamped s t (Err fault)))
  pub quiet : Adds old new (Owns (IsBy who))
  pub own : Works who (OfTick s) (ended_by {T = Unit {0}} (Err fault)) old new
  pub last : Adds old new (FailsLast {T = Unit {0}} (Err fault))
  pub damaged : Adds old new (DamageCause {T = Unit {0}} (Err fault))

-- the start, so many turns at the door with these subscribers, and the end
pub record CollectorRan (who : Who) (rotate turns : ℕ) (door : List ℕ) (most wait : ℕ)
    (a : List Subscriber) (old new : Option History) : Type 0 where
  pub s : State
  pub t : State
  pub u : State
  pub b : List Subscriber
  pub started : Option History
  pub turned : Option History
  pub start : IsStarted who rotate s old started
  pub each : AreCollectorTurns who door most wait turns s a started t b turned
  pub finish : IsFinished who t u turned new

-- a run that was cut short: at its start, in a turn behind some others, or at its end behind all
-- turns
pub data IsCutRun (who : Who) (rotate turns : ℕ) (door : List ℕ) (most wait : ℕ)
    (a : List Subscriber) (fault : SinkFault) (old new : Option History) : Type 0 where
  unstarted : IsUnstarted who fault old new
      → IsCutRun who rotate turns door most wait a fault old new
  cut : {s u : State} {b : List Subscriber} {started : Option History}
      → IsStarted who rotate s old started
      → IsCutChain who door most wait turns fault s a started u b new
      → IsCutRun who rotate turns door most wait a fault old new
  unfinished : {s t u : State} {b : List Subscriber} {started turned : Option History}
      → IsStarted who rotate s old started
      → AreCollectorTurns who door most wait turns s a started t b turned
      → IsUnfinished who fault t u turned new
      → IsCutRun who rotate turns door most wait a fault old new

-- no sink of this collector is under writing
abbrev pub IsNoneOpen : List ℕ → Files → Type 0
IsNoneOpen name files = (x : Stem) → IsTrue (is_stem x) → x.collector ≡ name
    → IsAbsent (file files (SinkFile x))

-- What the history is behind the command: legal at every exit. At Ok no sink of this collector is
-- under writing. Nothing of the
-- collector's own is ever damaged, and the number of starts is spent only where it is the last one.
abbrev pub Collected : List (List ℕ) → Who → Result (Unit {0}) SinkFault → History → Type 0
Collected stamped who (Ok value) history = AtTold stamped who (λ front. IsNoneOpen who.name
    (files_after front)) history
Collected stamped who (Err (Damaged name at)) history = AtTold stamped who (λ front. ⊥) history
Collected stamped who (Err (Spent born)) history =
    AtTold stamped who (λ front. number_in (file (files_after front) (BornFile who.name)) ≡
    last_number) history
Collected stamped who (Err fault) history = Legal stamped history
