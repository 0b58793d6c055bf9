-- The start and the end of a run, by their results.
use Rattle.std.proofs.Common.{◌≡◌, ℕ, List, [], Option, None, Result, Ok, Err, sym, subst}
use Rattle.std.specs.Prelude.{OnOk, IfErr, IfOk}
use Rattle.chk_site.specs.declared.acts.Who.{Who}
use Rattle.chk_site.specs.History.{History}
use Rattle.chk_site.specs.Runs.{Leads, Owns, HasStarted}
use Rattle.chk_site.specs.Site.{Adds}
use Rattle.chk_world.specs.Places.{As, IsBy}
use Rattle.chk_world.specs.Rules.{Legal}
use Rattle.chk_world.specs.Works.{Works, NoneFailed}
use Rattle.chk_sink.specs.declared.fault.SinkFault.{SinkFault}
use Rattle.chk_sink.specs.declared.fault.SinkFault.TheVariants.{Outside, Damaged, Spent, NoMemory}
use Rattle.chk_sink.specs.Closes.{IsOfTick}
use Rattle.chk_sink.specs.Damage.{DamageCause, SpentCause}
use Rattle.chk_sink.specs.Faults.{FailsLast, ended_by}
use Rattle.chk_sink.specs.Held.{Matches}
use Rattle.chk_sink.specs.Starts.{IsFresh, Started, IsLastStart}
use Rattle.chk_sink.specs.States.{State, IsSameStart, process}
use Rattle.chk_sink.specs.Works.{OfStart, OfTick}
use Rattle.chk_collector.specs.Finishing.{finished, Finished, LeavesAfterFinish}
use Rattle.chk_tee_sender.specs.declared.Subscriber.{Subscriber}
use Rattle.chk_collector_run.specs.Runs.{IsStarted, IsUnstarted, CollectorRan, IsCutRun, unfinished}
use Rattle.chk_collector_run.specs.Turns.{AreCollectorTurns}
use Rattle.chk_collector_run.proofs.Running.{made_quiet}

-- ---- the start

-- what a start says of its result
pub record StartSays (who : Who) (rotate : ℕ) (result : Result State SinkFault)
    (old new : Option History) : Type 0 where
  pub told : (stamped : List (List ℕ)) → Adds old new
      (Leads (As stamped who) (Legal stamped) (Started stamped who result))
  pub starts : IfOk result (λ s. Adds old new (HasStarted who))
  pub fresh : IfOk result (IsFresh who rotate)
  pub spent : IsLastStart result
  pub spent_exactly : Adds old new (SpentCause result)
  pub damaged : Adds old new (DamageCause result)
  pub own : Works who (OfStart who) (ended_by result) old new
  pub last : Adds old new (FailsLast result)

pub started_by : {who : Who} {rotate : ℕ} {s : State} {old new : Option History}
    → StartSays who rotate (Ok s) old new → IsStarted who rotate s old new
started_by says = record {
  fresh = says.fresh;
  told = says.told;
  starts = says.starts;
  quiet = made_quiet (says.told []);
  own = says.own;
  damaged = says.damaged;
  spent = says.spent_exactly;
}

pub unstarted_by : {who : Who} {rotate : ℕ} (fault : SinkFault) {old new : Option History}
    → StartSays who rotate (Err fault) old new → IsUnstarted who fault old new
unstarted_by (Outside call) says = record {
  last_start = tt;
  told = says.told;
  quiet = made_quiet (says.told []);
  own = says.own;
  last = says.last;
  damaged = says.damaged;
  spent = says.spent_exactly;
}
unstarted_by (Damaged name at) says = record {
  last_start = tt;
  told = says.told;
  quiet = made_quiet (says.told []);
  own = says.own;
  last = says.last;
  damaged = says.damaged;
  spent = says.spent_exactly;
}
unstarted_by (Spent born) says = record {
  last_start = says.spent;
  told = says.told;
  quiet = made_quiet (says.told []);
  own = says.own;
  last = says.last;
  damaged = says.damaged;
  spent = says.spent_exactly;
}
unstarted_by NoMemory says = record {
  last_start = tt;
  told = says.told;
  quiet = made_quiet (says.told []);
  own = says.own;
  last = says.last;
  damaged = says.damaged;
  spent = says.spent_exactly;
}

-- ---- the end

-- what the end says of its result
pub record FinishSays (s t : State) (result : Result (Unit {0}) SinkFault)
    (old new : Option History) : Type 0 where
  pub told : (stamped : List (List ℕ)) → Adds old new
      (Leads (As stamped (process s)) (Matches stamped s) (Finished stamped s t result))
  pub same : IsSameStart s t
  pub ok : OnOk result (t ≡ finished s)
  pub refused : IfErr result (λ fault. LeavesAfterFinish s t fault old new)
  pub own : Works (process s) (OfTick s) (ended_by result) old new
  pub fine : OnOk result (Adds old new NoneFailed)
  pub only : IfErr result IsOfTick
  pub damaged : Adds old new (DamageCause result)
  pub last : Adds old new (FailsLast result)

module _ (who : Who) (rotate turns most : ℕ) (door : List ℕ) (s t u : State) (is : who ≡ process t)
    {a b : List Subscriber} {old started turned new : Option History}
    (start : IsStarted who rotate s old started)
    (each : AreCollectorTurns who door most 1000 turns s a started t b turned) where
  quiet_by : {B : History → Type 0}
      → Adds turned new (Leads (As [] (process t)) (Matches [] t) B)
      → Adds turned new (Owns (IsBy who))
  quiet_by told = subst (λ w. Adds turned new (Owns (IsBy w))) (sym is) (made_quiet told)

  -- what the end leads to
  told_by : (result : Result (Unit {0}) SinkFault)
      → ((stamped : List (List ℕ)) → Adds turned new
      (Leads (As stamped (process t)) (Matches stamped t) (Finished stamped t u result)))
      → (stamped : List (List ℕ)) → Adds turned new
      (Leads (As stamped who) (Matches stamped t) (Finished stamped t u result))
  told_by result told stamped =
      subst (λ w. Adds turned new
      (Leads (As stamped w) (Matches stamped t) (Finished stamped t u result))) (sym is)
      (told stamped)

  pub ran_by : (result : Result (Unit {0}) SinkFault) → FinishSays t u result turned new
      → OnOk result (CollectorRan who rotate turns door most 1000 a old new)
  ran_by (Err fault) says = tt
  ran_by (Ok value) says = record {
    s = s;
    t = t;
    u = u;
    b = b;
    started = started;
    turned = turned;
    start = start;
    each = each;
    finish = record {
      is = says.ok;
      told = told_by (Ok value) says.told;
      quiet = quiet_by (says.told []);
      own = subst (λ w. Works w (OfTick t) None turned new) (sym is) says.own;
      acts = says.fine;
      damaged = says.damaged;
    };
  }

  pub unfinished_by : (result : Result (Unit {0}) SinkFault) → FinishSays t u result turned new
      → IfErr result (λ fault. IsCutRun who rotate turns door most 1000 a fault old new)
  unfinished_by (Ok value) says = tt
  unfinished_by (Err fault) says = unfinished start each (record {
    of = says.only;
    same = says.same;
    leaves = says.refused;
    told = told_by (Err fault) says.told;
    quiet = quiet_by (says.told []);
    own = subst (λ w. Works w (OfTick t) (ended_by {T = Unit {0}} (Err fault)) turned new) (sym is)
        says.own;
    last = says.last;
    damaged = says.damaged;
  })

-- at Ok the state is the finished one
pub finished_by : (s t : State) (result : Result (Unit {0}) SinkFault) → OnOk result (t ≡ finished s)
    → result ≡ Ok tt → t ≡ finished s
finished_by s t (Ok value) ok e = ok
finished_by s t (Err fault) ok e = absurd (let z : ⊥ = cc in z)
