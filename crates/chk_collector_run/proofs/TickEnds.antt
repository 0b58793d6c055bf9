-- A turn that came to its tick.
use Rattle.std.proofs.Common.{◌≡◌, inl, ℕ, List, [], Option, None, Result, Ok, Err, sym, subst}
use Rattle.std.specs.Prelude.{IsTrue, OnOk, IfErr}
use Rattle.chk_bytes.specs.Stems.{is_collector}
use Rattle.chk_site.specs.declared.acts.Call.TheVariants.{Clock}
use Rattle.chk_site.specs.declared.acts.Who.{Who}
use Rattle.chk_site.specs.History.{History}
use Rattle.chk_site.specs.Runs.{Leads, Owns}
use Rattle.chk_site.specs.Site.{Adds, asked, answered, sized, Calls}
use Rattle.chk_site.proofs.Runs.{adds_as}
use Rattle.chk_world.specs.Places.{As, Foreign, IsBy}
use Rattle.chk_world.specs.Works.{Works, NoneFailed}
use Rattle.chk_sink.specs.declared.fault.SinkFault.{SinkFault}
use Rattle.chk_sink.specs.declared.fault.SinkFault.TheVariants.{Outside, Damaged, Spent, NoMemory}
use Rattle.chk_sink.specs.Closes.{IsOfTick, Ticked}
use Rattle.chk_sink.specs.Damage.{DamageCause}
use Rattle.chk_sink.specs.Faults.{FailsLast, IsOutside, SinkCause, ended_by}
use Rattle.chk_sink.specs.Held.{Matches}
use Rattle.chk_sink.specs.States.{State, IsSameStart, process, ticked_state}
use Rattle.chk_sink.specs.Works.{OfTick, LeavesAfterTick}
use Rattle.chk_tee_sender.specs.declared.Subscriber.{Subscriber}
use Rattle.chk_collector_run.specs.Legality.{IsSettled, Finds, TurnCause}
use Rattle.chk_collector_run.specs.Messages.{IsTakenUpTo}
use Rattle.chk_collector_run.specs.Turns.{IsCollectorTurn, IsCutTurn, unticked}
use Rattle.chk_collector_run.proofs.SettledSinks.{ticked_settled}
use Rattle.chk_collector_run.proofs.Turning.{turn_finds, cut_finds}

pub outside_of_tick : (fault : SinkFault) → IsOutside fault → IsOfTick fault
outside_of_tick (Outside call) only = tt
outside_of_tick (Damaged name at) only = tt
outside_of_tick (Spent born) only = absurd only
outside_of_tick NoMemory only = tt

-- the cause of a tick is one of a turn
pub tick_cause : (a b : ℕ) (result : Result (Unit {0}) SinkFault) → SinkCause a b result
    → TurnCause a b result
tick_cause a b (Ok value) e = inl e
tick_cause a b (Err (Outside call)) r = r
tick_cause a b (Err (Damaged name at)) e = inl e
tick_cause a b (Err (Spent born)) e = inl e
tick_cause a b (Err NoMemory) e = inl e

-- what a tick says of its result
pub record TickSays (now : ℕ) (u t : State) (result : Result (Unit {0}) SinkFault)
    (timed new : Option History) : Type 0 where
  pub told : (stamped : List (List ℕ)) → Adds timed new
      (Leads (As stamped (process u)) (Matches stamped u) (Ticked stamped u t result))
  pub same : IsSameStart u t
  pub ok : OnOk result (t ≡ ticked_state now u)
  pub refused : IfErr result (λ fault. LeavesAfterTick u t fault timed new)
  pub own : Works (process u) (OfTick u) (ended_by result) timed new
  pub fine : OnOk result (Adds timed new NoneFailed)
  pub only : IfErr result IsOfTick
  pub damaged : Adds timed new (DamageCause result)
  pub last : Adds timed new (FailsLast result)

-- each own step is by the process under its name, and leaves the messages alone
tick_quiet : (who : Who) (u : State) → who ≡ process u → {B : History → Type 0}
    {timed new : Option History} → Adds timed new (Leads (As [] (process u)) (Matches [] u) B)
    → Adds timed new (Owns (IsBy who))
tick_quiet who u is {timed = timed} {new = new} told =
    subst (λ w. Adds timed new (Owns (IsBy w))) (sym is)
    (adds_as (Owns (IsBy (process u))) told (λ a h x. x.own))

-- what it leads to, for the process under its name
tick_leads : (who : Who) (u t : State) → who ≡ process u → (result : Result (Unit {0}) SinkFault)
    {timed new : Option History} → ((stamped : List (List ℕ)) → Adds timed new
    (Leads (As stamped (process u)) (Matches stamped u) (Ticked stamped u t result)))
    → (stamped : List (List ℕ)) → Adds timed new
    (Leads (As stamped who) (Matches stamped u) (Ticked stamped u t result))
tick_leads who u t is result {timed = timed} {new = new} told stamped =
    subst (λ w. Adds timed new
    (Leads (As stamped w) (Matches stamped u) (Ticked stamped u t result))) (sym is) (told stamped)

pub settled_by : (now : ℕ) (u t : State) (result : Result (Unit {0}) SinkFault)
    → OnOk result (t ≡ ticked_state now u) → OnOk result (IsSettled t)
settled_by now u t (Ok value) ok = subst IsSettled (sym ok) (ticked_settled now u)
settled_by now u t (Err fault) ok = tt

-- it was done
pub turn_by : (who : Who) (door : List ℕ) (most : ℕ) (s u t : State) → who ≡ process u → (now : ℕ)
    (result : Result (Unit {0}) SinkFault) {a b : List Subscriber}
    {old taken timed new : Option History} → TickSays now u t result timed new
    → IsTakenUpTo who door most 1000 s a old (Ok tt) u b taken
    → Adds taken timed (Calls (asked who Clock [] 0 0) (answered sized (Ok now)))
    → OnOk result (IsCollectorTurn who door most 1000 s a old t b new)
turn_by who door most s u t is now (Err fault) says served call = tt
turn_by who door most s u t is now (Ok value) {taken = taken} {timed = timed} {new = new} says
    served call = record {
      u = u;
      taken = taken;
      messages = served;
      now = now;
      timed = timed;
      clock = call;
      tick = record {
        is = says.ok;
        told = tick_leads who u t is (Ok value) says.told;
        quiet = tick_quiet who u is (says.told []);
        own = subst (λ w. Works w (OfTick u) None timed new) (sym is) says.own;
        acts = says.fine;
        damaged = says.damaged;
      };
    }

-- it was refused
pub cut_by : (who : Who) (door : List ℕ) (most : ℕ) (s u t : State) → who ≡ process u → (now : ℕ)
    (result : Result (Unit {0}) SinkFault) {a b : List Subscriber}
    {old taken timed new : Option History} → TickSays now u t result timed new
    → IsTakenUpTo who door most 1000 s a old (Ok tt) u b taken
    → Adds taken timed (Calls (asked who Clock [] 0 0) (answered sized (Ok now)))
    → IfErr result (λ fault. IsCutTurn who door most 1000 fault s a old t b new)
cut_by who door most s u t is now (Ok value) says served call = tt
cut_by who door most s u t is now (Err fault) {timed = timed} {new = new} says served call =
    unticked now served call (record {
      of = says.only;
      same = says.same;
      leaves = says.refused;
      told = tick_leads who u t is (Err fault) says.told;
      quiet = tick_quiet who u is (says.told []);
      own = subst (λ w. Works w (OfTick u) (ended_by {T = Unit {0}} (Err fault)) timed new)
          (sym is) says.own;
      last = says.last;
      damaged = says.damaged;
    })

-- what the takings find, by the turn's result
pub finds_by : (stamped : List (List ℕ)) (who : Who) (door : List ℕ) (most : ℕ) (s t : State)
    (a b : List Subscriber)
    → who ≡ process s → IsTrue (is_collector s.collector) → IsSettled s
    → (result : Result (Unit {0}) SinkFault) {old new : Option History}
    → OnOk result (IsCollectorTurn who door most 1000 s a old t b new)
    → IfErr result (λ fault. IsCutTurn who door most 1000 fault s a old t b new)
    → Adds old new (Finds (Foreign stamped who) who.name (Matches stamped s))
finds_by stamped who door most s t a b is named settled (Ok value) turn cut =
    turn_finds stamped s named who is settled turn
finds_by stamped who door most s t a b is named settled (Err fault) turn cut =
    cut_finds stamped s named who is fault settled cut
