-- The parts of a turn, one after another.
use Rattle.std.proofs.Common.{◌≡◌, ℕ, List, [], Option, Result, Ok, Err, ap, sym, subst, ◌∙◌}
use Rattle.std.specs.Prelude.{IsTrue, OnOk}
use Rattle.chk_bytes.specs.Stems.{is_collector}
use Rattle.chk_site.specs.declared.acts.Call.{Call}
use Rattle.chk_site.specs.declared.acts.Call.TheVariants.{Clock}
use Rattle.chk_site.specs.declared.acts.CallFault.{CallFault}
use Rattle.chk_site.specs.declared.acts.CallFault.TheVariants.{Failed, Missing, Exists, Short, NoMemory as no_memory}
use Rattle.chk_site.specs.declared.acts.Role.TheVariants.{Collector}
use Rattle.chk_site.specs.declared.acts.Who.{Who}
use Rattle.chk_site.specs.History.{History}
use Rattle.chk_site.specs.Runs.{Leads}
use Rattle.chk_site.specs.Site.{Adds, asked, answered, sized, taking_given, Calls}
use Rattle.chk_site.proofs.Leads.{leads_then, leads_as}
use Rattle.chk_site.proofs.Runs.{adds_then, adds_as, adds_none}
use Rattle.chk_world.specs.Places.{As, Foreign, Talking}
use Rattle.chk_sink.specs.declared.fault.SinkFault.{SinkFault}
use Rattle.chk_sink.specs.declared.fault.SinkFault.TheVariants.{NoMemory}
use Rattle.chk_sink.specs.Closes.{Ticked}
use Rattle.chk_sink.specs.Faults.{FailsLast, IsOutside}
use Rattle.chk_sink.specs.Held.{Matches}
use Rattle.chk_sink.specs.States.{State, IsSameStart, process}
use Rattle.chk_tee_sender.specs.declared.Subscriber.{Subscriber}
use Rattle.chk_collector_run.specs.Legality.{IsSettled, TurnEnds, Finds}
use Rattle.chk_collector_run.specs.Messages.{EndsBy, IsTakenUpTo, enough, none, one, untaken as not_taken, unanswered}
use Rattle.chk_collector_run.specs.Turns.{IsCollectorTurn, IsCutTurn, untaken, untimed, unticked}
use Rattle.chk_collector_run.proofs.Counts.{ended_so, last_then}
use Rattle.chk_collector_run.proofs.SettledSinks.{tick_ends, outside_ends}
use Rattle.chk_collector_run.proofs.Takings.{call_opens, quiet_opens, found_then, message_opens, taken_finds}
use Rattle.chk_collector_run.proofs.Talking.{clocked, talking_as}

-- a call that ended a turn failed, or wanted memory
pub ends_outside : {T : Type 0} (call : Call) (given : Result T CallFault) (fault : SinkFault)
    → EndsBy call given fault → IsOutside fault
ends_outside call (Ok value) fault ends = absurd ends
ends_outside call (Err Failed) fault ends = subst IsOutside (sym ends) tt
ends_outside call (Err Missing) fault ends = absurd ends
ends_outside call (Err Exists) fault ends = absurd ends
ends_outside call (Err (Short size)) fault ends = absurd ends
ends_outside call (Err no_memory) fault ends = subst IsOutside (sym ends) tt

pub same_process : (s u : State) → IsSameStart s u → process u ≡ process s
same_process s u same = ap (λ n. record { role = Collector; name = n }) same.collector

-- of the takings, the call that failed is the last one
pub taken_last : {who : Who} {door : List ℕ} {most wait : ℕ} {s u : State} {a b : List Subscriber}
    {result : Result (Unit {0}) SinkFault} {old new : Option History}
    → IsTakenUpTo who door most wait s a old result u b new → Adds old new (FailsLast result)
taken_last enough = adds_none _ (FailsLast {T = Unit {0}} (Ok tt)) (λ h. tt)
taken_last (none call) = adds_as (FailsLast {T = Unit {0}} (Ok tt)) call (λ a h calls. tt)
taken_last (one {result = result} taking call answer rest) =
    last_then result call (last_then result (message_opens answer) (taken_last rest))
taken_last (not_taken fault given ends call) =
    adds_as (FailsLast {T = Unit {0}} (Err fault)) call
    (λ a h calls. ended_so (Unit {0}) (taking_given calls.0) given fault a h ends calls.1)
taken_last (unanswered taking fault call answer) =
    adds_then (FailsLast {T = Unit {0}} (Err NoMemory)) call (message_opens answer) (λ b a h x y.
    tt)

module _ (stamped : List (List ℕ)) (s : State) (named : IsTrue (is_collector s.collector)) where
  -- what a part of the turn leads to, for the process under its name
  abbrev Turn : Who → State → Result (Unit {0}) SinkFault → Option History → Option History → Type 0
  Turn who t result old new = Adds old new (Leads (Talking stamped who) (Matches stamped s)
      (TurnEnds stamped t result))

  abbrev pub Served : State → Option History → Option History → Type 0
  Served u old new = Adds old new (Leads (Talking stamped (process s)) (Matches stamped s) (Matches
      stamped u))

  pub cut_told : (who : Who) → who ≡ process s → (u : State) (fault : SinkFault)
      → IsOutside fault → {old new : Option History}
      → Served u old new → Turn who u (Err fault) old new
  cut_told who is u fault only {old = old} {new = new} served =
      subst (λ w. Turn w u (Err fault) old new) (sym is) (leads_as (λ h x. x) (outside_ends stamped
      u fault only) served)

  pub timed_told : (who : Who) → who ≡ process s → (u : State) → IsSameStart s u
      → (given : Result ℕ CallFault)
      → {old taken timed : Option History} → Served u old taken
      → Adds taken timed (Calls (asked who Clock [] 0 0) (answered sized given))
      → Served u old timed
  timed_told who is u same given {taken = taken} {timed = timed} served call =
      let e = same_process s u same in
      leads_then served
      (subst (λ w. Adds taken timed (Leads (Talking stamped w) (Matches stamped u) (Matches stamped
      u))) e
      (clocked stamped u (subst (λ (w : Who). IsTrue (is_collector w.name)) (sym e) named) given
      (subst (λ w. Adds taken timed (Calls (asked w Clock [] 0 0) (answered sized given))) (is ∙
      sym e) call)))

  pub ticked_told : (who : Who) → who ≡ process s → (u t : State) → IsSameStart s u
      → (result : Result (Unit {0}) SinkFault)
      → OnOk result (IsSettled t) → {old timed new : Option History} → Served u old timed
      → Adds timed new (Leads (As stamped (process u)) (Matches stamped u) (Ticked stamped u t
      result)) → Turn who t result old new
  ticked_told who is u t same result settled {old = old} {timed = timed} {new = new} served tick =
      subst (λ w. Turn w t result old new) (sym is)
      (leads_then served
      (subst (λ w. Adds timed new (Leads (Talking stamped w) (Matches stamped u) (TurnEnds stamped
      t result))) (same_process s u same)
      (leads_as (λ h x. x) (tick_ends stamped u t result settled) (talking_as (process u) stamped
      tick))))

  -- ---- what the takings find

  abbrev FoundBy : Who → Option History → Option History → Type 0
  FoundBy who old new = Adds old new (Finds (Foreign stamped who) who.name (Matches stamped s))

  turn_found : {door : List ℕ} {most wait : ℕ} {t : State} {a b : List Subscriber}
      {old new : Option History} → IsSettled s
      → IsCollectorTurn (process s) door most wait s a old t b new → FoundBy (process s) old new
  turn_found settled turn =
      found_then stamped s settled (found_then stamped s settled (taken_finds stamped s settled
      turn.messages)
      (call_opens _ (λ x. x) turn.clock)) (quiet_opens turn.tick.quiet)

  cut_found : {door : List ℕ} {most wait : ℕ} {fault : SinkFault} {t : State}
      {a b : List Subscriber} {old new : Option History} → IsSettled s
      → IsCutTurn (process s) door most wait fault s a old t b new → FoundBy (process s) old new
  cut_found settled (untaken taken) = taken_finds stamped s settled taken
  cut_found settled (untimed given taken ends call) =
      found_then stamped s settled (taken_finds stamped s settled taken) (call_opens _ (λ x. x)
      call)
  cut_found settled (unticked now taken call tick) =
      found_then stamped s settled (found_then stamped s settled (taken_finds stamped s settled
      taken)
      (call_opens _ (λ x. x) call)) (quiet_opens tick.quiet)

  pub turn_finds : (who : Who) → who ≡ process s
      → {door : List ℕ} {most wait : ℕ} {t : State} {a b : List Subscriber} {old new : Option History}
      → IsSettled s → IsCollectorTurn who door most wait s a old t b new → FoundBy who old new
  turn_finds who is {door = door} {most = most} {wait = wait} {t = t} {a = a} {b = b} {old = old}
      {new = new}
      settled turn =
      subst (λ w. IsCollectorTurn w door most wait s a old t b new
      → FoundBy w old new) (sym is) (turn_found settled) turn

  pub cut_finds : (who : Who) → who ≡ process s
      → {door : List ℕ} {most wait : ℕ} (fault : SinkFault) {t : State} {a b : List Subscriber}
      {old new : Option History}
      → IsSettled s → IsCutTurn who door most wait fault s a old t b new → FoundBy who old new
  cut_finds who is {door = door} {most = most} {wait = wait} fault {t = t} {a = a} {b = b} {old = old}
      {new = new}
      settled turn =
      subst (λ w. IsCutTurn w door most wait fault s a old t b new
      → FoundBy w old new) (sym is) (cut_found settled) turn
