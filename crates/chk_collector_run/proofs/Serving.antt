-- The takings of a turn and the clock, for the process under its name.
use Rattle.std.proofs.Common.{◌≡◌, ℕ, suc, ◌+◌, ◌-◌, ◌<◌, List, [], ◌∷◌, Option, Some, None, Result, Ok, Err, sym, subst, ◌∙◌, arith}
use Rattle.std.specs.Prelude.{IsTrue}
use Rattle.chk_bytes.specs.declared.NoMemory.{NoMemory}
use Rattle.chk_bytes.specs.Stems.{is_collector}
use Rattle.chk_site.specs.declared.acts.Call.TheVariants.{Take, Clock}
use Rattle.chk_site.specs.declared.acts.CallFault.{CallFault}
use Rattle.chk_site.specs.declared.acts.Who.{Who}
use Rattle.chk_site.specs.declared.suffixes.Taking.{Taking}
use Rattle.chk_site.specs.History.{History}
use Rattle.chk_site.specs.Runs.{Leads}
use Rattle.chk_site.specs.Site.{Adds, asked, answered, sized, taking_given, Calls, CallsSome}
use Rattle.chk_site.proofs.Leads.{leads_then, leads_none}
use Rattle.chk_site.proofs.Runs.{adds_as}
use Rattle.chk_world.specs.Places.{Talking}
use Rattle.chk_sink.specs.declared.fault.SinkFault.{SinkFault}
use Rattle.chk_sink.specs.declared.fault.SinkFault.TheVariants.{NoMemory as wanting}
use Rattle.chk_sink.specs.Faults.{FailsLast}
use Rattle.chk_sink.specs.Held.{Matches}
use Rattle.chk_sink.specs.States.{State, IsSameStart, process}
use Rattle.chk_collector.specs.Replies.{MayHaveRisen}
use Rattle.chk_tee_sender.specs.declared.Subscriber.{Subscriber}
use Rattle.chk_collector_run.specs.Legality.{HasTaken}
use Rattle.chk_collector_run.specs.Messages.{EndsBy, IsAnswered, wait_behind, IsTakenUpTo, enough, none, one, untaken, unanswered}
use Rattle.chk_collector_run.proofs.Counts.{same_start, not_risen, risen_then, ended_so, last_then}
use Rattle.chk_collector.proofs.PutLoop.{same_then as start_then}
use Rattle.chk_collector_run.proofs.Talking.{took, untook}
use Rattle.chk_collector_run.proofs.Turning.{same_process}

pub named_at : (s : State) (who : Who) → who ≡ process s → IsTrue (is_collector who.name)
    → IsTrue (is_collector s.collector)
named_at s who is named = subst (λ (w : Who). IsTrue (is_collector w.name)) is named

-- the taking waited so long and gave this
abbrev Taken : Who → List ℕ → ℕ → Result (Option Taking) CallFault → Option History
    → Option History → Type 0
Taken who door wait given old new = Adds old new
    (CallsSome (λ of. asked who Take (door ∷ []) wait 0) (λ of. answered (taking_given of) given))

module _ (stamped : List (List ℕ)) (s : State) (who : Who) (is : who ≡ process s)
    (named : IsTrue (is_collector who.name)) (door : List ℕ) (wait : ℕ) where
  by_s : (given : Result (Option Taking) CallFault) {old new : Option History}
      → Taken who door wait given old new → Taken (process s) door wait given old new
  by_s given {old = old} {new = new} = subst (λ w. Taken w door wait given old new) is

  -- none was taken
  pub untaken_told : (given : Result (Option Taking) CallFault) {old new : Option History}
      → Taken who door wait given old new
      → Adds old new (Leads (Talking stamped (process s)) (Matches stamped s) (Matches stamped s))
  untaken_told given call =
      untook stamped s (named_at s who is named) door wait given (by_s given call)

  -- a message was taken, and then it was answered
  pub taken_told : (taking : Taking) (u : State) {old mid new : Option History}
      → Taken who door wait (Ok (Some taking)) old mid
      → Adds mid new (Leads (Talking stamped (process s))
      (HasTaken stamped s taking.number taking.bytes) (Matches stamped u))
      → Adds old new (Leads (Talking stamped (process s)) (Matches stamped s) (Matches stamped u))
  taken_told taking u call told =
      leads_then (took stamped s (named_at s who is named) door wait taking
      (by_s (Ok (Some taking)) call)) told

-- the clock's failure is the last one
pub clock_last : (who : Who) (given : Result ℕ CallFault) (fault : SinkFault)
    {P : History → History → Type 0} {old taken new : Option History} → Adds old taken P
    → EndsBy Clock given fault
    → Adds taken new (Calls (asked who Clock [] 0 0) (answered sized given))
    → Adds old new (FailsLast {T = Unit {0}} (Err fault))
clock_last who given fault first ends call =
    last_then {T = Unit {0}} (Err fault) first (adds_as (FailsLast {T = Unit {0}} (Err fault)) call
    (λ a h calls. ended_so (Unit {0}) {q = asked who Clock [] 0 0} sized given fault a h ends calls))

-- ---- the takings, one after another

-- what is known once so many messages were taken and answered: what is taken from here on, of the
-- messages that are left and with this wait, is taken from the start on
pub record ServedSoFar (who : Who) (door : List ℕ) (most n wait : ℕ) (first s : State)
    (given a : List Subscriber) (old now : Option History) (before count : ℕ) : Type 0 where
  pub who_is : who ≡ process s
  pub later : (left : ℕ) → left + n ≡ most → (result : Result (Unit {0}) SinkFault) (u : State)
      (b : List Subscriber) (end : Option History)
      → IsTakenUpTo who door left wait s a now result u b end
      → IsTakenUpTo who door most 1000 first given old result u b end
  pub told : (stamped : List (List ℕ)) → Adds old now
      (Leads (Talking stamped (process first)) (Matches stamped first) (Matches stamped s))
  pub same : IsSameStart first s
  pub risen : MayHaveRisen before count

pub serving_begins : (who : Who) (door : List ℕ) (most : ℕ) (s : State) (a : List Subscriber)
    (now : Option History) (count : ℕ) → who ≡ process s
    → ServedSoFar who door most 0 1000 s s a a now now count count
serving_begins who door most s a now count is = record {
  who_is = is;
  later = λ left all result u b end taken.
      let e : left ≡ most = omega (arith, all) in
      subst (λ k. IsTakenUpTo who door k 1000 s a now result u b end) e taken;
  told = λ stamped. leads_none now (λ h x. x);
  same = same_start s;
  risen = not_risen count;
}

module _ {who : Who} {door : List ℕ} {most n wait : ℕ} {first s : State}
    {given a : List Subscriber} {old now : Option History} {before count : ℕ}
    (far : ServedSoFar who door most n wait first s given a old now before count) where
  -- what is told of the rest is told from the start on
  pub served_on : (stamped : List (List ℕ)) {B : History → Type 0} {new : Option History}
      → Adds now new (Leads (Talking stamped (process s)) (Matches stamped s) B)
      → Adds old new (Leads (Talking stamped (process first)) (Matches stamped first) B)
  served_on stamped {B = B} {new = new} told =
      leads_then (far.told stamped)
      (subst (λ w. Adds now new (Leads (Talking stamped w) (Matches stamped s) B))
      (same_process first s far.same) told)

  -- so many as may be were taken
  pub serving_over : n ≡ most → IsTakenUpTo who door most 1000 first given old (Ok tt) s a now
  serving_over all = far.later 0 (omega (arith, all)) (Ok tt) s a now enough

  module _ (left : n < most) where
    -- of one taking more
    one_more : (result : Result (Unit {0}) SinkFault) (u : State) (b : List Subscriber)
        (end : Option History)
        → IsTakenUpTo who door (suc (most - (n + 1))) wait s a now result u b end
        → IsTakenUpTo who door most 1000 first given old result u b end
    one_more = far.later (suc (most - (n + 1))) (omega (arith, left))

    pub serving_none : {end : Option History} → Taken who door wait (Ok None) now end
        → IsTakenUpTo who door most 1000 first given old (Ok tt) s a end
    serving_none call = one_more (Ok tt) s a _ (none call)

    pub serving_untaken : (fault : SinkFault) (gave : Result (Option Taking) CallFault)
        {end : Option History} → EndsBy Take gave fault → Taken who door wait gave now end
        → IsTakenUpTo who door most 1000 first given old (Err fault) s a end
    serving_untaken fault gave ends call = one_more (Err fault) s a _ (untaken fault gave ends call)

    pub serving_unanswered : (taking : Taking) (fault : NoMemory) (u : State) (b : List Subscriber)
        {mid end : Option History} → Taken who door wait (Ok (Some taking)) now mid
        → IsAnswered who taking.number taking.bytes s a (Err fault) mid u b end
        → IsTakenUpTo who door most 1000 first given old (Err wanting) u b end
    serving_unanswered taking fault u b call answer =
        one_more (Err wanting) u b _ (unanswered taking fault call answer)

  -- one message more was taken and answered
  pub serving_goes_on : (taking : Taking) (size : ℕ) (t : State) (b : List Subscriber)
      {mid new : Option History} (later : ℕ) → Taken who door wait (Ok (Some taking)) now mid
      → IsAnswered who taking.number taking.bytes s a (Ok size) mid t b new
      → ((stamped : List (List ℕ)) → Adds now new
      (Leads (Talking stamped (process s)) (Matches stamped s) (Matches stamped t)))
      → IsSameStart s t → MayHaveRisen count later
      → ServedSoFar who door most (n + 1) (wait_behind size) first t given b old new before later
  serving_goes_on taking size t b later call answer told same risen = record {
    who_is = far.who_is ∙ sym (same_process s t same);
    later = λ left all result u c end rest.
        let e : suc left + n ≡ most = omega (arith, all) in
        far.later (suc left) e result u c end (one taking call answer rest);
    told = λ stamped. served_on stamped (told stamped);
    same = start_then first s t far.same same;
    risen = risen_then before count later far.risen risen;
  }
