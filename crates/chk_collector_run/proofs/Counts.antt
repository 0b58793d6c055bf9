-- How the counts of failed calls join, and which call failed last.
use Rattle.std.proofs.Common.{inl, inr, ℕ, ◌≤◌, ◌++◌, Option, Result, Ok, Err, arith, sym, subst, refl, ◌∙◌}
use Rattle.chk_site.specs.declared.acts.ActAnswer.{ActAnswer}
use Rattle.chk_site.specs.declared.acts.CallFault.{CallFault}
use Rattle.chk_site.specs.declared.acts.CallFault.TheVariants.{Failed, Missing, Exists, Short, NoMemory as no_memory}
use Rattle.chk_site.specs.declared.acts.OutsideFault.TheVariants.{Outside as site_failed}
use Rattle.chk_site.specs.History.{History}
use Rattle.chk_site.specs.Site.{Adds, Asked, answered, Calls, Rose}
use Rattle.chk_site.proofs.LastCalls.{last_of_both, ended_last}
use Rattle.chk_site.proofs.Runs.{adds_then}
use Rattle.chk_sink.specs.declared.fault.SinkFault.{SinkFault}
use Rattle.chk_sink.specs.declared.fault.SinkFault.TheVariants.{Outside, Damaged, Spent, NoMemory}
use Rattle.chk_sink.specs.Faults.{FailsLast, SinkCause}
use Rattle.chk_sink.specs.States.{State, IsSameStart}
use Rattle.chk_collector.specs.Outcomes.{Outcome, Refused, BadPost, Lines, Fails, OutcomeCause}
use Rattle.chk_collector.specs.Replies.{MayHaveRisen}
use Rattle.chk_collector_run.specs.Messages.{EndsBy}
use Rattle.chk_collector_run.specs.Legality.{TurnCause}

-- ---- the same start

pub same_start : (s : State) → IsSameStart s s
same_start s = record { collector = refl; born = refl; rotate = refl; number = omega arith }

-- ---- counts

pub not_risen : (n : ℕ) → MayHaveRisen n n
not_risen n = inl refl

on : (a b : ℕ) → MayHaveRisen a b → a ≤ b
on a b (inl e) = omega (arith, e)
on a b (inr r) = r.1

pub risen_then : (a b c : ℕ) → MayHaveRisen a b → MayHaveRisen b c → MayHaveRisen a c
risen_then a b c (inl e) (inl f) = inl (f ∙ e)
risen_then a b c (inl e) (inr r) = inr (omega (arith, e, r.0), omega (arith, e, r.1))
risen_then a b c (inr r) later =
    let more = on b c later in
    inr (omega (arith, r.0, more), omega (arith, r.1, more))

pub rose_then : (a b c : ℕ) → MayHaveRisen a b → Rose b c × (b ≤ c) → Rose a c × (a ≤ c)
rose_then a b c first rose =
    let early = on a b first in
    (omega (arith, early, rose.0), omega (arith, early, rose.1))

-- what a refusal of the sinks says of the count
pub sink_risen : {T : Type 0} (a b : ℕ) (result : Result T SinkFault) → SinkCause a b result
    → MayHaveRisen a b
sink_risen a b (Ok value) e = inl e
sink_risen a b (Err (Outside call)) r = inr r
sink_risen a b (Err (Damaged name at)) e = inl e
sink_risen a b (Err (Spent born)) e = inl e
sink_risen a b (Err NoMemory) e = inl e

-- what a reply says of it
pub outcome_risen : (a b : ℕ) (outcome : Outcome) → OutcomeCause a b outcome → MayHaveRisen a b
outcome_risen a b (Refused fault) e = inl e
outcome_risen a b (BadPost fault) e = inl e
outcome_risen a b (Lines acks) e = inl e
outcome_risen a b (Fails fault) cause = sink_risen {T = Unit {0}} a b (Err fault) cause

pub turn_risen : (a b : ℕ) (result : Result (Unit {0}) SinkFault) → TurnCause a b result
    → MayHaveRisen a b
turn_risen a b (Ok value) r = r
turn_risen a b (Err (Outside call)) r = inr r
turn_risen a b (Err (Damaged name at)) r = r
turn_risen a b (Err (Spent born)) r = r
turn_risen a b (Err NoMemory) r = r

-- behind messages of which some may have failed
pub sink_after : (T : Type 0) (a b c : ℕ) (fault : SinkFault) → MayHaveRisen a b
    → SinkCause {T = T} b c (Err fault)
    → TurnCause a c (Err fault)
sink_after T a b c (Outside call) first rose = rose_then a b c first rose
sink_after T a b c (Damaged name at) first e = risen_then a b c first (inl e)
sink_after T a b c (Spent born) first e = risen_then a b c first (inl e)
sink_after T a b c NoMemory first e = risen_then a b c first (inl e)

pub turn_after : (a b c : ℕ) (result : Result (Unit {0}) SinkFault) → MayHaveRisen a b
    → TurnCause b c result → TurnCause a c result
turn_after a b c (Ok value) first r = risen_then a b c first r
turn_after a b c (Err (Outside call)) first r = rose_then a b c first r
turn_after a b c (Err (Damaged name at)) first r = risen_then a b c first r
turn_after a b c (Err (Spent born)) first r = risen_then a b c first r
turn_after a b c (Err NoMemory) first r = risen_then a b c first r

-- ---- the call that failed is the last one

late : {T : Type 0} (result : Result T SinkFault) (b a history : History)
    → FailsLast result b (a ++ history)
    → FailsLast result (b ++ a) history
late (Ok value) b a history last = tt
late {T = T} (Err (Outside call)) b a history last = last_of_both {T = T} (Err (site_failed call))
    b a history last
late (Err (Damaged name at)) b a history last = tt
late (Err (Spent born)) b a history last = tt
late (Err NoMemory) b a history last = tt

pub last_then : {T : Type 0} (result : Result T SinkFault) {P : History → History
    → Type 0} {old mid new : Option History}
    → Adds old mid P → Adds mid new (FailsLast result) → Adds old new (FailsLast result)
last_then result p q = adds_then (FailsLast result) p q (λ b a history x y. late result a b history
    y)

-- a call that ended a turn
pub ended_so : {V : Type 0} (T : Type 0) {q : Asked} (how : V
    → ActAnswer) (given : Result V CallFault) (fault : SinkFault)
    (added history : History) → EndsBy q.call given fault
    → Calls q (answered how given) added history
    → FailsLast {T = T} (Err fault) added history
ended_so T how (Ok value) fault added history ends calls = absurd ends
ended_so T {q = q} how (Err Failed) fault added history ends calls =
    subst (λ f. FailsLast {T = T} (Err f) added history) (sym ends)
    (ended_last T {q = q} how (Err Failed) (site_failed q.call) refl calls)
ended_so T how (Err Missing) fault added history ends calls = absurd ends
ended_so T how (Err Exists) fault added history ends calls = absurd ends
ended_so T how (Err (Short size)) fault added history ends calls = absurd ends
ended_so T how (Err no_memory) fault added history ends calls =
    subst (λ f. FailsLast {T = T} (Err f) added history) (sym ends) tt
