-- What the calls of the buffers leave of their state.
use Rattle.std.proofs.Common.{◌≡◌, ℕ, ◌==◌, Bool, true, false, List, [], ◌∷◌, Option, Some, None, Result, Ok, Err, ap, ◌∙◌}
use Rattle.std.specs.Prelude.{MatchBool}
use Rattle.chk_site.specs.declared.acts.OutsideFault.{OutsideFault}
use Rattle.chk_site.specs.History.{History}
use Rattle.chk_site.specs.Site.{Asked}
use Rattle.chk_wahead.specs.declared.fault.WaheadFault.{WaheadFault}
use Rattle.chk_wahead.specs.Faults.{wahead_result}
use Rattle.chk_wahead.specs.Scripts.{Did, IsSpent, PutsIn, Puts, first_calls}
use Rattle.chk_wahead.specs.States.{State, Held, left, last_number}

-- the process is the same, and where it was done, no call was refused
pub record IsSame (result : Result (Unit {0}) WaheadFault) (s u : State) : Type 0 where
  pub who : u.who ≡ s.who
  pub ready : result ≡ Ok tt → u.ready ≡ s.ready

pub done_same : {calls : List Asked} {s : State} {number : ℕ} {held : Option Held}
    {result : Result (Unit {0}) WaheadFault} {u : State}
    {old new : Option History} → Did calls s number held result u old new → IsSame result s u
done_same {s = s} {number = number} {held = held} {result = result} {u = u} d = by d.outside
    d.result_is d.state_is
  where
    by : (o : Result (Unit {0}) OutsideFault) → result ≡ wahead_result o → u ≡ left s number held o
        → IsSame result s u
    by (Ok value) r e = record {
      who = ap (λ (x : State). x.who) e;
      ready = λ is. ap
          (λ (x : State). x.ready) e;
    }
    by (Err fault) r e = record { who = ap (λ (x : State). x.who) e; ready = λ is. absurd (cc) }

-- the buffer, where it was done
pub done_held : {calls : List Asked} {s : State} {number : ℕ} {held : Option Held}
    {result : Result (Unit {0}) WaheadFault} {u : State}
    {old new : Option History} → Did calls s number held result u old new → result ≡ Ok tt
    → u.held ≡ held
done_held {s = s} {number = number} {held = held} {result = result} {u = u} d is = by d.outside
    d.result_is d.state_is
  where
    by : (o : Result (Unit {0}) OutsideFault) → result ≡ wahead_result o → u ≡ left s number held o
        → u.held ≡ held
    by (Ok value) r e = ap (λ (x : State). x.held) e
    by (Err fault) r e = absurd (cc)

none_same : {result : Result (Unit {0}) WaheadFault} (s u : State) → u ≡ s → IsSame result s u
none_same s u e = record {
  who = ap (λ (x : State). x.who) e;
  ready = λ is. ap
      (λ (x : State). x.ready) e;
}

first_same : (b : Bool) (s : State) (bytes : List ℕ) (number : ℕ) (held : Option Held)
    (result : Result (Unit {0}) WaheadFault) (u : State)
    (old new : Option History) → MatchBool b (IsSpent s result u old new)
    (Did (first_calls s.who number bytes) s number held result u old new)
    → IsSame result s u
first_same true s bytes number held result u old new spent = none_same s u spent.state_is
first_same false s bytes number held result u old new did = done_same did

in_same : (at : Option Held) (s : State) (bytes : List ℕ) (result : Result (Unit {0}) WaheadFault)
    (u : State) (old new : Option History)
    → PutsIn at s bytes result u old new → IsSame result s u
in_same None s bytes result u old new did = first_same (s.number == last_number) s bytes _ _ result
    u old new did
in_same (Some h) s bytes result u old new did = done_same did

pub put_same : (s : State) (bytes : List ℕ) (result : Result (Unit {0}) WaheadFault) (u : State)
    (old new : Option History) → Puts s bytes result u old new → IsSame result s u
put_same s [] result u old new did = none_same s u did.state_is
put_same s (b ∷ bytes) result u old new did = in_same s.held s (b ∷ bytes) result u
    old new did

pub then_same : {first result : Result (Unit {0}) WaheadFault} {s u v : State} → first ≡ Ok tt
    → IsSame first s u → IsSame result u v → IsSame result s v
then_same fine one two = record {
  who = two.who ∙ one.who;
  ready = λ is. two.ready is
      ∙ one.ready fine;
}
