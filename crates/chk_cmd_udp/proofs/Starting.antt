-- What a start that answered Ok leaves.
use Rattle.std.proofs.Common.{◌≡◌, ℕ, true, Option, None, ◌<◌, Result, Ok, Err, refl, ap, sym, subst}
use Rattle.chk_site.specs.declared.acts.Who.{Who}
use Rattle.chk_site.specs.declared.acts.OutsideFault.{OutsideFault}
use Rattle.chk_site.specs.History.{History}
use Rattle.chk_wahead.specs.declared.fault.WaheadFault.{WaheadFault}
use Rattle.chk_wahead.specs.States.{State, Held, length_of}
use Rattle.chk_wahead.specs.Starting.{number_in, plan_of}
use Rattle.chk_wahead.specs.Telling.{Starts, unbegun, unlooked, damaged, unnamed, settled, started, start_result}

-- the writer has no buffer yet, and may go on
pub record IsBegun (who : Who) (s : State) : Type 0 where
  pub who_is : s.who ≡ who
  pub ready : s.ready ≡ true
  pub held : s.held ≡ None

by_started : (who : Who) (number : ℕ) (s : State) → started who number ≡ s → IsBegun who s
by_started who number s e = record {
  who_is = sym (ap (λ (x : State). x.who) e);
  ready = sym (ap (λ (x : State). x.ready) e);
  held = sym (ap (λ (x : State). x.held) e);
}

by_outside : (who : Who) (number : ℕ) (outside : Result (Unit {0}) OutsideFault) (s : State)
    → start_result who number outside ≡ Ok s
    → IsBegun who s
by_outside who number (Ok value) s is = by_started who number s
    (let e : started who number ≡ s = cc in e)
by_outside who number (Err fault) s is = absurd (cc)

begun_by : {who : Who} {result : Result State WaheadFault} {old new : Option History} (s : State)
    → Starts who result old new
    → result ≡ Ok s → IsBegun who s
begun_by s unbegun is = absurd (cc)
begun_by s (unlooked looks) is = absurd (cc)
begun_by s (damaged looks e) is = absurd (cc)
begun_by s (unnamed looks e) is = absurd (cc)
begun_by {who = who} s (settled {found = found} {outside = outside} looks e made) is =
    by_outside who (number_in (plan_of found)) outside s is

pub begun : {who : Who} {old new : Option History} (s : State) → Starts who (Ok s) old new
    → IsBegun who s
begun s starts = begun_by s starts refl

-- it is shorter than any limit
pub begun_small : (limit : ℕ) (who : Who) (s : State) → 0 < limit → IsBegun who s
    → length_of s.held < limit
begun_small limit who s some is =
    subst (λ (h : Option Held). length_of h < limit) (sym is.held) some
