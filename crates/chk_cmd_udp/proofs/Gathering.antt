-- The takings of a turn, one after another.
use Rattle.std.proofs.Common.{◌≡◌, ℕ, suc, ◌+◌, ◌-◌, ◌<◌, ◌≤◌, Bool, true, List, length, Option, Some, None, Result, Ok, Err, sym, subst, refl, ◌∙◌, arith}
use Rattle.chk_site.specs.declared.acts.OutsideFault.{OutsideFault}
use Rattle.chk_site.specs.declared.acts.Who.{Who}
use Rattle.chk_site.specs.declared.suffixes.Taking.{Taking}
use Rattle.chk_site.specs.History.{History}
use Rattle.chk_wahead.specs.declared.fault.WaheadFault.{WaheadFault}
use Rattle.chk_wahead.specs.Faults.{wahead_fault}
use Rattle.chk_wahead.specs.Scripts.{Puts}
use Rattle.chk_wahead.specs.States.{State, length_of}
use Rattle.chk_cmd_udp.specs.declared.tally.Tally.{Tally}
use Rattle.chk_cmd_udp.specs.Takings.{TakesOnce, Further, enough, full, none, one, counted, Gathers, came}
use Rattle.chk_cmd_udp.proofs.Keeping.{IsSame, put_same, then_same}

same_here : (s : State) → IsSame (Ok tt) s s
same_here s = record { who = refl; ready = λ is. refl }

same_cut : (fault : WaheadFault) (s : State) → IsSame (Err fault) s s
same_cut fault s = record { who = refl; ready = λ is. refl }

-- what the further takings leave
pub further_same : {who : Who} {door : List ℕ} {rotate left : ℕ} {s u : State} {t w : Tally}
    {result : Result (Unit {0}) WaheadFault}
    {old new : Option History} → Further who door rotate left s t old result u w new
    → IsSame result s u
further_same {s = s} enough = same_here s
further_same {s = s} (full long) = same_here s
further_same {s = s} (none short call) = same_here s
further_same {s = s} (one {u = u} taking short call put rest) = then_same refl
    (put_same s taking.bytes (Ok tt) u _ _ put) (further_same rest)
further_same {s = s} (Further.untaken fault short call) = same_cut (wahead_fault fault) s
further_same {s = s} (Further.unput {u = u} taking fault short call put) = put_same s taking.bytes
    (Err fault) u _ _ put

-- What is known once so many further datagrams were taken and put: what is taken from here on is
-- taken from the start on.
pub record FurtherSoFar (who : Who) (door : List ℕ) (rotate most n : ℕ) (first s : State)
    (begun t : Tally)
    (old now : Option History) (before count : ℕ) : Type 0 where
  pub later : (left : ℕ) → left + n ≡ most
      → (result : Result (Unit {0}) WaheadFault) (u : State) (w : Tally)
      (end : Option History) → Further who door rotate left s t now result u w end
      → Further who door rotate most first begun old result u w end
  pub ready : s.ready ≡ true
  pub same : count ≡ before

pub further_begins : (who : Who) (door : List ℕ) (rotate most : ℕ) (s : State) (t : Tally)
    (now : Option History) (count : ℕ)
    → s.ready ≡ true → FurtherSoFar who door rotate most 0 s s t t now now count count
further_begins who door rotate most s t now count ready = record {
  later = λ left all result u w end taken.
      let e : left ≡ most = omega (arith, all) in
      subst (λ k. Further who door rotate k s t now result u w end) e taken;
  ready = ready;
  same = refl;
}

module _ {who : Who} {door : List ℕ} {rotate most n : ℕ} {first s : State} {begun t : Tally}
    {old now : Option History}
    {before count : ℕ} (far : FurtherSoFar who door rotate most n first s begun t old now before
    count) where
  pub further_over : n ≡ most → Further who door rotate most first begun old (Ok tt) s t now
  further_over all = far.later 0 (omega (arith, all)) (Ok tt) s t now enough

  module _ (left : n < most) where
    more : (result : Result (Unit {0}) WaheadFault) (u : State) (w : Tally) (end : Option History)
        → Further who door rotate (suc (most - (n + 1))) s t now result u w end
        → Further who door rotate most first begun old result u w end
    more = far.later (suc (most - (n + 1))) (omega (arith, left))

    pub further_full : rotate ≤ length_of s.held
        → Further who door rotate most first begun old (Ok tt) s t now
    further_full long = more (Ok tt) s t now (full long)

    module _ (short : length_of s.held < rotate) where
      pub further_none : {end : Option History} → TakesOnce who door 0 (Ok None) now end
          → Further who door rotate most first begun old (Ok tt) s t end
      further_none call = more (Ok tt) s t _ (none short call)

      pub further_untaken : (fault : OutsideFault) {end : Option History}
          → TakesOnce who door 0 (Err fault) now end
          → Further who door rotate most first begun old (Err (wahead_fault fault)) s t end
      further_untaken fault call = more (Err (wahead_fault fault)) s t _
          (Further.untaken fault short call)

      module _ (taking : Taking) {mid : Option History}
          (call : TakesOnce who door 0 (Ok (Some taking)) now mid) where
        pub further_unput : (fault : WaheadFault) (u : State) (w : Tally) {end : Option History}
            → w ≡ counted t (length taking.bytes)
            → Puts s taking.bytes (Err fault) u mid end
            → Further who door rotate most first begun old (Err fault) u w end
        further_unput fault u w {end = end} tallied put =
            subst (λ (x : Tally). Further who door rotate most first begun old (Err fault) u x end)
            (sym tallied)
            (more (Err fault) u (counted t (length taking.bytes)) end
            (Further.unput taking fault short call put))

        pub further_goes_on : (u : State) (w : Tally) {new : Option History} (later : ℕ)
            → w ≡ counted t (length taking.bytes)
            → Puts s taking.bytes (Ok tt) u mid new → later ≡ count
            → FurtherSoFar who door rotate most (n + 1) first u begun w old new before later
        further_goes_on u w {new = new} later tallied put same = record {
          later = λ left all result v x end rest.
              let e : suc left + n ≡ most = omega (arith, all) in
              far.later (suc left) e result v x end
              (one taking short call put (subst (λ (y : Tally). Further who door rotate left u y new
              result v x end) tallied rest));
          ready = (put_same s taking.bytes (Ok tt) u _ _ put).ready refl ∙ far.ready;
          same = same ∙ far.same;
        }

-- what all takings of a turn leave
pub gathers_same : {who : Who} {door : List ℕ} {rotate further : ℕ} {s u : State} {t w : Tally}
    {result : Result Bool WaheadFault}
    {old new : Option History} → Gathers who door rotate further s t old result u w new
    → (u.who ≡ s.who) × ((b : Bool) → result ≡ Ok b → u.ready ≡ s.ready)
gathers_same (Gathers.silent call) = (refl, λ b is. refl)
gathers_same {s = s} (Gathers.heard {u = u} {v = v} {result = result} taking call put rest) =
    let one = put_same s taking.bytes (Ok tt) u _ _ put in
    let two = further_same rest in
    (two.who ∙ one.who, λ b is. two.ready (came_fine result b is) ∙ one.ready refl)
  where
    came_fine : (result : Result (Unit {0}) WaheadFault) (b : Bool) → came result ≡ Ok b
        → result ≡ Ok tt
    came_fine (Ok value) b is = refl
    came_fine (Err fault) b is = absurd (cc)
gathers_same (Gathers.untaken fault call) = (refl, λ b is. refl)
gathers_same {s = s} (Gathers.unput {u = u} taking fault call put) =
    ((put_same s taking.bytes (Err fault) u _ _ put).who, λ b is. absurd (cc))

-- a datagram that was counted and not put ends the takings
pub unput_at : {who : Who} {door : List ℕ} {rotate further : ℕ} {s u : State} {t w : Tally}
    {old mid new : Option History} (taking : Taking) (fault : WaheadFault)
    → w ≡ counted t (length taking.bytes)
    → TakesOnce who door 1000 (Ok (Some taking)) old mid
    → Puts s taking.bytes (Err fault) u mid new
    → Gathers who door rotate further s t old (Err fault) u w new
unput_at {who = who} {door = door} {rotate = rotate} {further = further} {s = s} {u = u} {t = t}
    {old = old} {new = new} taking fault tallied call put =
    subst (λ (x : Tally). Gathers who door rotate further s t old (Err fault) u x new) (sym tallied)
    (Gathers.unput taking fault call put)

-- one that was put, and further ones behind it
pub heard_at : {who : Who} {door : List ℕ} {rotate further : ℕ} {s u v : State} {t x w : Tally}
    {result : Result (Unit {0}) WaheadFault} {old mid next new : Option History} (taking : Taking)
    → x ≡ counted t (length taking.bytes)
    → TakesOnce who door 1000 (Ok (Some taking)) old mid
    → Puts s taking.bytes (Ok tt) u mid next
    → Further who door rotate further u x next result v w new
    → Gathers who door rotate further s t old (came result) v w new
heard_at {who = who} {door = door} {rotate = rotate} {further = further} {u = u} {v = v} {w = w}
    {result = result} {next = next} {new = new} taking tallied call put rest =
    Gathers.heard taking call put
    (subst (λ (y : Tally). Further who door rotate further u y next result v w new) tallied rest)
