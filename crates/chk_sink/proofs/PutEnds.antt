-- What stands at the ends of a put.
use Rattle.std.proofs.Common.{◌≡◌, ◌||◌, ℕ, Bool, true, false, Some, None, Result, Ok, Err, ap, sym, subst, refl, ◌∙◌, arith, is_some, if◌then◌else◌, true≢false, List}
use Rattle.std.specs.Prelude.{IsTrue, IfOk, IfErr, MatchBool}
use Rattle.chk_bytes.specs.Stems.{Stem}
use Rattle.chk_site.specs.declared.acts.OutsideFault.{OutsideFault}
use Rattle.chk_site.specs.declared.acts.OutsideFault.TheVariants.{Outside as site_failed, NoMemory as no_memory}
use Rattle.chk_site.specs.Site.{OutsideCause}
use Rattle.chk_sink.specs.declared.fault.SinkFault.{SinkFault}
use Rattle.chk_sink.specs.declared.fault.SinkFault.TheVariants.{Outside, Spent, NoMemory}
use Rattle.chk_sink.specs.Faults.{IsOutside, SinkCause, sink_result}
use Rattle.chk_sink.specs.States.{State, Writing, IsSameStart, let_go, without_full, needs_next, last_number, grown_where_done}
use Rattle.chk_sink.specs.Puts.{IsGrown, LeavesInSame, SpentExactly, GoesOn, GoesOnInSame, GoesOnInNext}
use Rattle.chk_sink.proofs.Putting.{longer_writing}
use Rattle.chk_sink.proofs.Whole.{full_number, next_needed}
use Rattle.chk_sink.proofs.Making.{or_none}

-- ---- a put into the sink that is written to

pub unchanged_same : (s : State) → IsSameStart s s
unchanged_same s = record { collector = refl; born = refl; rotate = refl; number = omega arith }

-- after its append
module _ (s st : State) (next : Writing) (made : Result (Unit {0}) OutsideFault)
    (st_is : st ≡ grown_where_done s next made) where
  pub grown_same : IsSameStart s st
  grown_same = subst (IsSameStart s) (sym st_is) (by made)
    where
      by : (made : Result (Unit {0}) OutsideFault) → IsSameStart s (grown_where_done s next made)
      by (Ok value) = record { collector = refl; born = refl; rotate = refl; number = omega arith }
      by (Err no_memory) = unchanged_same s
      by (Err (site_failed call)) = record
          { collector = refl; born = refl; rotate = refl; number = omega arith }

  pub grown_leaves : (fault : SinkFault) → sink_result made ≡ Err fault → LeavesInSame s st fault
  grown_leaves fault e = subst (λ t. LeavesInSame s t fault) (sym st_is) (by made e)
    where
      by : (made : Result (Unit {0}) OutsideFault) → sink_result made ≡ Err fault
          → LeavesInSame s (grown_where_done s next made) fault
      by (Ok value) e = absurd (cc)
      by (Err no_memory) e = subst (LeavesInSame s s) {x = NoMemory} (cc) refl
      by (Err (site_failed call)) e =
          subst (LeavesInSame s (grown_where_done s next (Err (site_failed call))))
          {x = Outside call} (cc) (record { current = refl; abandoned = refl })

  pub grown_on : (u : Unit {0}) → sink_result made ≡ Ok u → (o : Writing) → s.current ≡ Some o
      → (n : List ℕ) → next ≡ longer_writing o n
      → GoesOnInSame s st
  grown_on u e o some n is = subst (GoesOnInSame s) (sym st_is) (by made e)
    where
      by : (made : Result (Unit {0}) OutsideFault) → sink_result made ≡ Ok u
          → GoesOnInSame s (grown_where_done s next made)
      by (Ok value) e = record {
        number = refl;
        abandoned = refl;
        current = subst (λ c. IsGrown c (Some next)) (sym some)
            (subst (λ w. IsGrown (Some o) (Some w)) (sym is) (omega arith, refl, refl));
      }
      by (Err fault) e = absurd (cc)

-- a fault of the outside
pub ended_outside : (made : Result (Unit {0}) OutsideFault) (fault : SinkFault)
    → sink_result made ≡ Err fault → IsOutside fault
ended_outside (Ok value) fault e = absurd (cc)
ended_outside (Err no_memory) fault e = subst IsOutside {x = NoMemory} (cc) tt
ended_outside (Err (site_failed call)) fault e = subst IsOutside {x = Outside call} (cc) tt

-- the count of faults, by the same fault
pub grown_cause : {T : Type 0} (before now : ℕ) (made : Result (Unit {0}) OutsideFault)
    (fault : SinkFault) (result : Result T SinkFault)
    → sink_result made ≡ Err fault → result ≡ Err fault → OutsideCause before now made
    → SinkCause before now result
grown_cause {T = T} before now made fault result e is cause =
    subst (SinkCause before now) (sym is) (by made e cause)
  where
    by : (made : Result (Unit {0}) OutsideFault) → sink_result made ≡ Err fault
        → OutsideCause before now made → SinkCause {T = T} before now (Err fault)
    by (Ok value) e cause = absurd (cc)
    by (Err no_memory) e cause = subst (λ (f : SinkFault). SinkCause {T = T} before now (Err f))
        {x = NoMemory} (cc) cause
    by (Err (site_failed call)) e cause =
        subst (λ (f : SinkFault). SinkCause {T = T} before now (Err f)) {x = Outside call} (cc)
        cause

pub done_cause : (before now : ℕ) (made : Result (Unit {0}) OutsideFault) (u : Unit {0})
    → sink_result made ≡ Ok u → OutsideCause before now made
    → now ≡ before
done_cause before now (Ok value) u e cause = cause
done_cause before now (Err fault) u e cause = absurd (cc)

-- ---- a put from its begin

full_kept : (s : State) → is_some (without_full s).current ≡ true → needs_next s.current ≡ false
full_kept s some = by (needs_next s.current) some
  where
    by : (b : Bool) → is_some (if b then let_go s else s).current ≡ true → b ≡ false
    by true some = absurd (true≢false (sym some))
    by false some = refl

module _ (s mid : State) (mid_is : mid ≡ without_full s) where
  pub full_same : IsSameStart s mid
  full_same = subst (IsSameStart s) (sym mid_is) (by (needs_next s.current))
    where
      by : (b : Bool) → IsSameStart s (if b then let_go s else s)
      by true = record { collector = refl; born = refl; rotate = refl; number = omega arith }
      by false = unchanged_same s

  pub same_then : (st : State) → IsSameStart mid st → IsSameStart s st
  same_then st more =
      let first = full_same in
      record {
        collector = more.collector ∙ first.collector;
        born = more.born ∙ first.born;
        rotate = more.rotate ∙ first.rotate;
        number = omega (arith, first.number, more.number);
      }

  mid_number : mid.number ≡ s.number
  mid_number = ap (λ (t : State). t.number) mid_is ∙ full_number s

  needed : mid.current ≡ None → IsTrue (needs_next s.current)
  needed none = next_needed s (sym (ap (λ (t : State). t.current) mid_is) ∙ none)

  pub lets_go : mid.current ≡ None → mid ≡ let_go s
  lets_go none = mid_is ∙ ap (λ b. if b then let_go s else s) (needed none)

  -- there is no number for a next sink
  pub spent_by : mid.current ≡ None → mid.number ≡ last_number → (born : ℕ) → born ≡ mid.born
      → SpentExactly {T = Stem × ℕ} s (Err (Spent born))
  spent_by none last born b = record {
    where_spent = λ x. ap (λ n. Err (Spent n)) (b ∙ full_same.born);
    only = λ n e. (needed none, sym mid_number ∙ last);
  }

  -- or there is one
  pub unspent : (result : Result (Stem × ℕ) SinkFault)
      → (mid.current ≡ None → mid.number ≡ last_number → ⊥) → IfErr result IsOutside
      → SpentExactly s result
  unspent result one only = record {
    where_spent = λ x. absurd (one
        (ap (λ (t : State). t.current) mid_is ∙ ap (λ b. (if b then let_go s else s).current) x.0)
        (mid_number ∙ x.1));
    only = λ n e. absurd (subst (λ r. IfErr r IsOutside) e only);
  }

  -- the put went into the sink that is written to
  pub goes_same : (st : State) (result : Result (Stem × ℕ) SinkFault) → is_some mid.current ≡ true
      → IfOk result (λ _. GoesOnInSame mid st)
      → IfOk result (λ _. GoesOn s st)
  goes_same st (Err fault) some on = tt
  goes_same st (Ok placed) some on =
      let kept = full_kept s (sym (ap (λ (t : State). is_some t.current) mid_is) ∙ some) in
      subst (λ b. MatchBool b (GoesOnInNext s st) (GoesOnInSame s st)) (sym kept)
      (subst (λ m. GoesOnInSame m st) (mid_is ∙ ap (λ b. if b then let_go s else s) kept) on)

  -- or it made the next one
  pub goes_next : (st : State) (result : Result (Stem × ℕ) SinkFault) → mid.current ≡ None
      → IfOk result (λ _. GoesOnInNext mid st)
      → IfOk result (λ _. GoesOn s st)
  goes_next st (Err fault) none on = tt
  goes_next st (Ok placed) none on =
      let more = subst (λ m. GoesOnInNext m st) (lets_go none) on in
      subst (λ b. MatchBool b (GoesOnInNext s st) (GoesOnInSame s st)) (sym (needed none))
      (record {
        number = more.number;
        abandoned =
            more.abandoned ∙ or_none (s.abandoned || is_some s.current);
        current = more.current;
      })
