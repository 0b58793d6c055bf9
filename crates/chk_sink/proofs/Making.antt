-- What stands after the parts of the making of the next sink.
use Rattle.std.proofs.Common.{◌≡◌, ◌||◌, ℕ, Bool, true, false, None, Result, Ok, Err, inl, inr, ap, sym, subst, refl, ◌∙◌, arith, is_some}
use Rattle.std.specs.Prelude.{IsTrue}
use Rattle.chk_bytes.specs.Stems.{is_stem}
use Rattle.chk_site.specs.declared.acts.Call.TheVariants.{Create}
use Rattle.chk_site.specs.declared.acts.CallFault.{CallFault}
use Rattle.chk_site.specs.declared.acts.CallFault.TheVariants.{Failed, NoMemory as NoRoom}
use Rattle.chk_site.specs.declared.acts.OutsideFault.{OutsideFault}
use Rattle.chk_site.specs.declared.acts.OutsideFault.TheVariants.{Outside as site_failed, NoMemory as no_memory}
use Rattle.chk_site.specs.Site.{Ends, OutsideCause}
use Rattle.chk_sink.specs.declared.fault.SinkFault.{SinkFault}
use Rattle.chk_sink.specs.declared.current.Current.{Current}
use Rattle.chk_sink.specs.Faults.{SinkCause, sink_fault}
use Rattle.chk_sink.specs.SinkFields.{IsOfStem, first_of, longer, writing_of}
use Rattle.chk_sink.specs.States.{State, IsSameStart, last_stem, next_stem, counted, one_more, begun}
use Rattle.chk_sink.specs.Puts.{IsPlaced, GoesOnInNext, LeavesInNext}

same_more : (s : State) → IsSameStart s (one_more s)
same_more s = record { collector = refl; born = refl; rotate = refl; number = omega arith }

-- a creation was counted
pub counted_same : (s st : State) (given : Result (Unit {0}) CallFault) → st ≡ counted s given
    → IsSameStart s st
counted_same s st given e = subst (IsSameStart s) (sym e) (by given)
  where
    by : (given : Result (Unit {0}) CallFault) → IsSameStart s (counted s given)
    by (Ok v) = same_more s
    by (Err NoRoom) = record { collector = refl; born = refl; rotate = refl; number = omega arith }
    by (Err fault) = same_more s

-- it ended the work
pub uncreated_leaves : (s st : State) (given : Result (Unit {0}) CallFault) (fault : OutsideFault)
    → Ends Create given fault → st ≡ counted s given
    → LeavesInNext s st (sink_fault fault)
uncreated_leaves s st (Ok v) fault ends e = absurd ends
uncreated_leaves s st (Err Failed) fault ends e =
    subst (λ f. LeavesInNext s st (sink_fault f)) (sym ends)
    (record {
      current = ap (λ (t : State). t.current) e;
      abandoned = ap
          (λ (t : State). t.abandoned) e;
    })
uncreated_leaves s st (Err NoRoom) fault ends e =
    subst (λ f. LeavesInNext s st (sink_fault f)) (sym ends) (inl e)
uncreated_leaves s st (Err other) fault ends e = absurd ends

-- an append to the new sink did
pub unfilled_leaves : (s st : State) (fault : OutsideFault) → st ≡ one_more s
    → LeavesInNext s st (sink_fault fault)
unfilled_leaves s st (site_failed call) e =
    record {
      current = ap (λ (t : State). t.current) e;
      abandoned = ap
          (λ (t : State). t.abandoned) e;
    }
unfilled_leaves s st no_memory e = inr (record {
  number = ap (λ (t : State). t.number) e;
  abandoned = record {
    current = ap (λ (t : State). t.current) e;
    abandoned = ap
        (λ (t : State). t.abandoned) e;
  };
})

-- the new sink is its stem's, behind its header
pub first_is_of_stem : (s st : State) (current : Current) (n : ℕ) → st ≡ one_more s
    → IsTrue (is_stem (next_stem s))
    → current ≡ longer (first_of (next_stem s)) n → IsOfStem (last_stem st) current
first_is_of_stem s st current n e good is =
    subst (λ (t : State). IsOfStem (last_stem t) current) (sym e)
    (subst (IsOfStem (next_stem s)) (sym is)
    (record {
      stem = refl;
      good = good;
      marker = refl;
      begun = omega arith;
      ordered =
          omega arith;
    }))

pub or_none : (a : Bool) → (a || false) ≡ a
or_none true = refl
or_none false = refl

-- all was done
module _ (s st : State) (current : Current) (abandoned : Bool) (n : ℕ)
    (e : st ≡ begun (one_more s) (writing_of current) abandoned)
    (is : current ≡ longer (first_of (next_stem s)) n) where
  pub begun_same : IsSameStart s st
  begun_same = subst (IsSameStart s) (sym e)
      (record { collector = refl; born = refl; rotate = refl; number = omega arith })

  pub begun_placed : IsPlaced st (current.stem, current.size)
  begun_placed = subst (λ t. IsPlaced t (current.stem, current.size)) (sym e)
      (ap (λ (k : Current). k.stem) is, refl)

  pub begun_on : s.current ≡ None → abandoned ≡ s.abandoned → GoesOnInNext s st
  begun_on none kept =
      subst (GoesOnInNext s) (sym e)
      (record {
        number = refl;
        abandoned = kept ∙ (sym (or_none s.abandoned)
            ∙ ap (λ o. s.abandoned || is_some o) (sym none));
        current = (ap (λ (k : Current). k.marked) is, ap (λ (k : Current). k.seen) is);
      })

-- ---- the count of faults

pub outside_cause : {T : Type 0} (before now : ℕ) (fault : OutsideFault)
    (result : Result T SinkFault) → result ≡ Err (sink_fault fault)
    → OutsideCause {T = Unit {0}} before now (Err fault) → SinkCause before now result
outside_cause {T = T} before now fault result e cause =
    subst (SinkCause before now) (sym e) (by fault cause)
  where
    by : (fault : OutsideFault) → OutsideCause {T = Unit {0}} before now (Err fault)
        → SinkCause {T = T} before now (Err (sink_fault fault))
    by (site_failed call) cause = cause
    by no_memory cause = cause

-- after calls that were done
pub later_cause : {T : Type 0} (before mid now : ℕ) (fault : OutsideFault)
    (result : Result T SinkFault) → mid ≡ before → result ≡ Err (sink_fault fault)
    → OutsideCause {T = Unit {0}} mid now (Err fault) → SinkCause before now result
later_cause before mid now fault result same e cause =
    outside_cause before now fault result e
    (subst (λ n. OutsideCause {T = Unit {0}} n now (Err fault)) same cause)
