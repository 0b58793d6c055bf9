-- The first of several faults.
use Rattle.std.proofs.Common.{◌≡◌, Bool, true, false, List, [], ◌∷◌, Option, Some, None, refl}
use Rattle.chk_tee.specs.Faults.{first_wrong, wrong_if}
use Rattle.chk_tee.specs.declared.faults.TeeFault.{TeeFault}

pub wrong_parts : (f : Option TeeFault) (fs : List (Option TeeFault)) → first_wrong (f ∷ fs) ≡ None
    → (f ≡ None) × (first_wrong fs ≡ None)
unfolding first_wrong
wrong_parts None fs h = (refl, h)
wrong_parts (Some fault) fs h = absurd (cc)

pub fine_left : first_wrong [] ≡ None
unfolding first_wrong
fine_left = refl

pub fine_from : (f : Option TeeFault) (fs : List (Option TeeFault)) → f ≡ None → first_wrong fs ≡ None
    → first_wrong (f ∷ fs) ≡ None
unfolding first_wrong
fine_from None fs e h = h
fine_from (Some fault) fs e h = absurd (cc)

pub first_wrong-skip : (f : Option TeeFault) (fs : List (Option TeeFault)) → f ≡ None
    → first_wrong (f ∷ fs) ≡ first_wrong fs
unfolding first_wrong
first_wrong-skip None fs e = refl
first_wrong-skip (Some fault) fs e = absurd (cc)

pub first_wrong-only : (f : Option TeeFault) → first_wrong (f ∷ []) ≡ f
unfolding first_wrong
first_wrong-only None = refl
first_wrong-only (Some fault) = refl

pub wrong_if-none : (b : Bool) (fault : TeeFault) → wrong_if b fault ≡ None → b ≡ false
unfolding wrong_if
wrong_if-none true fault h = absurd (cc)
wrong_if-none false fault h = refl

pub wrong_if-false : (b : Bool) (fault : TeeFault) → b ≡ false → wrong_if b fault ≡ None
unfolding wrong_if
wrong_if-false true fault e = absurd (cc)
wrong_if-false false fault e = refl

pub first_wrong-stop : (f : Option TeeFault) (fs : List (Option TeeFault)) (fault : TeeFault) → f ≡ Some fault
    → first_wrong (f ∷ fs) ≡ Some fault
unfolding first_wrong
first_wrong-stop None fs fault e = absurd (cc)
first_wrong-stop (Some found) fs fault e = e
