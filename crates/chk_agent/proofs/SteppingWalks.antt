-- What the reads of a step say of what it gave, and of the generations that it passed.
use Rattle.std.proofs.Common.{◌≡◌, inl, inr, ℕ, suc, ◌+◌, ◌≤◌, ◌<◌, Bool, true, false, ◌||◌, ◌==◌}
use Rattle.std.proofs.Common.{not, List, [], ◌∷◌, length, take, min, Some, Option, None, Result, Ok}
use Rattle.std.proofs.Common.{Err, ap, sym, subst, ◌∙◌, refl, arith, is_some, eqb-true}
use Rattle.std.proofs.Common.{if◌then◌else◌}
use Rattle.std.specs.Prelude.{IsTrue}
use Rattle.std.proofs.lemmas.List.{length-take}
use Rattle.chk_site.specs.declared.acts.CallFault.{CallFault}
use Rattle.chk_site.specs.declared.acts.CallFault.TheVariants.{Failed, Missing, Exists, Short}
use Rattle.chk_site.specs.declared.acts.CallFault.TheVariants.{NoMemory}
use Rattle.chk_site.specs.declared.acts.OutsideFault.{OutsideFault}
use Rattle.chk_site.specs.declared.suffixes.Piece.{Piece}
use Rattle.chk_site.specs.declared.limits.TheConstants.{PIECE_BYTES}
use Rattle.chk_site.specs.Suffixes.{is_after, is_suffix}
use Rattle.chk_site.specs.History.{History}
use Rattle.chk_tail.specs.declared.step.Step.{Step}
use Rattle.chk_tail.specs.declared.step.Step.TheVariants.{Bytes, AtEnd, Shrank}
use Rattle.chk_tail.specs.Taking.{taken, taken_of, to_last_newline}
use Rattle.chk_tail.specs.Walks.{Spot, Way, behind, mark_behind, given_marks, EndsAfter, Decides}
use Rattle.chk_tail.specs.Walks.{Walks, decided, walked, unkept}

-- how many bytes a step gave
abbrev pub given_size : Step → ℕ
given_size (Bytes bytes end) = length bytes
given_size step = 0

-- they are some, and end so many bytes behind this offset
abbrev pub GivenFrom : ℕ → Step → Type 0
GivenFrom o (Bytes bytes end) = (0 < length bytes) × (end ≡ o + length bytes)
GivenFrom o step = Unit {0}

-- the suffix comes after the other one
pub record Follows (after now : Option (List ℕ)) : Type 0 where
  pub suffix : List ℕ
  pub is : now ≡ Some suffix
  pub known : IsTrue (is_suffix suffix)
  pub later : IsTrue (is_after after suffix)

-- generations that were passed over from an offset up to another: each suffix comes after the one before it
abbrev pub Passes : Bool → Option (List ℕ) → ℕ → ℕ → List Spot → Type 0
Passes rotated after low high [] = Unit {0}
Passes rotated after low high (m ∷ marks) =
    IsTrue rotated × Follows after m.after × (low ≤ m.first) × (m.first ≤ high) × Passes rotated m.after m.first high marks

pub record WalkEnds (way : Way) (step : Step) (p next : Spot) (marks : List Spot) : Type 0 where
  pub offset : next.offset ≡ p.offset + given_size step
  pub given : GivenFrom p.offset step
  pub passed : Passes way.rotated p.after p.offset next.offset marks

newline_within : (piece : List ℕ) → to_last_newline piece ≤ length piece
newline_within [] = omega arith
newline_within (b ∷ piece) = go (to_last_newline piece == 0) (b == 10) (newline_within piece)
  where
    go : (x y : Bool) → to_last_newline piece ≤ length piece
        → (if x then (if y then 1 else 0) else to_last_newline piece + 1) ≤ suc (length piece)
    go true true rest = omega arith
    go true false rest = omega arith
    go false y rest = omega (arith, rest)

taken_within : (lines ends : Bool) (piece : List ℕ) → taken lines ends piece ≤ length piece
taken_within lines ends piece = go (not lines || ends) (to_last_newline piece == 0) (length piece == PIECE_BYTES) refl
  where
    go : (x y z : Bool) → (length piece == PIECE_BYTES) ≡ z
        → (if x then length piece else if y then (if z then PIECE_BYTES else 0) else to_last_newline piece) ≤ length piece
    go true y z e = omega arith
    go false true true e = let size : length piece ≡ PIECE_BYTES = eqb-true (length piece) PIECE_BYTES e in omega (arith, size)
    go false true false e = omega arith
    go false false z e = newline_within piece

-- where some of a piece is taken
took_some : (way : Way) (p : Spot) (o : Option (List ℕ)) (n : ℕ) (bytes : List ℕ) (step : Step) (next : Spot) → n ≤ length bytes → 0 < n
    → EndsAfter way p o → step ≡ Bytes (take n bytes) (p.offset + n) → next ≡ behind p o n
    → WalkEnds way step p next (mark_behind p o n)
took_some way p o n bytes step next within some ends step_is next_is =
    subst (λ next. WalkEnds way step p next (mark_behind p o n)) (sym next_is)
    (subst (λ step. WalkEnds way step p (behind p o n) (mark_behind p o n)) (sym step_is) (by o ends))
  where
    size : length (take n bytes) ≡ n
    size = length-take n bytes ∙ (let z : min n (length bytes) ≡ n = omega (arith, within) in z)

    given : GivenFrom p.offset (Bytes (take n bytes) (p.offset + n))
    given = (omega (arith, size, some), ap (λ k. p.offset + k) (sym size))

    by : (o : Option (List ℕ)) → EndsAfter way p o → WalkEnds way (Bytes (take n bytes) (p.offset + n)) p (behind p o n) (mark_behind p o n)
    by None ends = record { offset = ap (λ k. p.offset + k) (sym size); given = given; passed = tt }
    by (Some suffix) ends = record {
      offset = ap (λ k. p.offset + k) (sym size);
      given = given;
      passed = (ends.0, record { suffix = suffix; is = refl; known = ends.1; later = ends.2 }, omega arith, omega arith, tt);
    }

abbrev the_ok : Step → Result Step OutsideFault
the_ok step = Ok step

decided_ends : (way : Way) (p : Spot) (given : Result Piece CallFault) (step : Step) (next : Spot) → Decides way p given (Ok step) next
    → WalkEnds way step p next (given_marks way.lines p given)
decided_ends way p (Ok piece) step next d = elim d.1 [
  | inl took ↦
      took_some way p piece.ended (taken_of way.lines piece) piece.bytes step next (taken_within way.lines (is_some piece.ended) piece.bytes) took.0 d.0
      (same_Ok took.1) took.2
  | inr none ↦
      none_taken step next piece.ended (taken_of way.lines piece) (same_Ok none.2) none.3 none.1
]
  where
    same_Ok : {a b : Step} → the_ok a ≡ Ok b → a ≡ b
    same_Ok e = cc

    none_taken : (step : Step) (next : Spot) (o : Option (List ℕ)) (n : ℕ) → step ≡ AtEnd → next ≡ p → o ≡ None
        → WalkEnds way step p next (mark_behind p o n)
    none_taken step next o n is at none =
        subst (λ o. WalkEnds way step p next (mark_behind p o n)) (sym none)
        (subst (λ next. WalkEnds way step p next []) (sym at)
        (subst (λ step. WalkEnds way step p p []) (sym is) (record { offset = omega arith; given = tt; passed = tt })))
decided_ends way p (Err (Short size)) step next d =
    subst (λ next. WalkEnds way step p next []) (sym d.1)
    (subst (λ step. WalkEnds way step p p []) (sym (same_Ok d.0)) (record { offset = omega arith; given = tt; passed = tt }))
  where
    same_Ok : {a b : Step} → the_ok a ≡ Ok b → a ≡ b
    same_Ok e = cc
decided_ends way p (Err Failed) step next d = absurd d
decided_ends way p (Err Missing) step next d = absurd d
decided_ends way p (Err Exists) step next d = absurd d
decided_ends way p (Err NoMemory) step next d = absurd d

pub walk_ends : (way : Way) (step : Step) (next p : Spot) (marks : List Spot) {old new : Option History} → Walks way (Ok step) next p marks old new
    → WalkEnds way step p next marks
walk_ends way step next p marks (decided given told d) = decided_ends way p given step next d
walk_ends way step next p marks (unkept piece some told is at) = absurd cc
walk_ends way step next p marks (walked {marks = later} piece suffix ended ends none told rest) =
    let m = behind p (Some suffix) 0 in
    let r = walk_ends way step next m later rest in
    let offset = r.offset in
    record {
      offset = offset ∙ (let z : p.offset + 0 + given_size step ≡ p.offset + given_size step = omega arith in z);
      given = given step r.given;
      passed = (ends.0, record { suffix = suffix; is = refl; known = ends.1; later = ends.2 }, omega arith, omega (arith, offset), r.passed);
    }
  where
    given : (step : Step) → GivenFrom (p.offset + 0) step → GivenFrom p.offset step
    given (Bytes bytes end) g = (g.0, g.1 ∙ (let z : p.offset + 0 + length bytes ≡ p.offset + length bytes = omega arith in z))
    given AtEnd g = tt
    given (Shrank had is) g = tt
