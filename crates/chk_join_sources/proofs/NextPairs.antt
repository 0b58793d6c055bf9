-- The next pair of two archives' ends.
use Rattle.std.proofs.Common.{◌≡◌, ℕ, ◌+◌, ◌<◌, ◌≤◌, Bool, true, false, List, [], ◌∷◌, length, map, drop, refl, ap, ap₂, sym, ◌∙◌, arith, get_or}
use Rattle.std.specs.Prelude.{if◌then◌else◌, Result, Option, Some, None, Ok, Err, IfOk, IfNone}
use Rattle.chk_record_index.specs.declared.fault.JobFault.{JobFault}
use Rattle.chk_join_sources.specs.declared.difference.Difference.{Difference}
use Rattle.std.proofs.lemmas.List.{drop_more, get_or-map}
use Rattle.chk_chunk.specs.Keys.{stream_lt}
use Rattle.chk_world.specs.Books.{End}
use Rattle.chk_record_index.specs.Heads.{Head}
use Rattle.chk_book.specs.declared.lists.End.{End as EndStruct}
use Rattle.chk_book.specs.Views.{end_view}
use Rattle.chk_record_reader.specs.OnePass.{no_end, end_at}
use Rattle.chk_join_sources.specs.declared.pairs.Turn.TheVariants.{Left, Right, Both}
use Rattle.chk_join_sources.specs.declared.pairs.Places.{Places}
use Rattle.chk_join_sources.specs.declared.plan.Plan.{Plan}
use Rattle.chk_join_sources.specs.Pairs.{Pair, left_alone, right_alone, paired, pairs_of, turn_of, pairs_left}
use Rattle.chk_join_sources.specs.Plans.{HasTakenBlock, HasTakenPair, HasPassedOne}

-- ---- the first pair, by the turn

left_of : (t u : Bool) (x y z : List Pair) → (if t then Left else (if u then Right else Both)) ≡ Left
    → (if t then x else (if u then y else z)) ≡ x
left_of true u x y z e = refl
left_of false true x y z e = cc
left_of false false x y z e = cc

right_of : (t u : Bool) (x y z : List Pair) → (if t then Left else (if u then Right else Both)) ≡ Right
    → (if t then x else (if u then y else z)) ≡ y
right_of true u x y z e = cc
right_of false true x y z e = refl
right_of false false x y z e = cc

both_of : (t u : Bool) (x y z : List Pair) → (if t then Left else (if u then Right else Both)) ≡ Both
    → (if t then x else (if u then y else z)) ≡ z
both_of true u x y z e = cc
both_of false true x y z e = cc
both_of false false x y z e = refl

left_first : (a : End) (xs ys : List End) → turn_of (a ∷ xs) ys ≡ Left → pairs_of (a ∷ xs) ys ≡ left_alone a ∷ pairs_of xs ys
left_first a xs [] is = refl
left_first a xs (b ∷ ys) is =
    left_of (stream_lt a.stream b.stream) (stream_lt b.stream a.stream) (left_alone a ∷ pairs_of xs (b ∷ ys))
    (right_alone b ∷ pairs_of (a ∷ xs) ys) (paired a b ∷ pairs_of xs ys) is

right_first : (xs : List End) (b : End) (ys : List End) → turn_of xs (b ∷ ys) ≡ Right
    → pairs_of xs (b ∷ ys) ≡ right_alone b ∷ pairs_of xs ys
right_first [] b ys is = refl
right_first (a ∷ xs) b ys is =
    right_of (stream_lt a.stream b.stream) (stream_lt b.stream a.stream) (left_alone a ∷ pairs_of xs (b ∷ ys))
    (right_alone b ∷ pairs_of (a ∷ xs) ys) (paired a b ∷ pairs_of xs ys) is

both_first : (a : End) (xs : List End) (b : End) (ys : List End) → turn_of (a ∷ xs) (b ∷ ys) ≡ Both
    → pairs_of (a ∷ xs) (b ∷ ys) ≡ paired a b ∷ pairs_of xs ys
both_first a xs b ys is =
    both_of (stream_lt a.stream b.stream) (stream_lt b.stream a.stream) (left_alone a ∷ pairs_of xs (b ∷ ys))
    (right_alone b ∷ pairs_of (a ∷ xs) ys) (paired a b ∷ pairs_of xs ys) is

-- ---- the pairs from a place on

pub at_place : (es : List End) (k : ℕ) → k < length es → drop k es ≡ end_at es k ∷ drop (k + 1) es
at_place es k below = drop_more es k no_end below

module _ (ls rs : List End) (old new : Places) where
  pub left_passed : old.left < length ls → Left ≡ turn_of (drop old.left ls) (drop old.right rs) → new.left ≡ old.left + 1
      → new.right ≡ old.right → pairs_left ls rs old ≡ left_alone (end_at ls old.left) ∷ pairs_left ls rs new
  left_passed below is left right =
      let at = at_place ls old.left below in
      let ys = drop old.right rs in
      ap (λ l. pairs_of l ys) at
      ∙ (left_first (end_at ls old.left) (drop (old.left + 1) ls) ys (sym (ap (λ l. turn_of l ys) at) ∙ sym is)
      ∙ ap₂ (λ (i k : ℕ). left_alone (end_at ls old.left) ∷ pairs_of (drop i ls) (drop k rs)) (sym left) (sym right))

  pub right_passed : old.right < length rs → Right ≡ turn_of (drop old.left ls) (drop old.right rs) → new.left ≡ old.left
      → new.right ≡ old.right + 1 → pairs_left ls rs old ≡ right_alone (end_at rs old.right) ∷ pairs_left ls rs new
  right_passed below is left right =
      let at = at_place rs old.right below in
      let xs = drop old.left ls in
      ap (λ l. pairs_of xs l) at
      ∙ (right_first xs (end_at rs old.right) (drop (old.right + 1) rs) (sym (ap (λ l. turn_of xs l) at) ∙ sym is)
      ∙ ap₂ (λ (i k : ℕ). right_alone (end_at rs old.right) ∷ pairs_of (drop i ls) (drop k rs)) (sym left) (sym right))

  pub both_passed : old.left < length ls → old.right < length rs → Both ≡ turn_of (drop old.left ls) (drop old.right rs)
      → new.left ≡ old.left + 1 → new.right ≡ old.right + 1
      → pairs_left ls rs old ≡ paired (end_at ls old.left) (end_at rs old.right) ∷ pairs_left ls rs new
  both_passed below within is left right =
      let at = at_place ls old.left below in
      let of = at_place rs old.right within in
      ap₂ pairs_of at of
      ∙ (both_first (end_at ls old.left) (drop (old.left + 1) ls) (end_at rs old.right) (drop (old.right + 1) rs)
      (sym (ap₂ turn_of at of) ∙ sym is)
      ∙ ap₂ (λ (i k : ℕ). paired (end_at ls old.left) (end_at rs old.right) ∷ pairs_of (drop i ls) (drop k rs)) (sym left) (sym right))

  module _ (hs js : List Head) (before after : Plan) where
    pub pass_left : old.left < length ls → old.right ≤ length rs → Left ≡ turn_of (drop old.left ls) (drop old.right rs)
        → new.left ≡ old.left + 1 → new.right ≡ old.right → HasTakenBlock hs (end_at ls old.left) false before after
        → HasPassedOne hs js ls rs old new before after
    pass_left below within is left right taken = (
      left_alone (end_at ls old.left),
      record {
        choice = record { from_right = false; block = taken.0 };
        is = record { side = refl; block = taken.1 };
        taken = taken.2;
        left_low = omega (arith, left);
        left_high = omega (arith, left, below);
        right_low = omega (arith, right);
        right_high = omega (arith, right, within);
        on = omega (arith, left, right);
        pairs = left_passed below is left right;
      },
    )

    pub pass_right : old.right < length rs → old.left ≤ length ls → Right ≡ turn_of (drop old.left ls) (drop old.right rs)
        → new.left ≡ old.left → new.right ≡ old.right + 1 → HasTakenBlock js (end_at rs old.right) true before after
        → HasPassedOne hs js ls rs old new before after
    pass_right below within is left right taken = (
      right_alone (end_at rs old.right),
      record {
        choice = record { from_right = true; block = taken.0 };
        is = record { side = refl; block = taken.1 };
        taken = taken.2;
        left_low = omega (arith, left);
        left_high = omega (arith, left, within);
        right_low = omega (arith, right);
        right_high = omega (arith, right, below);
        on = omega (arith, left, right);
        pairs = right_passed below is left right;
      },
    )

    pub pass_both : old.left < length ls → old.right < length rs → Both ≡ turn_of (drop old.left ls) (drop old.right rs)
        → new.left ≡ old.left + 1 → new.right ≡ old.right + 1
        → HasTakenPair hs js (paired (end_at ls old.left) (end_at rs old.right)) before after
        → HasPassedOne hs js ls rs old new before after
    pass_both below within is left right taken = (
      paired (end_at ls old.left) (end_at rs old.right),
      record {
        choice = taken.0;
        is = taken.1;
        taken = taken.2;
        left_low = omega (arith, left);
        left_high = omega (arith, left, below);
        right_low = omega (arith, right);
        right_high = omega (arith, right, within);
        on = omega (arith, left, right);
        pairs = both_passed below within is left right;
      },
    )

    -- the same, where it went well
    pub left_if : (result : Result (Option Difference) JobFault) → old.left < length ls → old.right ≤ length rs
        → Left ≡ turn_of (drop old.left ls) (drop old.right rs) → new.right ≡ old.right
        → IfOk result (λ d. HasTakenBlock hs (end_at ls old.left) false before after) → IfOk result (λ d. new.left ≡ old.left + 1)
        → IfOk result (λ d. IfNone d (HasPassedOne hs js ls rs old new before after))
    left_if (Ok None) below within is right taken left = pass_left below within is left right taken
    left_if (Ok (Some d)) below within is right taken left = tt
    left_if (Err fault) below within is right taken left = tt

    pub right_if : (result : Result (Option Difference) JobFault) → old.right < length rs → old.left ≤ length ls
        → Right ≡ turn_of (drop old.left ls) (drop old.right rs) → new.left ≡ old.left
        → IfOk result (λ d. HasTakenBlock js (end_at rs old.right) true before after) → IfOk result (λ d. new.right ≡ old.right + 1)
        → IfOk result (λ d. IfNone d (HasPassedOne hs js ls rs old new before after))
    right_if (Ok None) below within is left taken right = pass_right below within is left right taken
    right_if (Ok (Some d)) below within is left taken right = tt
    right_if (Err fault) below within is left taken right = tt

    pub both_if : (result : Result (Option Difference) JobFault) → old.left < length ls → old.right < length rs
        → Both ≡ turn_of (drop old.left ls) (drop old.right rs)
        → IfOk result (λ d. IfNone d (HasTakenPair hs js (paired (end_at ls old.left) (end_at rs old.right)) before after))
        → IfOk result (λ d. IfNone d ((new.left ≡ old.left + 1) × (new.right ≡ old.right + 1)))
        → IfOk result (λ d. IfNone d (HasPassedOne hs js ls rs old new before after))
    both_if (Ok None) below within is taken next = pass_both below within is next.0 next.1 taken
    both_if (Ok (Some d)) below within is taken next = tt
    both_if (Err fault) below within is taken next = tt

-- behind the end at a place
abbrev pub past : Places → ℕ → ℕ → Places
past at i k = record { left = i; right = k; left_head = at.left_head; right_head = at.right_head }
