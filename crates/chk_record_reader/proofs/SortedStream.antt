-- A stream's heads that rise keep their order where all heads are put in order.
use Rattle.std.proofs.Common.{◌≡◌, Bool, true, false, List, [], ◌∷◌, refl, ap, sym, ◌∙◌, true≢false, if◌then◌else◌}
use Rattle.std.specs.Prelude.{filter}
use Rattle.chk_world.proofs.Each.{Each}
use Rattle.chk_record_index.specs.Order.{put_by, sort_by}

-- of those that pass, none comes before this one
abbrev pub NoneBefore : {X : Type 0} → (X → X → Bool) → (X → Bool) → X → X → Type 0
NoneBefore lt p x y = p y ≡ true → lt y x ≡ false

-- of those that pass, none comes before an earlier one
abbrev pub Rises : {X : Type 0} → (X → X → Bool) → (X → Bool) → List X → Type 0
Rises lt p [] = Unit {0}
Rises lt p (x ∷ xs) = (p x ≡ true → Each (NoneBefore lt p x) xs) × Rises lt p xs

pub each_put : {X : Type 0} (P : X → Type 0) (lt : X → X → Bool) (x : X) (ys : List X) → P x → Each P ys → Each P (put_by lt x ys)
each_put P lt x [] one all = (one, tt)
each_put P lt x (y ∷ ys) one all = go (lt y x) (each_put P lt x ys one all.1)
  where
    go : (b : Bool) → Each P (put_by lt x ys) → Each P (elim b [ true ↦ y ∷ put_by lt x ys | false ↦ x ∷ y ∷ ys ])
    go true rest = (all.0, rest)
    go false rest = (one, all)

pub each_sort : {X : Type 0} (P : X → Type 0) (lt : X → X → Bool) (xs : List X) → Each P xs → Each P (sort_by lt xs)
each_sort P lt [] all = tt
each_sort P lt (x ∷ xs) all = each_put P lt x (sort_by lt xs) all.0 (each_sort P lt xs all.1)

-- one that doesn't pass
pub put_other : {X : Type 0} (lt : X → X → Bool) (p : X → Bool) (x : X) (ys : List X) → p x ≡ false → filter p (put_by lt x ys) ≡ filter p ys
put_other lt p x [] other = rw other refl
put_other lt p x (y ∷ ys) other = go (lt y x) (put_other lt p x ys other)
  where
    go : (b : Bool) → filter p (put_by lt x ys) ≡ filter p ys
        → filter p (elim b [ true ↦ y ∷ put_by lt x ys | false ↦ x ∷ y ∷ ys ]) ≡ filter p (y ∷ ys)
    go true rest = ap (λ l. if p y then y ∷ l else l) rest
    go false rest = rw other refl

-- one that passes, and before which no other comes
pub put_first : {X : Type 0} (lt : X → X → Bool) (p : X → Bool) (x : X) (ys : List X) → p x ≡ true → Each (NoneBefore lt p x) ys
    → filter p (put_by lt x ys) ≡ x ∷ filter p ys
put_first lt p x [] mine none = rw mine refl
put_first lt p x (y ∷ ys) mine none = go (lt y x) (p y) refl refl (put_first lt p x ys mine none.1)
  where
    go : (b q : Bool) → lt y x ≡ b → p y ≡ q → filter p (put_by lt x ys) ≡ x ∷ filter p ys
        → filter p (elim b [ true ↦ y ∷ put_by lt x ys | false ↦ x ∷ y ∷ ys ]) ≡ x ∷ (if q then y ∷ filter p ys else filter p ys)
    go true true before passes rest = absurd (true≢false (sym before ∙ none.0 passes))
    go true false before passes rest = rw passes rest
    go false q before passes rest = rw mine (ap (λ b. x ∷ (if b then y ∷ filter p ys else filter p ys)) passes)

pub sorted_keeps : {X : Type 0} (lt : X → X → Bool) (p : X → Bool) (xs : List X) → Rises lt p xs → filter p (sort_by lt xs) ≡ filter p xs
sorted_keeps lt p [] rises = refl
sorted_keeps lt p (x ∷ xs) rises = go (p x) refl (sorted_keeps lt p xs rises.1)
  where
    go : (b : Bool) → p x ≡ b → filter p (sort_by lt xs) ≡ filter p xs
        → filter p (put_by lt x (sort_by lt xs)) ≡ (if b then x ∷ filter p xs else filter p xs)
    go true mine rest =
        put_first lt p x (sort_by lt xs) mine (each_sort (NoneBefore lt p x) lt xs (rises.0 mine)) ∙ ap (λ l. x ∷ l) rest
    go false other rest = put_other lt p x (sort_by lt xs) other ∙ rest
