-- Loops over the adaptors.
use Rattle.std.proofs.Common.{◌≡◌, ℕ, zero, suc, ◌+◌, ◌≤◌, ◌<◌, Bool, true, false, ◌||◌, ◌&&◌, ◌==◌}
use Rattle.std.proofs.Common.{not, List, [], ◌∷◌, length, Some, ap, sym, ◌∙◌, refl, arith, eqb-true}
use Rattle.std.proofs.Common.{eq-eqb, bytes_eq, if◌then◌else◌}
use Rattle.std.specs.Prelude.{slice_get, slice_set, slice_index}
use Rattle.std.proofs.lemmas.Option.{same_Some, none-some}
use Rattle.chk_agent_adaptor.specs.Adaptors.{Adaptor, is_past, stopped}
use Rattle.chk_agent_delivery.specs.Turns.{is_one_of}
use Rattle.chk_agent.specs.Adds.{named_in}
use Rattle.chk_agent.specs.Commands.{live_from, all_past}

-- the first of a name is there, and isn't past
pub record IsThere (xs : List Adaptor) (j : ℕ) : Type 0 where
  pub adaptor : Adaptor
  pub at : slice_get xs j ≡ Some adaptor
  pub below : j < length xs

pub named_there : (name : List ℕ) (i x : ℕ) (xs : List Adaptor) → named_in name i xs ≡ Some x
    → (j : ℕ) × (x ≡ i + j) × IsThere xs j
named_there name i x [] e = absurd (none-some x e)
named_there name i x (a ∷ xs) e = go (not (is_past a.phase) && bytes_eq a.name name) e
    (named_there name (i + 1) x xs)
  where
    go : (b : Bool) → (if b then Some i else named_in name (i + 1) xs) ≡ Some x
        → (named_in name (i + 1) xs ≡ Some x → (j : ℕ) × (x ≡ (i + 1) + j) × IsThere xs j)
        → (j : ℕ) × (x ≡ i + j) × IsThere (a ∷ xs) j
    go true e rest = (
      0,
      (let is = same_Some i x e in omega
          (arith, is)),
      record { adaptor = a; at = refl; below = omega arith },
    )
    go false e rest =
        let r = rest e in
        let is = r.1 in
        let below = r.2.below in (
          suc r.0,
          omega
              (arith, is),
          record {
            adaptor = r.2.adaptor;
            at = r.2.at;
            below = omega
                (arith, below);
          },
        )

-- ---- those that aren't past

-- each of the first so many that isn't past is so at its committed end
abbrev pub past_to : List ℕ → ℕ → ℕ → List Adaptor → List Adaptor
past_to committed i n [] = []
past_to committed i zero (a ∷ xs) = a ∷ xs
past_to committed i (suc n) (a ∷ xs) =
    (if is_past a.phase then a else stopped (slice_index committed i) a) ∷ past_to committed
    (suc i) n xs

pub past_none : (committed : List ℕ) (i : ℕ) (xs : List Adaptor) → past_to committed i 0 xs ≡ xs
past_none committed i [] = refl
past_none committed i (a ∷ xs) = refl

pub past_size : (committed : List ℕ) (i n : ℕ) (xs : List Adaptor)
    → length (past_to committed i n xs) ≡ length xs
past_size committed i n [] = refl
past_size committed i zero (a ∷ xs) = refl
past_size committed i (suc n) (a ∷ xs) = ap suc (past_size committed (suc i) n xs)

-- those behind are as they were
pub past_behind : (committed : List ℕ) (i n j : ℕ) (xs : List Adaptor) → n ≤ j
    → slice_get (past_to committed i n xs) j ≡ slice_get xs j
past_behind committed i n j [] behind = refl
past_behind committed i zero j (a ∷ xs) behind = refl
past_behind committed i (suc n) zero (a ∷ xs) behind = absurd (let z : ⊥ = omega
    (arith, behind) in z)
past_behind committed i (suc n) (suc j) (a ∷ xs) behind = past_behind committed (suc i) n j xs
    (omega (arith, behind))

pub past_kept : (committed : List ℕ) (i n : ℕ) (xs : List Adaptor) (a : Adaptor)
    → slice_get xs n ≡ Some a → is_past a.phase ≡ true
    → past_to committed i n xs ≡ past_to committed i (suc n) xs
past_kept committed i n [] a at is = absurd (none-some a at)
past_kept committed i zero (x ∷ xs) a at is =
    ap (λ b. (if b then x else stopped (slice_index committed i) x) ∷ xs) (sym is
    ∙ ap (λ (k : Adaptor). is_past k.phase) (sym (same_Some x a at)))
    ∙ ap (λ rest. (if is_past x.phase then x else stopped (slice_index committed i) x) ∷ rest)
    (sym (past_none committed (suc i) xs))
past_kept committed i (suc n) (x ∷ xs) a at is =
    ap (λ rest. (if is_past x.phase then x else stopped (slice_index committed i) x) ∷ rest)
    (past_kept committed (suc i) n xs a at is)

pub past_next : (committed : List ℕ) (i n k : ℕ) (xs : List Adaptor) (a : Adaptor)
    → slice_get xs n ≡ Some a → is_past a.phase ≡ false
    → k ≡ i + n → slice_set (past_to committed i n xs) n (stopped
    (slice_index committed k) a) ≡ past_to committed i (suc n) xs
past_next committed i n k [] a at is same = absurd (none-some a at)
past_next committed i zero k (x ∷ xs) a at is same =
    let here : k ≡ i = omega (arith, same) in
    let one : x ≡ a = same_Some x a at in
    ap (λ j. stopped (slice_index committed j) a ∷ xs) here
    ∙ (ap (λ (y : Adaptor). stopped (slice_index committed i) y ∷ xs) (sym one)
    ∙ (ap (λ b. (if b then x else stopped (slice_index committed i) x) ∷ xs) (sym is
    ∙ ap (λ (y : Adaptor). is_past y.phase) (sym one))
    ∙ ap (λ rest. (if is_past x.phase then x else stopped (slice_index committed i) x) ∷ rest)
    (sym (past_none committed (suc i) xs))))
past_next committed i (suc n) k (x ∷ xs) a at is same =
    ap (λ rest. (if is_past x.phase then x else stopped (slice_index committed i) x) ∷ rest)
    (past_next committed (suc i) n k xs a at is (omega (arith, same)))

pub live_few : (i : ℕ) (xs : List Adaptor) → length (live_from i xs) ≤ length xs
live_few i [] = omega arith
live_few i (a ∷ xs) = go (is_past a.phase) (live_few (i + 1) xs)
  where
    go : (b : Bool) → length (live_from (i + 1) xs) ≤ length xs
        → length (if b then live_from (i + 1) xs else i ∷ live_from (i + 1) xs) ≤ suc (length xs)
    go true few = omega (arith, few)
    go false few = omega (arith, few)

-- their numbers are from here on
live_above : (i k : ℕ) (xs : List Adaptor) → k < i → is_one_of (live_from i xs) k ≡ false
live_above i k [] below = refl
live_above i k (a ∷ xs) below = go (is_past a.phase) (live_above (i + 1) k xs (omega
    (arith, below)))
  where
    go : (b : Bool) → is_one_of (live_from (i + 1) xs) k ≡ false
        → is_one_of (if b then live_from (i + 1) xs else i ∷ live_from (i + 1) xs) k ≡ false
    go true rest = rest
    go false rest = other (i == k) (λ e. let z : i ≡ k = eqb-true i k e in omega
        (arith, z, below)) rest
      where
        other : (b : Bool) → (b ≡ true → ⊥) → {c : Bool} → c ≡ false → (b || c) ≡ false
        other true not_so e = absurd (not_so refl)
        other false not_so e = e

pub live_is : (i j : ℕ) (xs : List Adaptor) (a : Adaptor) → slice_get xs j ≡ Some a
    → is_one_of (live_from i xs) (i + j) ≡ not (is_past a.phase)
live_is i j [] a at = absurd (none-some a at)
live_is i zero (x ∷ xs) a at =
    go (is_past x.phase) (live_above (i + 1) (i + 0) xs (omega arith))
    ∙ ap (λ (k : Adaptor). not (is_past k.phase)) (same_Some x a at)
  where
    self : (k : ℕ) → (k == k + 0) ≡ true
    self k = eq-eqb k (k + 0) (omega arith)

    go : (b : Bool) → is_one_of (live_from (i + 1) xs) (i + 0) ≡ false
        → is_one_of (if b then live_from (i + 1) xs else i ∷ live_from (i + 1) xs) (i + 0) ≡ not b
    go true rest = rest
    go false rest = ap (λ b. b || is_one_of (live_from (i + 1) xs) (i + 0)) (self i)
live_is i (suc j) (x ∷ xs) a at =
    go (is_past x.phase) (ap (is_one_of (live_from (i + 1) xs)) (let z : i + suc j ≡
    (i + 1) + j = omega arith in z) ∙ live_is (i + 1) j xs a at)
  where
    go : (b : Bool) {c : Bool} → is_one_of (live_from (i + 1) xs) (i + suc j) ≡ c
        → is_one_of (if b then live_from (i + 1) xs else i ∷ live_from (i + 1) xs) (i + suc j) ≡ c
    go true rest = rest
    go false rest = other (i == i + suc j) (λ e. let z : i ≡ i + suc j = eqb-true i
        (i + suc j) e in omega (arith, z)) rest
      where
        other : (b : Bool) → (b ≡ true → ⊥) → {c d : Bool} → c ≡ d → (b || c) ≡ d
        other true not_so e = absurd (not_so refl)
        other false not_so e = e

-- where just those of these numbers aren't past
past_as : (gone committed : List ℕ) (i : ℕ) (xs : List Adaptor)
    → ((j : ℕ) (a : Adaptor) → slice_get xs j ≡ Some a
    → is_one_of gone (i + j) ≡ not (is_past a.phase))
    → past_to committed i (length xs) xs ≡ all_past gone committed i xs
past_as gone committed i [] each = refl
past_as gone committed i (x ∷ xs) each =
    ap (λ rest. (if is_past x.phase then x else stopped (slice_index committed i) x) ∷ rest)
    (ap (λ k. past_to committed k (length xs) xs) (let z : suc i ≡ i + 1 = omega arith in z)
    ∙ past_as gone committed (i + 1) xs (λ j a at. ap (is_one_of gone) (let z :
    (i + 1) + j ≡ i + suc j = omega arith in z) ∙ each (suc j) a at))
    ∙ ap (λ y. y ∷ all_past gone committed (i + 1) xs)
    (turned (is_past x.phase) (is_one_of gone i) (ap (is_one_of gone)
    (let z : i ≡ i + 0 = omega arith in z) ∙ each 0 x refl))
  where
    turned : (p g : Bool) → g ≡ not p
        → (if p then x else stopped (slice_index committed i) x) ≡ (if g then stopped
        (slice_index committed i) x else x)
    turned true true e = absurd (let z : ⊥ = cc in z)
    turned true false e = refl
    turned false true e = refl
    turned false false e = absurd (let z : ⊥ = cc in z)

pub past_all : (committed : List ℕ) (xs : List Adaptor)
    → past_to committed 0 (length xs) xs ≡ all_past (live_from 0 xs) committed 0 xs
past_all committed xs =
    past_as (live_from 0 xs) committed 0 xs (λ j a at. live_is 0 j xs a at)

-- one alone
past_other : (x : ℕ) (committed : List ℕ) (i : ℕ) (xs : List Adaptor) → x < i
    → all_past (x ∷ []) committed i xs ≡ xs
past_other x committed i [] below = refl
past_other x committed i (a ∷ xs) below =
    ap (λ y. y ∷ all_past (x ∷ []) committed (i + 1) xs) (other (x == i)
    (λ e. let z : x ≡ i = eqb-true x i e in omega (arith, z, below)))
    ∙ ap (λ rest. a ∷ rest) (past_other x committed (i + 1) xs (omega (arith, below)))
  where
    other : (b : Bool) → (b ≡ true → ⊥)
        → (if b || false then stopped (slice_index committed i) a else a) ≡ a
    other true not_so = absurd (not_so refl)
    other false not_so = refl

pub past_one : (x : ℕ) (committed : List ℕ) (i j : ℕ) (xs : List Adaptor) (a : Adaptor)
    → slice_get xs j ≡ Some a → x ≡ i + j
    → slice_set xs j (stopped (slice_index committed x) a) ≡ all_past (x ∷ []) committed i xs
past_one x committed i j [] a at is = absurd (none-some a at)
past_one x committed i zero (y ∷ xs) a at is =
    let here : x ≡ i = omega (arith, is) in
    ap (λ k. stopped (slice_index committed k) a ∷ xs) here
    ∙ (ap (λ (k : Adaptor). stopped (slice_index committed i) k ∷ xs) (sym (same_Some y a at))
    ∙ (ap (λ rest. stopped (slice_index committed i) y ∷ rest) (sym (past_other x committed
    (i + 1) xs (omega (arith, here))))
    ∙ ap (λ b. (if b || false then stopped (slice_index committed i) y else y) ∷ all_past
    (x ∷ []) committed (i + 1) xs)
    (sym (eq-eqb x i here))))
past_one x committed i (suc j) (y ∷ xs) a at is =
    ap (λ rest. y ∷ rest) (past_one x committed (i + 1) j xs a at (omega (arith, is)))
    ∙ ap (λ z. z ∷ all_past (x ∷ []) committed (i + 1) xs) (other (x == i)
    (λ e. let z : x ≡ i = eqb-true x i e in omega (arith, z, is)))
  where
    other : (b : Bool) → (b ≡ true → ⊥)
        → y ≡ (if b || false then stopped (slice_index committed i) y else y)
    other true not_so = absurd (not_so refl)
    other false not_so = refl

-- ---- the loop over them

module _ (committed : List ℕ) (xs now : List Adaptor) (n : ℕ)
    (so_far : now ≡ past_to committed 0 n xs) where
  -- the next one is as it was
  pub past_as_was : slice_get xs n ≡ slice_get now n
  past_as_was =
      sym (past_behind committed 0 n n xs (omega arith)) ∙ ap (λ ys. slice_get ys n) (sym so_far)

  pub one_past : (a : Adaptor) → slice_get now n ≡ Some a → {b : Bool} → b ≡ is_past a.phase
      → b ≡ false
      → slice_set now n (stopped (slice_index committed n) a) ≡ past_to committed 0 (n + 1) xs
  one_past a at asked live =
      ap (λ ys. slice_set ys n (stopped (slice_index committed n) a)) so_far
      ∙ (past_next committed 0 n n xs a (past_as_was ∙ at) (sym asked ∙ live) (omega arith)
      ∙ ap (λ k. past_to committed 0 k xs) (let z : suc n ≡ n + 1 = omega arith in z))

  pub none_past : (a : Adaptor) → slice_get now n ≡ Some a → {b : Bool} → b ≡ is_past a.phase
      → b ≡ true → now ≡ past_to committed 0 (n + 1) xs
  none_past a at asked gone =
      so_far
      ∙ (past_kept committed 0 n xs a (past_as_was ∙ at) (sym asked ∙ gone)
      ∙ ap (λ k. past_to committed 0 k xs) (let z : suc n ≡ n + 1 = omega arith in z))
