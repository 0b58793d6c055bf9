-- The order of a fill, place by place.
use Rattle.std.proofs.Common.{◌≡◌, inl, inr, ℕ, zero, suc, ◌+◌, ◌-◌, ◌≤◌, ◌<◌, List, [], ◌∷◌, ◌++◌}
use Rattle.std.proofs.Common.{Option, Some, None, ap, ◌∙◌, refl, arith, if◌then◌else◌}
use Rattle.std.specs.Prelude.{min}
use Rattle.std.proofs.lemmas.Bool.{lt-ltb, cases_lt, le-ltb}
use Rattle.chk_agent.specs.States.{from_on, fill_order}
use Rattle.chk_agent.specs.Within.{first_of, number_at}

-- the numbers from a place on, so many
abbrev pub rest_from : ℕ → ℕ → ℕ → ℕ → List ℕ
rest_from count first k zero = []
rest_from count first k (suc n) = number_at count first k ∷ rest_from count first (suc k) n

rest_low : (count first k n : ℕ) → k + n ≤ count - first → rest_from count first k n ≡ from_on (first + k) n
rest_low count first k zero few = refl
rest_low count first k (suc n) few =
    ap (λ b. (if b then first + k else k - (count - first)) ∷ rest_from count first (suc k) n)
    (lt-ltb k (count - first) (omega (arith, few)))
    ∙ ap (λ rest. (first + k) ∷ rest)
    (rest_low count first (suc k) n (omega (arith, few)) ∙ ap (λ i. from_on i n) (let z : first + suc k ≡ suc (first + k) = omega arith in z))

rest_high : (count first k n : ℕ) → count - first ≤ k → rest_from count first k n ≡ from_on (k - (count - first)) n
rest_high count first k zero past = refl
rest_high count first k (suc n) past =
    ap (λ b. (if b then first + k else k - (count - first)) ∷ rest_from count first (suc k) n) (le-ltb k (count - first) past)
    ∙ ap (λ rest. (k - (count - first)) ∷ rest)
    (rest_high count first (suc k) n (omega (arith, past))
    ∙ ap (λ i. from_on i n) (let z : suc k - (count - first) ≡ suc (k - (count - first)) = omega (arith, past) in z))

rest_both : (count first k m n : ℕ) → rest_from count first k (m + n) ≡ rest_from count first k m ++ rest_from count first (k + m) n
rest_both count first k zero n =
    (λ i. rest_from count first (same i) (less i))
  where
    same : k ≡ k + 0
    same = omega arith

    less : 0 + n ≡ n
    less = omega arith
rest_both count first k (suc m) n =
    ap (rest_from count first k) (let z : suc m + n ≡ suc (m + n) = omega arith in z)
    ∙ ap (λ rest. number_at count first k ∷ rest)
    (rest_both count first (suc k) m n
    ∙ ap (λ j. rest_from count first (suc k) m ++ rest_from count first j n) (let z : suc k + m ≡ k + suc m = omega arith in z))

order_from : (count first : ℕ) → first ≤ count → rest_from count first 0 count ≡ from_on first (count - first) ++ from_on 0 first
order_from count first few =
    ap (rest_from count first 0) (let z : count ≡ (count - first) + first = omega (arith, few) in z)
    ∙ (rest_both count first 0 (count - first) first
    ∙ (λ i. (rest_low count first 0 (count - first) (omega arith) ∙ ap (λ j. from_on j (count - first)) (let z : first + 0 ≡ first = omega arith in z)) i
    ++ (ap (λ j. rest_from count first j first) (let z : 0 + (count - first) ≡ count - first = omega arith in z)
    ∙ (rest_high count first (count - first) first (omega arith)
    ∙ ap (λ j. from_on j first)
    (let z : (count - first) - (count - first) ≡ 0 = omega arith in z))) i))

append_none : (xs : List ℕ) → xs ++ [] ≡ xs
append_none [] = refl
append_none (x ∷ xs) = ap (λ ys. x ∷ ys) (append_none xs)

from_first : (count : ℕ) → rest_from count 0 0 count ≡ from_on 0 count
from_first count =
    order_from count 0 (omega arith) ∙ (append_none (from_on 0 (count - 0)) ∙ ap (from_on 0) (let z : count - 0 ≡ count = omega arith in z))

-- the whole order
pub order_is : (count : ℕ) (last : Option ℕ) → rest_from count (first_of count last) 0 count ≡ fill_order count last
order_is count None = from_first count
order_is count (Some i) = elim (cases_lt i count) [
  | inl below ↦
      ap (λ b. rest_from count (if b then i + 1 else 0) 0 count) (lt-ltb i count below)
      ∙ (order_from count (i + 1) (omega (arith, below))
      ∙ (λ k. from_on (one k) (count - one k) ++ from_on 0 (least below k)))
  | inr past ↦
      ap (λ b. rest_from count (if b then i + 1 else 0) 0 count) (le-ltb i count past)
      ∙ (from_first count
      ∙ (λ k. from_on (suc i) (none past k) ++ from_on 0 (all past k)))
]
  where
    one : i + 1 ≡ suc i
    one = omega arith

    least : i < count → i + 1 ≡ min count (suc i)
    least below = omega (arith, below)

    none : count ≤ i → 0 ≡ count - suc i
    none past = omega (arith, past)

    all : count ≤ i → count ≡ min count (suc i)
    all past = omega (arith, past)
