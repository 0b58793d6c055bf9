-- Where lists of bytes differ, and how a comparison goes on behind bytes that are the same.
use Rattle.std.proofs.Common.{◌≡◌, ◌⊎◌, inl, inr, ℕ, zero, suc, ◌+◌, ◌≤◌, Bool, true, false, List, [], ◌∷◌, length, take, drop, Option, Some, None, ap, sym, ◌∙◌, refl, arith, if◌then◌else◌}
use Rattle.std.specs.Prelude.{◌==◌, option_map, min}
use Rattle.std.proofs.lemmas.Bool.{eq-eqb}
use Rattle.std.proofs.lemmas.List.{drop_all}
use Rattle.std.proofs.lemmas.Option.{none-some}
use Rattle.chk_join_sources.specs.Differences.{first_difference, further}

pub further_none : (o : Option ℕ) → further 0 o ≡ o
further_none None = refl
further_none (Some k) = ap Some (omega arith)

-- one more, and so many
pub further_one : (n : ℕ) (o : Option ℕ) → further n (option_map suc o) ≡ further (n + 1) o
further_one n None = refl
further_one n (Some k) = ap Some (omega arith)

one_of : (p q i : ℕ) → min p q ≤ i → (p ≤ i) ⊎ (q ≤ i)
one_of p q i h = grind arith

deeper : (n : ℕ) (o : Option ℕ) → option_map suc (further n o) ≡ further (suc n) o
deeper n None = refl
deeper n (Some k) = ap Some (omega arith)

-- so many, and so many
pub further_both : (n m : ℕ) (o : Option ℕ) → further n (further m o) ≡ further (n + m) o
further_both n m None = refl
further_both n m (Some k) = ap Some (omega arith)

unmapped : (o : Option ℕ) → option_map suc o ≡ None → o ≡ None
unmapped None e = refl
unmapped (Some k) e = absurd (none-some (suc k) (sym e))

-- equal lists don't differ
pub none_same : (a : List ℕ) → first_difference a a ≡ None
none_same [] = refl
none_same (x ∷ a) =
    ap (λ b. if b then option_map suc (first_difference a a) else Some 0) (eq-eqb x x refl) ∙ ap (option_map suc) (none_same a)

-- a list without bytes differs nowhere
pub none_left : (a b : List ℕ) → a ≡ [] → first_difference a b ≡ None
none_left a b is = ap (λ l. first_difference l b) is

none_of : (a : List ℕ) → first_difference a [] ≡ None
none_of [] = refl
none_of (x ∷ a) = refl

pub none_right : (a b : List ℕ) → b ≡ [] → first_difference a b ≡ None
none_right a b is = ap (first_difference a) is ∙ none_of a

-- fronts that don't differ are passed
pub same_front : (n : ℕ) (a b : List ℕ) → n ≤ length a → n ≤ length b → first_difference (take n a) (take n b) ≡ None
    → first_difference a b ≡ further n (first_difference (drop n a) (drop n b))
same_front zero a b h k none = sym (further_none (first_difference a b))
same_front (suc n) [] b h k none = absurd (let z : ⊥ = omega (arith, h) in z)
same_front (suc n) (x ∷ a) [] h k none = absurd (let z : ⊥ = omega (arith, k) in z)
same_front (suc n) (x ∷ a) (y ∷ b) h k none =
    go (λ e. same_front n a b (omega (arith, h)) (omega (arith, k)) e) (x == y) none
  where
    go : (first_difference (take n a) (take n b) ≡ None
        → first_difference a b ≡ further n (first_difference (drop n a) (drop n b)))
        → (t : Bool) → (if t then option_map suc (first_difference (take n a) (take n b)) else Some 0) ≡ None
        → (if t then option_map suc (first_difference a b) else Some 0) ≡ further (suc n) (first_difference (drop n a) (drop n b))
    go on true none =
        ap (option_map suc) (on (unmapped (first_difference (take n a) (take n b)) none))
        ∙ deeper n (first_difference (drop n a) (drop n b))
    go on false none = absurd (none-some 0 (sym none))

-- fronts that differ do so where the lists do
pub differ_front : (n : ℕ) (a b : List ℕ) (k : ℕ) → first_difference (take n a) (take n b) ≡ Some k
    → first_difference a b ≡ Some k
differ_front zero a b k is = absurd (none-some k is)
differ_front (suc n) [] b k is = absurd (none-some k is)
differ_front (suc n) (x ∷ a) [] k is = absurd (none-some k is)
differ_front (suc n) (x ∷ a) (y ∷ b) k is = go (λ j e. differ_front n a b j e) (x == y) is
  where
    on : ((j : ℕ) → first_difference (take n a) (take n b) ≡ Some j → first_difference a b ≡ Some j)
        → (o : Option ℕ) → first_difference (take n a) (take n b) ≡ o → option_map suc o ≡ Some k
        → option_map suc (first_difference a b) ≡ Some k
    on same None e is = absurd (none-some k is)
    on same (Some j) e is = ap (option_map suc) (same j e) ∙ is

    go : ((j : ℕ) → first_difference (take n a) (take n b) ≡ Some j → first_difference a b ≡ Some j)
        → (t : Bool) → (if t then option_map suc (first_difference (take n a) (take n b)) else Some 0) ≡ Some k
        → (if t then option_map suc (first_difference a b) else Some 0) ≡ Some k
    go same true is = on same (first_difference (take n a) (take n b)) refl is
    go same false is = is

-- where the first bytes are the same
pub same_next : (x y : ℕ) (a b : List ℕ) → (x == y) ≡ true → first_difference (x ∷ a) (y ∷ b) ≡ option_map suc (first_difference a b)
same_next x y a b e = ap (λ t. if t then option_map suc (first_difference a b) else Some 0) e

-- and where they aren't
pub other_next : (x y : ℕ) (a b : List ℕ) → (x == y) ≡ false → first_difference (x ∷ a) (y ∷ b) ≡ Some 0
other_next x y a b e = ap (λ t. if t then option_map suc (first_difference a b) else Some 0) e

-- where one is passed as a whole
pub passed_all : (i : ℕ) (a b : List ℕ) → min (length a) (length b) ≤ i → first_difference (drop i a) (drop i b) ≡ None
passed_all i a b h = go (one_of (length a) (length b) i h)
  where
    go : (length a ≤ i) ⊎ (length b ≤ i) → first_difference (drop i a) (drop i b) ≡ None
    go (inl k) = none_left (drop i a) (drop i b) (drop_all i a k)
    go (inr k) = none_right (drop i a) (drop i b) (drop_all i b k)
