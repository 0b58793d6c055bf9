-- Names in order that begin with the same text.
use Rattle.std.proofs.Common.{◌≡◌, ℕ, zero, suc, ◌+◌, ◌≤◌, Bool, true, false, ◌&&◌, ◌||◌, cond, List, [], ◌∷◌, length, take, drop, filter, get_or, refl, sym, subst, ap, ◌∙◌, arith, true≢false}
use Rattle.std.specs.Prelude.{nat_lt, nat_eq, ◌==◌}
use Rattle.std.specs.List.{AllWithin, starts_with}
use Rattle.std.specs.List.Sorted.{IsPartitionedBy}
use Rattle.std.proofs.lemmas.Bool.{and_parts, or_parts, or_from, and_left, and_right, and_cases, and_from, ltb-false, le-ltb, eq-eqb, eqb-true, ne_eqb, cases_eq}
use Rattle.std.proofs.Common.{inl, inr, ◌-◌, get_or-drop, length-drop, take_all}
use Rattle.chk_bytes.specs.Words.{text_lt}
use Rattle.chk_site_listings.specs.Names.{begins, IsInOrder, IsFrom, IsEndOfFront, IsEndOfLower}

first_below : (x y : ℕ) (t : Bool) → (nat_lt x y || (x == y && t)) ≡ false → (y ≤ x) × (x ≡ y → t ≡ false)
first_below x y t e =
    let p = or_parts (nat_lt x y) (x == y && t) e in (
      ltb-false x y p.0,
      λ same. elim (and_cases (x == y) t p.1) [
        | inl n0 ↦ absurd (true≢false (sym (eq-eqb x y same) ∙ n0))
        | inr k ↦ k
      ],
    )

below_from : (x y : ℕ) (t : Bool) → y ≤ x → (x ≡ y → t ≡ false) → (nat_lt x y || (x == y && t)) ≡ false
below_from x y t le f =
    or_from (nat_lt x y) (x == y && t) (le-ltb x y le) (elim (cases_eq x y) [
      | inl same ↦ and_right (x == y) t (f same)
      | inr differ ↦ and_left (x == y) t (ne_eqb x y differ)
    ])

pub text_onward : (a b c : List ℕ) → text_lt a b ≡ false → text_lt b c ≡ false → text_lt a c ≡ false
text_onward a b [] p q = refl
text_onward a [] (z ∷ ws) p q = absurd (true≢false q)
text_onward [] (y ∷ vs) (z ∷ ws) p q = absurd (true≢false p)
text_onward (x ∷ us) (y ∷ vs) (z ∷ ws) p q =
    let u = first_below x y (text_lt us vs) p in
    let v = first_below y z (text_lt vs ws) q in
    let rest = text_onward us vs ws in
    let a1 = u.0 in let a2 = v.0 in
    below_from x z (text_lt us ws) (omega (arith, a1, a2))
    (λ e. rest (u.1 (omega (arith, a1, a2, e))) (v.1 (omega (arith, a1, a2, e))))

pub text_self : (a : List ℕ) → text_lt a a ≡ false
text_self [] = refl
text_self (x ∷ a) = below_from x x (text_lt a a) (omega arith) (λ _. text_self a)

-- what comes before an earlier text comes before a later one
lower : (a b c : List ℕ) → text_lt b a ≡ false → text_lt b c ≡ true → text_lt a c ≡ true
lower a b c p q = go (text_lt a c) refl
  where
    go : (r : Bool) → text_lt a c ≡ r → text_lt a c ≡ true
    go true e = e
    go false e = absurd (true≢false (sym q ∙ text_onward b a c p e))

-- what begins so doesn't come before that
not_lower : (front text : List ℕ) → begins front text ≡ true → text_lt text front ≡ false
not_lower [] text h = refl
not_lower (y ∷ vs) [] h = absurd (true≢false (sym h))
not_lower (y ∷ vs) (x ∷ us) h =
    let p = and_parts (y == x) (begins vs us) h in
    let same = eqb-true y x p.0 in
    below_from x y (text_lt us vs) (omega (arith, same)) (λ e. not_lower vs us p.1)

-- so does each text from there to one that begins so
between : (front a b : List ℕ) → text_lt a front ≡ false → text_lt b a ≡ false → begins front b ≡ true
    → begins front a ≡ true
between [] a b p q h = refl
between (y ∷ vs) [] b p q h = absurd (true≢false p)
between (y ∷ vs) (x ∷ us) [] p q h = absurd (true≢false (sym h))
between (y ∷ vs) (x ∷ us) (z ∷ ws) p q h =
    let u = first_below x y (text_lt us vs) p in
    let v = first_below z x (text_lt ws us) q in
    let k = and_parts (y == z) (begins vs ws) h in
    let same = eqb-true y z k.0 in
    let a1 = u.0 in let a2 = v.0 in
    let here : x ≡ y = omega (arith, a1, a2, same) in
    and_from (y == x) (begins vs us) (eq-eqb y x (sym here))
    (between vs us ws (u.1 here) (v.1 (omega (arith, here, same))) k.1)

pub lower_first : (names : List (List ℕ)) (text : List ℕ) → IsInOrder names
    → IsPartitionedBy (λ name. text_lt name text) names
lower_first names text o = λ i j d le within h.
    lower (get_or names i d) (get_or names j d) text (o i j d le within) h

pub fronts_first : (names : List (List ℕ)) (front : List ℕ) → IsFrom front names
    → IsPartitionedBy (begins front) names
fronts_first names front o = λ i j d le within h.
    between front (get_or names i d) (get_or names j d)
    (o.not_lower i d (omega arith) (omega (arith, le, within))) (o.in_order i j d le within) h

filter-drop : {X : Type 0} (p : X → Bool) (xs : List X) (i : ℕ) → AllWithin (λ x. p x ≡ false) xs 0 i
    → filter p xs ≡ filter p (drop i xs)
filter-drop p xs zero h = refl
filter-drop p [] (suc i) h = refl
filter-drop p (x ∷ xs) (suc i) h =
    let head : p x ≡ false = h 0 x (omega arith) (omega arith) in
    let rest = filter-drop p xs i (λ k d lo hi. h (suc k) d (omega arith) (omega (arith, hi))) in
    subst (λ b. cond b (x ∷ filter p xs) (filter p xs) ≡ filter p (drop i xs)) (sym head) rest

filter-take : {X : Type 0} (p : X → Bool) (xs : List X) (n : ℕ) → AllWithin (λ x. p x ≡ true) xs 0 n
    → AllWithin (λ x. p x ≡ false) xs n (length xs) → n ≤ length xs → take n xs ≡ filter p xs
filter-take p [] zero t f le = refl
filter-take p [] (suc n) t f le = absurd (omega (arith, le))
filter-take p (x ∷ xs) zero t f le =
    let head : p x ≡ false = f 0 x (omega arith) (omega arith) in
    let rest = filter-take p xs zero (λ k d lo hi. absurd (omega (arith, hi)))
    (λ k d lo hi. f (suc k) d (omega arith) (omega (arith, hi))) (omega arith) in
    subst (λ b. [] ≡ cond b (x ∷ filter p xs) (filter p xs)) (sym head) rest
filter-take p (x ∷ xs) (suc n) t f le =
    let head : p x ≡ true = t 0 x (omega arith) (omega arith) in
    let rest = filter-take p xs n (λ k d lo hi. t (suc k) d (omega arith) (omega (arith, hi)))
    (λ k d lo hi. f (suc k) d (omega (arith, lo)) (omega (arith, hi))) (omega (arith, le)) in
    subst (λ b. x ∷ take n xs ≡ cond b (x ∷ filter p xs) (filter p xs)) (sym head) (ap (λ ys. x ∷ ys) rest)

-- those from there that begin so are all that begin so
pub found : (names : List (List ℕ)) (front : List ℕ) (i n : ℕ) → AllWithin (λ name. text_lt name front ≡ true) names 0 i
    → n ≤ length (drop i names) → AllWithin (λ name. begins front name ≡ true) (drop i names) 0 n
    → AllWithin (λ name. begins front name ≡ false) (drop i names) n (length (drop i names))
    → take n (drop i names) ≡ filter (begins front) names
found names front i n low le t f =
    filter-take (begins front) (drop i names) n t f le
    ∙ sym (filter-drop (begins front) names i (λ k d lo hi. others (get_or names k d) (low k d lo hi)))
  where
    others : (name : List ℕ) → text_lt name front ≡ true → begins front name ≡ false
    others name h = go (begins front name) refl
      where
        go : (r : Bool) → begins front name ≡ r → begins front name ≡ false
        go false e = e
        go true e = absurd (true≢false (sym h ∙ not_lower front name e))

-- the test of slices says so
pub begins_is : (front text : List ℕ) → starts_with nat_eq text front ≡ begins front text
begins_is [] [] = refl
begins_is [] (c ∷ text) = refl
begins_is (b ∷ front) [] = refl
begins_is (b ∷ front) (c ∷ text) = ap (λ r. (b == c) && r) (begins_is front text)

-- those from there on
pub from_there : (names : List (List ℕ)) (text : List ℕ) (i : ℕ) → IsInOrder names → i ≤ length names
    → AllWithin (λ name. text_lt name text ≡ false) names i (length names) → IsFrom text (drop i names)
from_there names text i o le others =
    record {
      in_order = λ j k d below within. rw (get_or-drop i names j d, get_or-drop i names k d)
          (o (i + j) (i + k) d (omega (arith, below)) (omega (arith, within, length-drop i names)));
      not_lower = λ k d lo within. rw (get_or-drop i names k d)
          (others (i + k) d (omega arith) (omega (arith, within, length-drop i names)));
    }

-- so are those that the two counts give
pub all_found : (names below here rest : List (List ℕ)) (front : List ℕ) (i n : ℕ) → below ≡ names
    → here ≡ names → rest ≡ take (length here - i) (drop i here) → i ≤ length below
    → (IsInOrder below → IsEndOfLower below front i) → n ≤ length rest
    → (IsFrom front rest → IsEndOfFront rest front n) → IsInOrder names → take n rest ≡ filter (begins front) names
all_found names below here rest front i n same_below same_here is_rest le lowers most fronts o =
    let low : IsEndOfLower names front i = subst (λ ns. IsInOrder ns → IsEndOfLower ns front i) same_below lowers o in
    let start : i ≤ length names = subst (λ ns. i ≤ length ns) same_below le in
    let there : rest ≡ drop i names =
    is_rest ∙ (take_all (length here - i) (drop i here) (omega (arith, length-drop i here)) ∙ ap (drop i) same_here) in
    let P : List (List ℕ) → Type 0 = λ r. n ≤ length r → (IsFrom front r → IsEndOfFront r front n)
    → take n r ≡ filter (begins front) names in
    subst P (sym there) (λ w f.
    let e = f (from_there names front i o start low.others) in
    found names front i n low.lower w e.fronts e.others) most fronts
