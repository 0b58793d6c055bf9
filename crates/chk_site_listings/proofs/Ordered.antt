-- Names that were sorted are in order.
use Rattle.std.proofs.Common.{◌≡◌, ◌⊎◌, inl, inr, ℕ, zero, suc, ◌+◌, ◌<◌, ◌≤◌, false, List, length, get_or, refl, sym, subst, ◌∙◌, arith}
use Rattle.std.specs.List.Sorted.{IsSortedBy}
use Rattle.std.specs.Ordering.{nat_cmp, is_lt}
use Rattle.std.specs.Cmp.Lexicographic.{slice_cmp}
use Rattle.std.proofs.lemmas.Bool.{cases_lt}
use Rattle.std.proofs.lemmas.Bool.Decides.{nat_tests}
use Rattle.std.proofs.lemmas.Cmp.{same_from_slice_cmp}
use Rattle.chk_bytes.specs.Words.{text_lt}
use Rattle.chk_site_listings.specs.Names.{IsInOrder}
use Rattle.chk_site_listings.proofs.Fronts.{text_onward, text_self}

same_test : (a b : List ℕ) → is_lt (slice_cmp nat_cmp a b) ≡ text_lt a b
same_test a b =
    same_from_slice_cmp nat_cmp is_lt text_lt refl (λ _ _. refl) (λ _ _. refl)
    (λ x y xs ys o h. grind (arith, nat_tests)) a b _ refl

one_more : (n : ℕ) → n + 1 ≡ suc n
one_more n = omega arith

upward : (names : List (List ℕ)) → IsSortedBy (λ a b. is_lt (slice_cmp nat_cmp a b)) names
    → (i j : ℕ) (d : List ℕ) → i ≤ j → j < length names → text_lt (get_or names j d) (get_or names i d) ≡ false
upward names sorted i zero d le within =
    let same : 0 ≡ i = omega (arith, le) in
    subst (λ n. text_lt (get_or names 0 d) (get_or names n d) ≡ false) same
    (text_self (get_or names 0 d))
upward names sorted i (suc j) d le within =
    go (cases_lt j i) (λ ge. upward names sorted i j d ge (omega (arith, within)))
  where
    go : (j < i) ⊎ (i ≤ j) → (i ≤ j → text_lt (get_or names j d) (get_or names i d) ≡ false)
        → text_lt (get_or names (suc j) d) (get_or names i d) ≡ false
    go (inl lt) rest =
        let same : suc j ≡ i = omega (arith, le, lt) in
        subst (λ n. text_lt (get_or names (suc j) d) (get_or names n d) ≡ false) same
        (text_self (get_or names (suc j) d))
    go (inr ge) rest =
        text_onward (get_or names (suc j) d) (get_or names j d) (get_or names i d)
        (sym (same_test (get_or names (suc j) d) (get_or names j d))
        ∙ subst (λ n. is_lt (slice_cmp nat_cmp (get_or names n d) (get_or names j d)) ≡ false)
        (one_more j) (sorted j d (omega arith) (omega (arith, within))))
        (rest ge)

pub in_order : (names : List (List ℕ)) → IsSortedBy (λ a b. is_lt (slice_cmp nat_cmp a b)) names
    → IsInOrder names
in_order names sorted = upward names sorted
