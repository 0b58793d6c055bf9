-- A list in turn.
use Rattle.std.proofs.Common.{◌≡◌, ◌∙◌, ℕ, suc, ◌+◌, ◌<◌, List, ◌∷◌, drop, length, get_or, ap, sym, add-one}
use Rattle.std.proofs.Math.Seq.{drop-cons}

-- the next one of a list, and those behind it
pub next_of : {A : Type 0} (xs : List A) (i : ℕ) (x : A) → i < length xs → x ≡ get_or xs i x
    → drop i xs ≡ x ∷ drop (i + 1) xs
next_of {A = A} xs i x low is =
    drop-cons xs i x low
    ∙ (ap (λ (y : A). y ∷ drop (suc i) xs) (sym is)
    ∙ ap (λ (k : ℕ). x ∷ drop k xs) (sym (add-one i)))
