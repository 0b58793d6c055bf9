-- A list in its order.
use Rattle.std.proofs.Common.{◌≡◌, ℕ, ◌+◌, ◌<◌, List, ◌∷◌, drop, length, get_or, ap, sym, ◌∙◌, add-one}
use Rattle.std.proofs.Math.Seq.{drop-cons}

-- the next number, and those behind it
pub next_number : (xs : List ℕ) (i : ℕ) → i < length xs
    → drop i xs ≡ get_or xs i 0 ∷ drop (i + 1) xs
next_number xs i low = drop-cons xs i 0 low
    ∙ ap (λ (k : ℕ). get_or xs i 0 ∷ drop k xs) (sym (add-one i))
