-- The items of a list, in turn.
use Rattle.std.proofs.Common.{◌≡◌, ℕ, ◌+◌, ◌<◌, ◌≤◌, List, [], ◌∷◌, drop, length, get_or, map, ap}
use Rattle.std.proofs.Math.ListN.{drop_of_length-le}
use Rattle.chk_record_index.proofs.InTurn.{next_of}

-- the next one, and those behind it, by what they stand for
pub next_as : {A B : Type 0} (f : A → B) (xs : List A) (i : ℕ) (x : A) → i < length xs
    → x ≡ get_or xs i x → map f (drop i xs) ≡ f x ∷ map f (drop (i + 1) xs)
next_as f xs i x low is = ap (λ rest. map f rest) (next_of xs i x low is)

-- none is left
pub none_of : {A B : Type 0} (f : A → B) (xs : List A) (i : ℕ) → length xs ≤ i
    → map f (drop i xs) ≡ []
none_of f xs i past = ap (λ rest. map f rest) (drop_of_length-le xs past)
