-- Lists that grow at their end.
use Rattle.std.proofs.Common.{◌≡◌, ℕ, List, [], ◌∷◌, ◌++◌, map, ap, sym, ◌∙◌, refl, append_assoc}
use Rattle.chk_bytes.specs.Words.{joined}

pub joined_on : (xs ys : List (List ℕ)) → joined (xs ++ ys) ≡ joined xs ++ joined ys
joined_on [] ys = refl
joined_on (x ∷ xs) ys = ap (λ rest. x ++ rest) (joined_on xs ys) ∙ sym (append_assoc x (joined xs) (joined ys))

pub map_on : {A B : Type 0} (f : A → B) (xs ys : List A) → map f (xs ++ ys) ≡ map f xs ++ map f ys
map_on f [] ys = refl
map_on f (x ∷ xs) ys = ap (λ rest. f x ∷ rest) (map_on f xs ys)
