-- Lists that are written item by item.
use Rattle.std.proofs.Common.{◌≡◌, ℕ, suc, ◌+◌, ◌<◌, List, [], ◌∷◌, ◌++◌, length, take, map, get_or, sym, ap, ◌∙◌, append_assoc, append-nil, arith}
use Rattle.std.proofs.Math.Seq.{take-suc}
use Rattle.chk_bytes.specs.Words.{joined}

joined_push : {X Y : Type 0} (f : X → Y) (g : Y → List ℕ) (xs : List X) (x : X)
    → joined (map g (map f (xs ++ x ∷ []))) ≡ joined (map g (map f xs)) ++ g (f x)
joined_push f g [] x = append-nil (g (f x))
joined_push f g (y ∷ ys) x =
    ap (λ t. g (f y) ++ t) (joined_push f g ys x) ∙ sym (append_assoc (g (f y)) (joined (map g (map f ys))) (g (f x)))

-- one item more
pub more_written : {X Y : Type 0} (f : X → Y) (g : Y → List ℕ) (xs : List X) (i : ℕ) (x d : X) (old head out new : List ℕ) → i < length xs → x ≡ get_or xs i d
    → out ≡ old ++ (head ++ joined (map g (map f (take i xs)))) → new ≡ out ++ g (f x)
    → new ≡ old ++ (head ++ joined (map g (map f (take (i + 1) xs))))
more_written f g xs i x d old head out new within is so_far more =
    let next : take (i + 1) xs ≡ take i xs ++ x ∷ [] = ap (λ n. take n xs) (let e : i + 1 ≡ suc i = omega arith in e) ∙ (take-suc xs i d within ∙ ap (λ y. take i xs ++ y ∷ []) (sym is)) in
    more
    ∙ (ap (λ t. t ++ g (f x)) so_far
    ∙ (append_assoc old (head ++ joined (map g (map f (take i xs)))) (g (f x))
    ∙ ap (λ t. old ++ t) (append_assoc head (joined (map g (map f (take i xs)))) (g (f x))
    ∙ ap (λ t. head ++ t) (sym (ap (λ ys. joined (map g (map f ys))) next ∙ joined_push f g (take i xs) x)))))
