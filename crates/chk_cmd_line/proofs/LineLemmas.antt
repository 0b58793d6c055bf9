-- Lines that grow word by word.
use Rattle.std.proofs.Common.{◌≡◌, ◌∙◌, ◌<◌, ◌≤◌, ◌+◌, ℕ, List, [], ◌∷◌, ◌++◌, length, map, take, get_or, refl, sym, ap, append_assoc, length-take-le, arith}
use Rattle.std.proofs.lemmas.List.{map_more, length-map}
use Rattle.chk_bytes.specs.Words.{joined_at}

-- a first part
joined_first : (sep : ℕ) (parts : List (List ℕ)) (part : List ℕ) → length parts ≡ 0
    → joined_at sep (parts ++ part ∷ []) ≡ joined_at sep parts ++ part
joined_first sep [] part none = refl
joined_first sep (first ∷ parts) part none = absurd (omega arith)

-- one more part behind at least one
joined_more : (sep : ℕ) (parts : List (List ℕ)) (part : List ℕ) → 0 < length parts
    → joined_at sep (parts ++ part ∷ []) ≡ joined_at sep parts ++ sep ∷ part
joined_more sep [] part some = absurd (omega arith)
joined_more sep (first ∷ []) part some = refl
joined_more sep (first ∷ next ∷ parts) part some =
    ap (λ rest. first ++ sep ∷ rest) (joined_more sep (next ∷ parts) part (omega arith))
    ∙ sym (append_assoc first (sep ∷ joined_at sep (next ∷ parts)) (sep ∷ part))

-- a part behind none
pub first_part : {X : Type 0} (f : X → List ℕ) (xs : List X) (i : ℕ) (d : X) (old new : List ℕ)
    → i < length xs → length (map f (take i xs)) ≡ 0
    → new ≡ (old ++ joined_at 32 (map f (take i xs))) ++ f (get_or xs i d)
    → new ≡ old ++ joined_at 32 (map f (take (i + 1) xs))
first_part f xs i d old new lt none is =
    is ∙ append_assoc old (joined_at 32 (map f (take i xs))) (f (get_or xs i d))
    ∙ ap (λ line. old ++ line) (sym (joined_first 32 (map f (take i xs)) (f (get_or xs i d)) none)
    ∙ sym (ap (joined_at 32) (map_more f xs i d lt)))

-- a part behind others
pub next_part : {X : Type 0} (f : X → List ℕ) (xs : List X) (i : ℕ) (d : X) (old new : List ℕ)
    → i < length xs → 0 < length (map f (take i xs))
    → new ≡ ((old ++ joined_at 32 (map f (take i xs))) ++ 32 ∷ []) ++ f (get_or xs i d)
    → new ≡ old ++ joined_at 32 (map f (take (i + 1) xs))
next_part f xs i d old new lt some is =
    is ∙ append_assoc (old ++ joined_at 32 (map f (take i xs))) (32 ∷ []) (f (get_or xs i d))
    ∙ append_assoc old (joined_at 32 (map f (take i xs))) (32 ∷ f (get_or xs i d))
    ∙ ap (λ line. old ++ line) (sym (joined_more 32 (map f (take i xs)) (f (get_or xs i d)) some)
    ∙ sym (ap (joined_at 32) (map_more f xs i d lt)))

-- how many parts stand before one
pub parts_before : {X : Type 0} (f : X → List ℕ) (xs : List X) (i : ℕ) → i < length xs
    → length (map f (take i xs)) ≡ i
parts_before f xs i lt =
    length-map (take i xs) f ∙ length-take-le i xs (let low : i ≤ length xs = omega arith in low)
