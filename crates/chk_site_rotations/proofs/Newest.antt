-- The last name that is shown.
use Rattle.std.proofs.Common.{◌≡◌, ℕ, ◌+◌, ◌-◌, ◌<◌, List, [], ◌∷◌, ◌++◌, Option, Some, None, length, get_or, take, refl, sym, ap, ◌∙◌, arith}
use Rattle.std.proofs.lemmas.List.{take_more}
use Rattle.chk_site_rotations.specs.Generations.{newest_in, or_else, shown_in}

both : (a b c : Option (List ℕ)) → or_else (or_else a b) c ≡ or_else a (or_else b c)
both (Some s) b c = refl
both None b c = refl

alone : (a : Option (List ℕ)) → a ≡ or_else a None
alone (Some s) = refl
alone None = refl

-- the last name is looked at first
last_first : (base : List ℕ) (below : Option (List ℕ)) (names : List (List ℕ)) (name : List ℕ)
    → newest_in base below (names ++ name ∷ []) ≡ or_else (shown_in base below name) (newest_in base below names)
last_first base below [] name = alone (shown_in base below name)
last_first base below (n ∷ names) name =
    ap (λ o. or_else o (shown_in base below n)) (last_first base below names name)
    ∙ both (shown_in base below name) (newest_in base below names) (shown_in base below n)

newest_more : (base : List ℕ) (below : Option (List ℕ)) (names : List (List ℕ)) (i : ℕ) (d : List ℕ) → i < length names
    → newest_in base below (take (i + 1) names)
    ≡ or_else (shown_in base below (get_or names i d)) (newest_in base below (take i names))
newest_more base below names i d lt =
    ap (newest_in base below) (take_more names i d lt)
    ∙ last_first base below (take i names) (get_or names i d)

just_before : (size passed : ℕ) → passed < size → size - passed ≡ size - 1 - passed + 1
just_before size passed lt = omega (arith, lt)

within : (size passed : ℕ) → passed < size → size - 1 - passed < size
within size passed lt = omega (arith, lt)

-- the names that weren't passed give what the next one does, or else those before it
next_name : (base : List ℕ) (below : Option (List ℕ)) (names : List (List ℕ)) (passed : ℕ) (d : List ℕ) → passed < length names
    → newest_in base below (take (length names - passed) names)
    ≡ or_else (shown_in base below (get_or names (length names - 1 - passed) d))
    (newest_in base below (take (length names - 1 - passed) names))
next_name base below names passed d lt =
    ap (λ n. newest_in base below (take n names)) (just_before (length names) passed lt)
    ∙ newest_more base below names (length names - 1 - passed) d (within (length names) passed lt)

-- the next one is found
pub newest_found : (base : List ℕ) (below : Option (List ℕ)) (names : List (List ℕ)) (passed : ℕ) (name s : List ℕ)
    → passed < length names → name ≡ get_or names (length names - 1 - passed) name
    → Some s ≡ shown_in base below name
    → newest_in base below (take (length names - passed) names) ≡ newest_in base below names
    → Some s ≡ newest_in base below names
newest_found base below names passed name s lt there found so_far =
    let here : shown_in base below (get_or names (length names - 1 - passed) name) ≡ Some s =
    sym (found ∙ ap (shown_in base below) there) in
    sym (ap (λ o. or_else o (newest_in base below (take (length names - 1 - passed) names))) here)
    ∙ (sym (next_name base below names passed name lt) ∙ so_far)

after : (size passed : ℕ) → size - (passed + 1) ≡ size - 1 - passed
after size passed = omega arith

-- the next one isn't shown
pub newest_on : (base : List ℕ) (below : Option (List ℕ)) (names : List (List ℕ)) (passed : ℕ) (name : List ℕ)
    → passed < length names → name ≡ get_or names (length names - 1 - passed) name
    → None ≡ shown_in base below name
    → newest_in base below (take (length names - passed) names) ≡ newest_in base below names
    → newest_in base below (take (length names - (passed + 1)) names) ≡ newest_in base below names
newest_on base below names passed name lt there none so_far =
    let here : shown_in base below (get_or names (length names - 1 - passed) name) ≡ None =
    sym (none ∙ ap (shown_in base below) there) in
    ap (λ n. newest_in base below (take n names)) (after (length names) passed)
    ∙ (sym (ap (λ o. or_else o (newest_in base below (take (length names - 1 - passed) names))) here)
    ∙ (sym (next_name base below names passed name lt) ∙ so_far))

pub none_left : (o : Option (List ℕ)) → ((s : List ℕ) → o ≡ Some s → ⊥) → None ≡ o
none_left None h = refl
none_left (Some s) h = absurd (h s refl)
