-- A turn behind others.
use Rattle.std.proofs.Common.{◌≡◌, ◌∙◌, ap, sym, subst, refl, arith, ℕ, ◌+◌, ◌<◌, zero, suc, add-one}
use Rattle.std.proofs.Common.{List, [], ◌∷◌, ◌++◌, length, map, take, drop, get_or, set}
use Rattle.std.proofs.lemmas.List.{take_more_set, drop-set-lt}
use Rattle.std.proofs.Math.Seq.{take-suc}
use Rattle.chk_ctl_machine.specs.Turns.{none_left, one_more, InTurn}

pub turn_behind : {A B T : Type 0} {Step : A → B → T → T → Type 0} {a : A} {b : B} {xs : List A}
    {ys : List B} {old mid new : T} → InTurn Step xs ys old mid → Step a b mid new
    → InTurn Step (xs ++ a ∷ []) (ys ++ b ∷ []) old new
turn_behind none_left last = one_more last none_left
turn_behind (one_more first rest) last = one_more first (turn_behind rest last)

-- the first so many, and one more
pub take_more : {A : Type 0} (xs : List A) (i : ℕ) (d : A) → i < length xs
    → take (i + 1) xs ≡ take i xs ++ get_or xs i d ∷ []
take_more xs i d low = ap (λ (n : ℕ). take n xs) (add-one i) ∙ take-suc xs i d low

-- one of the list itself
pub turn_next : {A B T : Type 0} (Step : A → B → T → T → Type 0) (xs : List A) (bs : List B)
    (i : ℕ) (d : A) (b : B) (old mid new : T) → i < length xs
    → InTurn Step (take i xs) bs old mid → Step (get_or xs i d) b mid new
    → InTurn Step (take (i + 1) xs) (bs ++ b ∷ []) old new
turn_next Step xs bs i d b old mid new low turns last =
    subst (λ (l : List _). InTurn Step l (bs ++ b ∷ []) old new) (sym (take_more xs i d low))
    (turn_behind turns last)

-- one of a list by which the turns go
pub turn_by : {A X B T : Type 0} (f : X → A) (Step : A → B → T → T → Type 0) (xs : List X)
    (bs : List B) (i : ℕ) (d : X) (b : B) (old mid new : T) → i < length xs
    → InTurn Step (map f (take i xs)) bs old mid → Step (f (get_or xs i d)) b mid new
    → InTurn Step (map f (take (i + 1) xs)) (bs ++ b ∷ []) old new
turn_by f Step xs bs i d b old mid new low turns last =
    subst (λ (l : List _). InTurn Step l (bs ++ b ∷ []) old new)
    (sym (ap (map f) (take_more xs i d low) ∙ map_last f (take i xs) (get_or xs i d)))
    (turn_behind turns last)
  where
    map_last : {A X : Type 0} (f : X → A) (xs : List X) (x : X)
        → map f (xs ++ x ∷ []) ≡ map f xs ++ f x ∷ []
    map_last f [] x = refl
    map_last f (y ∷ xs) x = ap (λ l. f y ∷ l) (map_last f xs x)

-- the rest of equal lists begins alike
same_here : {A : Type 0} (xs ys : List A) (i : ℕ) (d : A) → i < length xs → i < length ys
    → drop i ys ≡ drop i xs → get_or ys i d ≡ get_or xs i d
same_here [] ys i d low high is = absurd (let z : ⊥ = omega (arith, low) in z)
same_here (x ∷ xs) [] i d low high is = absurd (let z : ⊥ = omega (arith, high) in z)
same_here (x ∷ xs) (y ∷ ys) zero d low high is = ap (λ l. get_or l 0 d) is
same_here (x ∷ xs) (y ∷ ys) (suc i) d low high is =
    same_here xs ys i d (omega (arith, low)) (omega (arith, high)) is

drop_one : {A : Type 0} (xs : List A) (i : ℕ) → drop (suc i) xs ≡ drop 1 (drop i xs)
drop_one [] zero = refl
drop_one [] (suc i) = refl
drop_one (x ∷ xs) zero = refl
drop_one (x ∷ xs) (suc i) = drop_one xs i

same_rest : {A : Type 0} (xs ys : List A) (i : ℕ) → drop i ys ≡ drop i xs
    → drop (suc i) ys ≡ drop (suc i) xs
same_rest xs ys i is = drop_one ys i ∙ ap (drop 1) is ∙ sym (drop_one xs i)

-- one of the list, in its place
pub turn_in_place : {A T : Type 0} (Step : A → A → T → T → Type 0) (xs ys : List A) (i : ℕ)
    (d b : A) (old mid new : T) → i < length xs → i < length ys
    → InTurn Step (take i xs) (take i ys) old mid → drop i ys ≡ drop i xs
    → Step (get_or ys i d) b mid new
    → InTurn Step (take (i + 1) xs) (take (i + 1) (set ys i b)) old new
turn_in_place Step xs ys i d b old mid new low high turns is last =
    subst (λ (bs : List _). InTurn Step (take (i + 1) xs) bs old new)
    (sym (take_more_set ys i b high))
    (turn_next Step xs (take i ys) i d b old mid new low turns
    (subst (λ (a : _). Step a b mid new) (same_here xs ys i d low high is) last))

pub rest_in_place : {A : Type 0} (xs ys : List A) (i : ℕ) (b : A) → drop i ys ≡ drop i xs
    → drop (i + 1) (set ys i b) ≡ drop (i + 1) xs
rest_in_place xs ys i b is =
    drop-set-lt (i + 1) ys i b (omega arith)
    ∙ (ap (λ (n : ℕ). drop n ys) (add-one i) ∙ same_rest xs ys i is
    ∙ ap (λ (n : ℕ). drop n xs) (sym (add-one i)))
