-- What a stable sort gives is one list alone: that in which each element is put behind those that come before it.
use Rattle.std.proofs.Common.{◌≡◌, inl, inr, Bool, true, false, cond, not, suc, ◌+◌, List, [], ◌∷◌, ap, sym, subst, ◌∙◌, refl, arith, true≢false}
use Rattle.std.specs.Prelude.{Contains, filter, map, slice_index_or}
use Rattle.std.specs.List.Sorted.{ties, IsSortedBy, IsStableBy}
use Rattle.std.proofs.lemmas.Bool.{and_parts, and_cases, and_left, and_right, not-true}
use Rattle.std.specs.Cmp.{IsStrictWeakOrder}
use Rattle.std.proofs.lemmas.List.Sorted.{sorted_far}
use Rattle.chk_world.proofs.Each.{Each, each_from, filter_in, each_at}
use Rattle.chk_record_index.specs.Order.{put_by, sort_by}
use Rattle.chk_record_index.proofs.Orders.{WeakOrder}

-- by a test
pub at_test : {X : Type 0} (P : X → Type 0) (b : Bool) (x y : X) → (b ≡ true → P x) →
    (b ≡ false → P y) → P (elim b [ true ↦ x | false ↦ y ])
at_test P true x y f g = f refl
at_test P false x y f g = g refl

-- ---- one order alone: what a stable sort gives is what is put in order

abbrev pub Sorted : {X : Type 0} → (X → X → Bool) → List X → Type 0
Sorted lt [] = Unit {0}
Sorted lt (x ∷ xs) = Each (λ y. lt y x ≡ false) xs × Sorted lt xs

self_tie : {X : Type 0} (lt : X → X → Bool) → WeakOrder lt → (x : X) → ties lt x x ≡ true
self_tie lt w x = go (lt x x) refl
  where
    go : (b : Bool) → lt x x ≡ b → ties lt x x ≡ true
    go false e = rw e refl
    go true e = absurd (true≢false (sym e ∙ w.one_way x x e))

ties_of : {X : Type 0} (lt : X → X → Bool) (x y : X) → lt x y ≡ false → lt y x ≡ false → ties lt x y
    ≡ true
ties_of lt x y a b = rw (a, b) refl

tie_sym : {X : Type 0} (lt : X → X → Bool) (x y : X) → ties lt x y ≡ false → ties lt y x ≡ false
tie_sym lt x y e = elim (and_cases (not (lt x y)) (not (lt y x)) e) [
  | inl a ↦ and_right (not (lt y x)) (not (lt x y)) a
  | inr b ↦ and_left (not (lt y x)) (not (lt x y)) b
]

-- an element stands behind the first one of a sorted list
behind_first : {X : Type 0} (lt : X → X → Bool) (y x : X) (ys : List X) → Each
    (λ z. lt z y ≡ false) ys → Contains ys x → lt x y ≡ false
behind_first lt y x ys all one = each_at (λ z. lt z y ≡ false) ys x all one

first_passes : {X : Type 0} (p : X → Bool) (x : X) (xs ys : List X) → filter p ys ≡ x ∷ xs
    → Contains ys x
first_passes p x xs ys e = filter_in p ys x
    (subst (λ l. Contains l x) (sym e) (0, omega arith, refl))

abbrev SameTies : {X : Type 0} → (X → X → Bool) → List X → List X → Type 0
SameTies {X} lt xs ys = (x : X) → filter (ties lt x) xs ≡ filter (ties lt x) ys

tails_tie : {X : Type 0} (lt : X → X → Bool) (x : X) (xs ys : List X) → SameTies lt (x ∷ xs)
    (x ∷ ys) → SameTies lt xs ys
tails_tie {X = X} lt x xs ys same z = go (ties lt z x) (same z)
  where
    go : (b : Bool) → cond b (x ∷ filter (ties lt z) xs) (filter (ties lt z) xs) ≡ cond b
        (x ∷ filter (ties lt z) ys) (filter (ties lt z) ys)
        → filter (ties lt z) xs ≡ filter (ties lt z) ys
    go true e = cc
    go false e = e

head_tie : {X : Type 0} (lt : X → X → Bool) → WeakOrder lt → (x : X) (xs ys : List X) → SameTies lt
    (x ∷ xs) ys → filter (ties lt x) ys ≡ x ∷ filter (ties lt x) xs
head_tie lt w x xs ys same = sym (same x) ∙ ap
    (λ b. cond b (x ∷ filter (ties lt x) xs) (filter (ties lt x) xs)) (self_tie lt w x)

-- two sorted lists that have the same ties in the same order are equal
pub one_order : {X : Type 0} (lt : X → X → Bool) → WeakOrder lt → (xs ys : List X) → Sorted lt xs
    → Sorted lt ys → SameTies lt xs ys → xs ≡ ys
one_order lt w [] [] p q same = refl
one_order lt w [] (y ∷ ys) p q same = absurd
    (let e = head_tie lt w y ys [] (λ z. sym (same z)) in cc)
one_order lt w (x ∷ xs) [] p q same = absurd (let e = head_tie lt w x xs [] same in cc)
one_order {X = X} lt w (x ∷ xs) (y ∷ ys) p q same = go (ties lt x y) refl
    (λ e. one_order lt w xs ys p.1 q.1 e)
  where
    at_x : filter (ties lt x) (y ∷ ys) ≡ x ∷ filter (ties lt x) xs
    at_x = head_tie lt w x xs (y ∷ ys) same

    at_y : filter (ties lt y) (x ∷ xs) ≡ y ∷ filter (ties lt y) ys
    at_y = head_tie lt w y ys (x ∷ xs) (λ z. sym (same z))

    go : (b : Bool) → ties lt x y ≡ b → (SameTies lt xs ys → xs ≡ ys) → x ∷ xs ≡ y ∷ ys
    go true t next =
        let e : y ∷ filter (ties lt x) ys ≡ x ∷ filter (ties lt x) xs = ap
        (λ b. cond b (y ∷ filter (ties lt x) ys) (filter (ties lt x) ys)) (sym t) ∙ at_x in
        let is : y ≡ x = cc in
        let rest = tails_tie lt x xs ys (subst
        (λ (z : X). SameTies lt (x ∷ xs) (z ∷ ys)) is same) in
        ap (λ l. x ∷ l) (next rest) ∙ ap (λ z. z ∷ ys) (sym is)
    go false t next =
        let in_ys : filter (ties lt x) ys ≡ x ∷ filter (ties lt x) xs = ap
        (λ b. cond b (y ∷ filter (ties lt x) ys) (filter (ties lt x) ys)) (sym t) ∙ at_x in
        let in_xs : filter (ties lt y) xs ≡ y ∷ filter (ties lt y) ys =
        ap (λ b. cond b (x ∷ filter (ties lt y) xs) (filter (ties lt y) xs))
        (sym (tie_sym lt x y t)) ∙ at_y in
        let a = behind_first lt y x ys q.0
        (first_passes (ties lt x) x (filter (ties lt x) xs) ys in_ys) in
        let b = behind_first lt x y xs p.0
        (first_passes (ties lt y) y (filter (ties lt y) ys) xs in_xs) in
        absurd (true≢false (sym (ties_of lt x y a b) ∙ t))

pub each_put : {X : Type 0} (lt : X → X → Bool) (P : X → Type 0) (c : X) (ds : List X) → P c → Each P ds
    → Each P (put_by lt c ds)
each_put lt P c [] pc all = (pc, tt)
each_put lt P c (d ∷ ds) pc all =
    let rest = each_put lt P c ds pc all.1 in
    at_test (Each P) (lt d c) (d ∷ put_by lt c ds) (c ∷ d ∷ ds) (λ e. (all.0, rest))
    (λ e. (pc, all))

module _ {X : Type 0} (lt : X → X → Bool) (w : WeakOrder lt) where
  none_onward : (c d : X) (es : List X) → lt d c ≡ false → Each (λ y. lt y d ≡ false) es → Each
      (λ y. lt y c ≡ false) es
  none_onward c d [] h none = tt
  none_onward c d (e ∷ es) h none = (w.onward e d c none.0 h, none_onward c d es h none.1)

  put_sorted : (c : X) (ds : List X) → Sorted lt ds → Sorted lt (put_by lt c ds)
  put_sorted c [] o = (tt, tt)
  put_sorted c (d ∷ ds) o =
      let rest = put_sorted c ds o.1 in
      at_test (Sorted lt) (lt d c) (d ∷ put_by lt c ds) (c ∷ d ∷ ds)
      (λ e. (each_put lt (λ x. lt x d ≡ false) c ds (w.one_way d c e) o.0, rest))
      (λ e. ((e, none_onward c d ds e o.0), o))

  pub sort_sorted : (xs : List X) → Sorted lt (sort_by lt xs)
  sort_sorted [] = tt
  sort_sorted (x ∷ xs) = put_sorted x (sort_by lt xs) (sort_sorted xs)

  -- two that tie with a third don't come before each other
  ties_not : (z x y : X) → ties lt z x ≡ true → ties lt z y ≡ true → lt y x ≡ true → ⊥
  ties_not z x y p q h =
      let a = and_parts (not (lt z x)) (not (lt x z)) p in
      let b = and_parts (not (lt z y)) (not (lt y z)) q in
      true≢false (sym h ∙ w.onward y z x (not-true (lt y z) b.1) (not-true (lt z x) a.0))

  put_ties : (z x : X) (ys : List X) → filter (ties lt z) (put_by lt x ys) ≡ filter (ties lt z)
      (x ∷ ys)
  put_ties z x [] = refl
  put_ties z x (y ∷ ys) =
      let rest = put_ties z x ys in
      at_test (λ l. filter (ties lt z) l ≡ filter (ties lt z) (x ∷ y ∷ ys)) (lt y x)
      (y ∷ put_by lt x ys) (x ∷ y ∷ ys)
      (λ e. go (ties lt z x) refl (ties lt z y) refl e rest) (λ e. refl)
    where
      go : (a : Bool) → ties lt z x ≡ a → (b : Bool) → ties lt z y ≡ b → lt y x ≡ true
          → filter (ties lt z) (put_by lt x ys) ≡ cond a (x ∷ filter (ties lt z) ys)
          (filter (ties lt z) ys)
          → cond b (y ∷ filter (ties lt z) (put_by lt x ys)) (filter (ties lt z) (put_by lt x ys))
          ≡ cond a (x ∷ cond b (y ∷ filter (ties lt z) ys) (filter (ties lt z) ys))
          (cond b (y ∷ filter (ties lt z) ys) (filter (ties lt z) ys))
      go true p true q h rest = absurd (ties_not z x y p q h)
      go true p false q h rest = rest
      go false p true q h rest = ap (λ l. y ∷ l) rest
      go false p false q h rest = rest

  pub sort_ties : (z : X) (xs : List X) → filter (ties lt z) (sort_by lt xs) ≡ filter (ties lt z) xs
  sort_ties z [] = refl
  sort_ties z (x ∷ xs) = put_ties z x (sort_by lt xs) ∙ ap (λ l. cond (ties lt z x) (x ∷ l) l)
      (sort_ties z xs)

  -- what a stable sort gives is this
  pub stable_sort : (xs ys : List X) → Sorted lt ys →
      ((z : X) → filter (ties lt z) ys ≡ filter (ties lt z) xs) → ys ≡ sort_by lt xs
  stable_sort xs ys s same = one_order lt w ys (sort_by lt xs) s (sort_sorted xs)
      (λ z. same z ∙ sym (sort_ties z xs))

-- ---- what std's stable sort gives

pub as_std : {X : Type 0} (lt : X → X → Bool) → WeakOrder lt → IsStrictWeakOrder lt
as_std lt w = record { one_way = w.one_way; chain = w.onward }

-- in order by neighbours is in order
pub sorted_from : {X : Type 0} (lt : X → X → Bool) → WeakOrder lt → (xs : List X)
    → IsSortedBy lt xs → Sorted lt xs
sorted_from lt w [] up = tt
sorted_from lt w (x ∷ xs) up = (
  each_from (λ y. lt y x ≡ false) xs (λ y one.
      subst (λ z. lt z x ≡ false) one.2
      (sorted_far lt (as_std lt w) (x ∷ xs) up 0 (suc one.0) y (omega arith)
      (omega (arith, one.1)))),
  sorted_from lt w xs (λ k d low high.
      let same : suc k + 1 ≡ suc (k + 1) = omega arith in
      subst (λ n. lt (slice_index_or (x ∷ xs) n d) (slice_index_or xs k d) ≡ false) same
      (up (suc k) d (omega arith) (omega (arith, high)))),
)

-- what std's stable sort gives is the list in order
pub sorted_is : {X : Type 0} (lt : X → X → Bool) → WeakOrder lt → (xs ys : List X)
    → IsSortedBy lt ys → IsStableBy lt xs ys → ys ≡ sort_by lt xs
sorted_is lt w xs ys up stable = stable_sort lt w xs ys (sorted_from lt w ys up) stable

-- ---- through a function that keeps the order of those of a kind

module _ {X Y : Type 0} (f : X → Y) (lt : X → X → Bool) (lt2 : Y → Y → Bool) (P : X → Type 0)
    (same : (a b : X) → P a → P b → lt a b ≡ lt2 (f a) (f b)) where
  put_through : (x : X) (ys : List X) → P x → Each P ys
      → map f (put_by lt x ys) ≡ put_by lt2 (f x) (map f ys)
  put_through x [] px all = refl
  put_through x (y ∷ ys) px all =
      let rest = put_through x ys px all.1 in go (lt y x) (lt2 (f y) (f x)) (same y x all.0 px) rest
    where
      go : (b c : Bool) → b ≡ c → map f (put_by lt x ys) ≡ put_by lt2 (f x) (map f ys)
          → map f (elim b as (λ t. List X) [ true ↦ y ∷ put_by lt x ys | false ↦ x ∷ y ∷ ys ])
          ≡ elim c as (λ t. List Y) [
            | true ↦ f y ∷ put_by lt2 (f x)
                (map f ys)
            | false ↦ f x ∷ f y ∷ map f ys
          ]
      go true true e rest = ap (λ l. f y ∷ l) rest
      go true false e rest = absurd (true≢false e)
      go false true e rest = absurd (true≢false (sym e))
      go false false e rest = refl

  each_sorted : (xs : List X) → Each P xs → Each P (sort_by lt xs)
  each_sorted [] all = tt
  each_sorted (x ∷ xs) all = each_put lt P x (sort_by lt xs) all.0 (each_sorted xs all.1)

  pub sort_through : (xs : List X) → Each P xs → map f (sort_by lt xs) ≡ sort_by lt2 (map f xs)
  sort_through [] all = refl
  sort_through (x ∷ xs) all =
      put_through x (sort_by lt xs) all.0 (each_sorted xs all.1) ∙ ap (put_by lt2 (f x))
      (sort_through xs all.1)
