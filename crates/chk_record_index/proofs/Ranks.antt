-- Rows compare by the numbers of their streams as their heads do by the streams.
use Rattle.std.proofs.Common.{◌≡◌, inl, inr, ℕ, zero, suc, ◌<◌, ◌≤◌, ◌+◌, Bool, true, false, ◌&&◌, ◌||◌, cond, List, [], ◌∷◌, length, ap, sym, ◌∙◌, refl, arith, true≢false}
use Rattle.std.specs.Prelude.{nat_lt, nat_eq, All, Contains, count_by, map, slice_index_or}
use Rattle.std.proofs.lemmas.Bool.{cases_Bool, lt-ltb, le-ltb}
use Rattle.std.proofs.lemmas.List.Sums.{sum_by-cons}
use Rattle.std.proofs.lemmas.List.{get_or-map, get_or_default}
use Rattle.std.proofs.lemmas.List.Elements.{All-contains}
use Rattle.std.specs.Borrow.{Bor}
use Rattle.std.specs.Cmp.{IsStrictWeakOrder}
use Rattle.std.specs.List.Sorted.{IsSortedBy, IsPartitionedBy, IsPartitionPoint}
use Rattle.std.proofs.lemmas.List.Sorted.{sorted_far, sum_by-IsPermutation}
use Rattle.chk_chunk.specs.Keys.{same_stream, stream_lt}
use Rattle.chk_record_index.specs.declared.origins.Origin.{Origin}
use Rattle.chk_record_index.specs.declared.gather.Row.{Row}
use Rattle.chk_record_index.specs.HeadRows.{no_origin, row_begin, head_in_row}
use Rattle.chk_record_index.specs.Order.{head_before, origin_stream, origin_before, rank_in, row_rank, row_before, row_first, sort_by, in_head_order, AreInOrder}
use Rattle.chk_world.proofs.Each.{Each, each_from}
use Rattle.chk_record_index.proofs.Sorting.{as_std, sort_through}
use Rattle.chk_record_index.proofs.Orders.{WeakOrder, Tested, through, tested_through, numbers, lex, lex_tested, streams}

-- ---- counts

pub count_cons : {X : Type 0} (p : X → Bool) (x : X) (xs : List X)
    → count_by p (x ∷ xs) ≡ cond (p x) 1 0 + count_by p xs
count_cons p x xs = sum_by-cons (λ y. cond (p y) 1 0) x xs

-- at least as many pass a weaker test
count_le : {X : Type 0} (p q : X → Bool) → ((x : X) → p x ≡ true → q x ≡ true) → (xs : List X)
    → count_by p xs ≤ count_by q xs
count_le p q more [] = omega arith
count_le p q more (x ∷ xs) =
    let a = count_cons p x xs in
    let b = count_cons q x xs in
    let whole = go (p x) refl (q x) refl (count_le p q more xs) in
    omega (arith, a, b, whole)
  where
    go : (a : Bool) → p x ≡ a → (b : Bool) → q x ≡ b → count_by p xs ≤ count_by q xs
        → cond a 1 0 + count_by p xs ≤ cond b 1 0 + count_by q xs
    go true e true k rest = omega (arith, rest)
    go true e false k rest = absurd (true≢false (sym (more x e) ∙ k))
    go false e true k rest = omega (arith, rest)
    go false e false k rest = omega (arith, rest)

-- more, where one passes it that doesn't pass the other
count_lt : {X : Type 0} (p q : X → Bool) → ((x : X) → p x ≡ true → q x ≡ true) → (xs : List X)
    → (x : X) → Contains xs x → p x ≡ false → q x ≡ true → count_by p xs < count_by q xs
count_lt {X = X} p q more xs x one off on = go xs one.0 one.1 one.2
  where
    here : (a b : Bool) (m n : ℕ) → a ≡ false → b ≡ true → m ≤ n → cond a 1 0 + m < cond b 1 0 + n
    here true b m n e k le = absurd (true≢false e)
    here false true m n e k le = omega (arith, le)
    here false false m n e k le = absurd (true≢false (sym k))

    there : (a b : Bool) (m n : ℕ) → (a ≡ true → b ≡ true) → m < n → cond a 1 0 + m < cond b 1 0 + n
    there true true m n h lt = omega (arith, lt)
    there true false m n h lt = absurd (true≢false (sym (h refl)))
    there false true m n h lt = omega (arith, lt)
    there false false m n h lt = omega (arith, lt)

    go : (xs : List X) (k : ℕ) → k < length xs → slice_index_or xs k x ≡ x
        → count_by p xs < count_by q xs
    go [] k below at = absurd (let z : ⊥ = omega arith in z)
    go (y ∷ xs) zero below at =
        let whole =
        here (p y) (q y) (count_by p xs) (count_by q xs) (ap p at ∙ off) (ap q at ∙ on)
        (count_le p q more xs) in
        omega (arith, count_cons p y xs, count_cons q y xs, whole)
    go (y ∷ xs) (suc k) below at =
        let whole = there (p y) (q y) (count_by p xs) (count_by q xs) (more y)
        (go xs k (omega (arith, below)) at) in
        omega (arith, count_cons p y xs, count_cons q y xs, whole)

-- ---- ranks

by_stream : Tested origin_before (λ o p. same_stream (origin_stream o) (origin_stream p))
by_stream = tested_through origin_stream stream_lt same_stream streams

-- of two, one that comes before one that comes before a third
onward_lt : {X : Type 0} (lt : X → X → Bool) → WeakOrder lt → (a b c : X) → lt a b ≡ true
    → lt b c ≡ true → lt a c ≡ true
onward_lt lt w a b c p q = elim (cases_Bool (lt a c)) [
  | inl is_so ↦ is_so
  | inr not_so ↦ absurd (true≢false (sym p ∙ w.onward a c b not_so (w.one_way b c q)))
]

rank_lt : (origins : List Origin) (o p : Origin) → Contains origins o
    → nat_lt (rank_in origins o) (rank_in origins p) ≡ origin_before o p
rank_lt origins o p one = go (origin_before o p) refl
  where
    w : WeakOrder origin_before
    w = by_stream.order

    before_self : origin_before o o ≡ false
    before_self = elim (cases_Bool
        (origin_before o o)) [ inl is_so ↦ w.one_way o o is_so | inr not_so ↦ not_so ]

    go : (b : Bool) → origin_before o p ≡ b → nat_lt (rank_in origins o) (rank_in origins p) ≡ b
    go true e =
        lt-ltb (rank_in origins o) (rank_in origins p)
        (count_lt (λ x. origin_before x o) (λ x. origin_before x p)
        (λ x h. onward_lt origin_before w x o p h e)
        origins o one before_self e)
    go false e =
        le-ltb (rank_in origins o) (rank_in origins p)
        (count_le (λ x. origin_before x p) (λ x. origin_before x o)
        (λ x h. elim (cases_Bool (origin_before x o)) [
          | inl is_so ↦ is_so
          | inr not_so ↦ absurd (true≢false (sym h ∙ w.onward x o p not_so e))
        ]) origins)

-- ---- ranks by a search

-- as many pass as stand before the place behind which none passes
counted_to : {X : Type 0} (p : X → Bool) (xs : List X) (i : ℕ) → i ≤ length xs
    → IsPartitionPoint (λ y. p y ≡ true) (λ y. p y ≡ false) xs i → i ≡ count_by p xs
counted_to p [] zero most at = refl
counted_to p [] (suc i) most at = absurd (let z : ⊥ = omega arith in z)
counted_to p (x ∷ xs) zero most at =
    let off = ap {B = ℕ} (λ b. cond b 1 0) (at.1 zero x (omega arith) (omega arith)) in
    let rest : 0 ≡ count_by p xs = counted_to p xs zero (omega arith) (
      (λ k d low high. absurd (let z : ⊥ = omega (arith, high) in z)),
      (λ k d low high. at.1 (suc k) d (omega arith) (omega (arith, high))),
    ) in
    omega (arith, off, rest, count_cons p x xs)
counted_to p (x ∷ xs) (suc i) most at =
    let on = ap {B = ℕ} (λ b. cond b 1 0) (at.0 zero x (omega arith) (omega arith)) in
    let rest : i ≡ count_by p xs = counted_to p xs i (omega (arith, most)) (
      (λ k d low high. at.0 (suc k) d (omega arith) (omega (arith, high))),
      (λ k d low high. at.1 (suc k) d (omega (arith, low)) (omega (arith, high))),
    ) in
    omega (arith, on, rest, count_cons p x xs)

count_map : {X Y : Type 0} (f : X → Y) (q : Y → Bool) (xs : List X)
    → count_by q (map f xs) ≡ count_by (λ x. q (f x)) xs
count_map f q [] = refl
count_map f q (x ∷ xs) =
    count_cons q (f x) (map f xs)
    ∙ (ap (λ n. cond (q (f x)) 1 0 + n) (count_map f q xs) ∙ sym (count_cons (λ x. q (f x)) x xs))

pub refs_ordered : IsStrictWeakOrder (λ (a b : Bor Origin). origin_before a.now b.now)
refs_ordered = as_std (λ a b. origin_before a.now b.now)
    (through (λ (x : Bor Origin). x.now) origin_before by_stream.order)

-- a search among origins in order finds where those that come before one end
pub parted : (sorted : List (Bor Origin)) (o : Origin)
    → IsSortedBy (λ a b. origin_before a.now b.now) sorted
    → IsPartitionedBy (λ (x : Bor Origin). origin_before x.now o) sorted
parted sorted o rise i j d low high on = elim (cases_Bool (origin_before (slice_index_or sorted i d).now o)) [
  | inl is_so ↦ is_so
  | inr not_so ↦
      absurd
      (true≢false
      (sym on
      ∙ by_stream.order.onward (slice_index_or sorted j d).now (slice_index_or sorted i d).now o
      (sorted_far (λ a b. origin_before a.now b.now) refs_ordered sorted rise i j d low high)
      not_so))
]

-- that place is the rank
pub ranked : (origins : List Origin) (sorted : List (Bor Origin)) (o : Origin) (i : ℕ)
    → i ≤ length sorted → AreInOrder origins sorted
    → IsPartitionPoint (λ (x : Bor Origin). origin_before x.now o ≡ true)
    (λ (x : Bor Origin). origin_before x.now o ≡ false) sorted i
    → i ≡ rank_in origins o
ranked origins sorted o i most order at =
    counted_to (λ (x : Bor Origin). origin_before x.now o) sorted i most at
    ∙ (sym (count_map (λ (x : Bor Origin). x.now) (λ p. origin_before p o) sorted)
    ∙ sum_by-IsPermutation (λ p. cond (origin_before p o) 1 0) origins (map (λ x. x.now) sorted)
    order.same)

-- orders that agree have the same alike
alike_same : {X : Type 0} (lt alike lt2 alike2 : X → X → Bool) → Tested lt alike → Tested lt2 alike2
    → (a b : X) → lt a b ≡ lt2 a b → lt b a ≡ lt2 b a → alike a b ≡ alike2 a b
alike_same lt alike lt2 alike2 t u a b p q = go (alike a b) refl (alike2 a b) refl
  where
    go : (x : Bool) → alike a b ≡ x → (y : Bool) → alike2 a b ≡ y → x ≡ y
    go true e true k = refl
    go true e false k =
        let n = t.neither a b e in absurd
        (true≢false (sym (u.are_alike a b (sym p ∙ n.0) (sym q ∙ n.1)) ∙ k))
    go false e true k =
        let n = u.neither a b k in absurd
        (true≢false (sym (t.are_alike a b (p ∙ n.0) (q ∙ n.1)) ∙ e))
    go false e false k = refl

rank_eq : (origins : List Origin) (o p : Origin) → Contains origins o → Contains origins p
    → nat_eq (rank_in origins o) (rank_in origins p) ≡ same_stream (origin_stream o)
    (origin_stream p)
rank_eq origins o p a b =
    alike_same (λ x y. nat_lt (rank_in origins x) (rank_in origins y))
    (λ x y. nat_eq (rank_in origins x) (rank_in origins y))
    origin_before (λ x y. same_stream (origin_stream x) (origin_stream y))
    (tested_through (rank_in origins) nat_lt nat_eq numbers) by_stream o p (rank_lt origins o p a)
    (rank_lt origins p o b)

-- ---- rows

-- the row's origin is there
abbrev pub IsKnown : List Origin → Row → Type 0
IsKnown origins r = r.origin < length origins

abbrev origin_at : List Origin → Row → Origin
origin_at origins r = slice_index_or origins r.origin no_origin

there : (origins : List Origin) (r : Row) → IsKnown origins r → Contains origins
    (origin_at origins r)
there origins r known = (
  r.origin,
  known,
  get_or_default origins r.origin
      (origin_at origins r) no_origin known,
)

rank_is : (origins : List Origin) (r : Row) → IsKnown origins r
    → row_rank (map (rank_in origins) origins) r ≡ rank_in origins (origin_at origins r)
rank_is origins r known = get_or-map (rank_in origins) origins r.origin no_origin 0 known

pub rows_compare : (origins : List Origin) (a b : Row) → IsKnown origins a → IsKnown origins b
    → row_before (map (rank_in origins) origins) a b
    ≡ head_before (head_in_row origins a) (head_in_row origins b)
rows_compare origins a b ka kb =
    let o = origin_at origins a in
    let p = origin_at origins b in
    let rest = nat_lt (row_begin a) (row_begin b) || (nat_eq (row_begin a) (row_begin b) && nat_lt a.end b.end) in
    ap (λ n. nat_lt n (row_rank (map (rank_in origins) origins) b) ||
    (nat_eq n (row_rank (map (rank_in origins) origins) b) && rest)) (rank_is origins a ka)
    ∙ (ap (λ n. nat_lt (rank_in origins o) n || (nat_eq (rank_in origins o) n && rest))
    (rank_is origins b kb)
    ∙ (ap (λ t. t || (nat_eq (rank_in origins o) (rank_in origins p) && rest))
    (rank_lt origins o p (there origins a ka))
    ∙ ap (λ t. origin_before o p || (t && rest))
    (rank_eq origins o p (there origins a ka) (there origins b kb))))

-- by any numbers of streams
by_rank : (ranks : List ℕ) → Tested (λ (a b : Row). nat_lt (row_rank ranks a) (row_rank ranks b))
    (λ (a b : Row). nat_eq (row_rank ranks a) (row_rank ranks b))
by_rank ranks = tested_through (row_rank ranks) nat_lt nat_eq numbers

by_begin : Tested (λ (a b : Row). nat_lt (row_begin a) (row_begin b)) (λ (a b : Row). nat_eq (row_begin a) (row_begin b))
by_begin = tested_through row_begin nat_lt nat_eq numbers

by_end : Tested (λ (a b : Row). nat_lt a.end b.end) (λ (a b : Row). nat_eq a.end b.end)
by_end = tested_through (λ (a : Row). a.end) nat_lt nat_eq numbers

by_turn : Tested (λ (a b : Row). nat_lt a.turn b.turn) (λ (a b : Row). nat_eq a.turn b.turn)
by_turn = tested_through (λ (a : Row). a.turn) nat_lt nat_eq numbers

pub rows_ordered : (ranks : List ℕ) → WeakOrder (row_before ranks)
rows_ordered ranks =
    lex (λ (a b : Row). nat_lt (row_rank ranks a) (row_rank ranks b))
    (λ (a b : Row). nat_eq (row_rank ranks a) (row_rank ranks b))
    (λ (a b : Row). nat_lt (row_begin a) (row_begin b) || (nat_eq (row_begin a) (row_begin b) && nat_lt a.end b.end))
    (by_rank ranks)
    (lex (λ (a b : Row). nat_lt (row_begin a) (row_begin b)) (λ (a b : Row). nat_eq (row_begin a) (row_begin b))
    (λ (a b : Row). nat_lt a.end b.end) by_begin by_end.order)

-- of one rank and turn, and alike in the rest
abbrev pub row_alike : List ℕ → Row → Row → Bool
row_alike ranks a b =
    nat_eq (row_rank ranks a) (row_rank ranks b)
    && (nat_eq (row_begin a) (row_begin b) && (nat_eq a.end b.end && nat_eq a.turn b.turn))

-- with turns
pub rows_first : (ranks : List ℕ) → Tested (row_first ranks) (row_alike ranks)
rows_first ranks =
    lex_tested (λ (a b : Row). nat_lt (row_rank ranks a) (row_rank ranks b))
    (λ (a b : Row). nat_eq (row_rank ranks a) (row_rank ranks b))
    (λ (a b : Row). nat_lt (row_begin a) (row_begin b) || (nat_eq (row_begin a) (row_begin b)
    && (nat_lt a.end b.end || (nat_eq a.end b.end && nat_lt a.turn b.turn))))
    (λ (a b : Row). nat_eq (row_begin a) (row_begin b) && (nat_eq a.end b.end && nat_eq a.turn b.turn))
    (by_rank ranks)
    (lex_tested (λ (a b : Row). nat_lt (row_begin a) (row_begin b)) (λ (a b : Row). nat_eq (row_begin a) (row_begin b))
    (λ (a b : Row). nat_lt a.end b.end || (nat_eq a.end b.end && nat_lt a.turn b.turn))
    (λ (a b : Row). nat_eq a.end b.end && nat_eq a.turn b.turn)
    by_begin
    (lex_tested (λ (a b : Row). nat_lt a.end b.end) (λ (a b : Row). nat_eq a.end b.end)
    (λ (a b : Row). nat_lt a.turn b.turn) (λ (a b : Row). nat_eq a.turn b.turn) by_end by_turn))

pub each_known : (origins : List Origin) (rows : List Row) → All (IsKnown origins) rows → Each
    (IsKnown origins) rows
each_known origins rows known = each_from (IsKnown origins) rows
    (λ r one. All-contains (IsKnown origins) rows r known one)

-- rows in order by these numbers stand for the heads in order
pub sorted_rows : (origins : List Origin) (rows : List Row) → All (IsKnown origins) rows
    → map (head_in_row origins) (sort_by (row_before (map (rank_in origins) origins)) rows)
    ≡ in_head_order (map (head_in_row origins) rows)
sorted_rows origins rows known =
    sort_through (head_in_row origins) (row_before (map (rank_in origins) origins)) head_before (IsKnown origins)
    (rows_compare origins) rows (each_known origins rows known)
