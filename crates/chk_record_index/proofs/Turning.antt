-- Rows that took turns: an unstable sort that looks at them last gives what a stable one gives.
use Rattle.std.proofs.Common.{◌≡◌, inl, inr, ℕ, zero, suc, ◌<◌, ◌≤◌, ◌+◌, Bool, true, false, ◌&&◌, ◌||◌, not, cond, List, [], ◌∷◌, ◌++◌, length, take, drop, set, ap, sym, subst, ◌∙◌, refl, arith, true≢false}
use Rattle.std.specs.Prelude.{nat_lt, nat_eq, All, Contains, filter, count_by, map, slice_index_or}
use Rattle.std.specs.List.Sorted.{ties, IsSortedBy, IsStableBy, IsPermutation}
use Rattle.std.proofs.lemmas.Bool.{cases_Bool, and_parts, not-true, eqb-true, le-ltb}
use Rattle.std.proofs.Math.Seq.{take-append_seam}
use Rattle.std.proofs.lemmas.List.{length-map}
use Rattle.std.proofs.lemmas.List.Quantifiers.{all_pairs_push}
use Rattle.std.proofs.lemmas.List.Sums.{length-filter}
use Rattle.std.proofs.lemmas.List.Sorted.{sum_by-IsPermutation, Contains-permutation}
use Rattle.std.proofs.lemmas.List.Elements.{All-nil, All-cons, All-head, All-tail, All-append}
use Rattle.chk_world.proofs.Each.{Each, each_at, each_as, filter_in, filter_each, passes_in}
use Rattle.chk_record_index.specs.declared.origins.Origin.{Origin}
use Rattle.chk_record_index.specs.declared.gather.Row.{Row}
use Rattle.chk_record_index.specs.HeadRows.{row_begin, head_in_row}
use Rattle.chk_record_index.specs.Order.{put_by, sort_by, in_head_order, rank_in, row_rank, row_before, row_first, without_turn, TakeTurns}
use Rattle.chk_record_index.proofs.Sorting.{each_put, sorted_is}
use Rattle.chk_record_index.proofs.Ranks.{IsKnown, rows_first, sorted_rows, count_cons}

-- ---- one list by turns alone

-- each later one has a later turn
abbrev Turns : List Row → Type 0
Turns [] = Unit {0}
Turns (r ∷ rs) = Each (λ (s : Row). r.turn < s.turn) rs × Turns rs

turns_of : (rows : List Row) → TakeTurns rows → Turns rows
turns_of [] take = tt
turns_of (r ∷ rs) take = (
  later rs (λ k d low. take 0 (suc k) d (omega arith) (omega (arith, low))),
  turns_of rs (λ i j d low high. take (suc i) (suc j) d (omega (arith, low)) (omega (arith, high))),
)
  where
    later : (ss : List Row) → ((k : ℕ) (d : Row) → k < length ss → r.turn < (slice_index_or ss k d).turn)
        → Each (λ (s : Row). r.turn < s.turn) ss
    later [] all = tt
    later (s ∷ ss) all = (all 0 s (omega arith), later ss (λ k d low. all (suc k) d (omega (arith, low))))

-- those that tie by turns are of one turn
tied : (ranks : List ℕ) (a b : Row) → ties (row_first ranks) a b ≡ true → a.turn ≡ b.turn
tied ranks a b h =
    let p = and_parts (not (row_first ranks a b)) (not (row_first ranks b a)) h in
    let alike = (rows_first ranks).are_alike a b (not-true (row_first ranks a b) p.0) (not-true (row_first ranks b a) p.1) in
    let q = and_parts (nat_eq (row_rank ranks a) (row_rank ranks b))
    (nat_eq (row_begin a) (row_begin b) && (nat_eq a.end b.end && nat_eq a.turn b.turn)) alike in
    let r = and_parts (nat_eq (row_begin a) (row_begin b)) (nat_eq a.end b.end && nat_eq a.turn b.turn) q.1 in
    let t = and_parts (nat_eq a.end b.end) (nat_eq a.turn b.turn) r.1 in
    eqb-true a.turn b.turn t.1

no_count : (b : Bool) → b ≡ false → cond {A = ℕ} b 1 0 ≡ 0
no_count true e = absurd (true≢false e)
no_count false e = refl

count_none : {X : Type 0} (p : X → Bool) (xs : List X) → Each (λ x. p x ≡ false) xs → count_by p xs ≡ 0
count_none p [] none = refl
count_none p (x ∷ xs) none =
    let here = no_count (p x) none.0 in
    let whole = count_cons p x xs in
    let rest = count_none p xs none.1 in
    omega (arith, here, whole, rest)

-- at most one ties with a row
once : (ranks : List ℕ) (z : Row) (rows : List Row) → Turns rows → count_by (ties (row_first ranks) z) rows ≤ 1
once ranks z [] turns = omega arith
once ranks z (r ∷ rs) turns =
    let whole = go (ties (row_first ranks) z r) refl (once ranks z rs turns.1) in
    omega (arith, count_cons (ties (row_first ranks) z) r rs, whole)
  where
    others : ties (row_first ranks) z r ≡ true → count_by (ties (row_first ranks) z) rs ≡ 0
    others h = count_none (ties (row_first ranks) z) rs
        (each_as (λ (s : Row). r.turn < s.turn) (λ s. ties (row_first ranks) z s ≡ false) rs
        (λ s later. elim (cases_Bool (ties (row_first ranks) z s)) [
          | inl is_so ↦
              let a = tied ranks z r h in
              let b = tied ranks z s is_so in
              absurd (let bad : ⊥ = omega (arith, later, a, b) in bad)
          | inr not_so ↦ not_so
        ]) turns.0)

    go : (b : Bool) → ties (row_first ranks) z r ≡ b → count_by (ties (row_first ranks) z) rs ≤ 1
        → cond b 1 0 + count_by (ties (row_first ranks) z) rs ≤ 1
    go true h rest = let none = others h in omega (arith, none)
    go false h rest = omega (arith, rest)

-- ---- what passes at most once stands as it stood

one_list : {X : Type 0} (xs ys : List X) → length ys ≡ length xs → length xs ≤ 1
    → ((x : X) → Contains xs x → Contains ys x) → ys ≡ xs
one_list [] [] same few in_ys = refl
one_list [] (y ∷ ys) same few in_ys = absurd (let bad : ⊥ = omega (arith, same) in bad)
one_list (x ∷ xs) [] same few in_ys = absurd (let bad : ⊥ = omega (arith, same) in bad)
one_list (x ∷ []) (y ∷ []) same few in_ys = ap (λ z. z ∷ []) (first x y (in_ys x (0, omega arith, refl)))
  where
    first : {X : Type 0} (x y : X) → Contains (y ∷ []) x → y ≡ x
    first x y (zero, below, at) = at
    first x y (suc k, below, at) = absurd (let bad : ⊥ = omega (arith, below) in bad)
one_list (x ∷ []) (y ∷ y2 ∷ ys) same few in_ys = absurd (let bad : ⊥ = omega (arith, same) in bad)
one_list (x ∷ x2 ∷ xs) ys same few in_ys = absurd (let bad : ⊥ = omega (arith, few) in bad)

few_stand : {X : Type 0} (p : X → Bool) (xs ys : List X) → IsPermutation xs ys → count_by p xs ≤ 1
    → filter p ys ≡ filter p xs
few_stand p xs ys moved few =
    one_list (filter p xs) (filter p ys)
    (length-filter p ys ∙ (sum_by-IsPermutation (λ x. cond (p x) 1 0) xs ys moved ∙ sym (length-filter p xs)))
    (let l = length-filter p xs in omega (arith, few, l))
    (λ x one. passes_in p ys x (Contains-permutation xs ys x moved (filter_in p xs x one))
    (each_at (λ y. p y ≡ true) (filter p xs) x (filter_each p xs) one))

-- ---- turns that tell nothing

bools : (r q b c e d t : Bool) → t ≡ false
    → (r || (q && (b || (c && (e || (d && t)))))) ≡ (r || (q && (b || (c && e))))
bools r q b c e d true h = absurd (true≢false h)
bools r q b c e true false h = ap (λ x. r || (q && (b || (c && x)))) (or_no e)
  where
    or_no : (e : Bool) → (e || false) ≡ e
    or_no true = refl
    or_no false = refl
bools r q b c e false false h = ap (λ x. r || (q && (b || (c && x)))) (or_no e)
  where
    or_no : (e : Bool) → (e || false) ≡ e
    or_no true = refl
    or_no false = refl

-- x stands before y
stand_alike : (ranks : List ℕ) (x y : Row) → x.turn < y.turn → row_first ranks y x ≡ row_before ranks y x
stand_alike ranks x y later =
    bools (nat_lt (row_rank ranks y) (row_rank ranks x)) (nat_eq (row_rank ranks y) (row_rank ranks x))
    (nat_lt (row_begin y) (row_begin x)) (nat_eq (row_begin y) (row_begin x)) (nat_lt y.end x.end) (nat_eq y.end x.end)
    (nat_lt y.turn x.turn) (le-ltb y.turn x.turn (omega (arith, later)))

put_alike : {X : Type 0} (lt lt2 : X → X → Bool) (x : X) (ys : List X) → Each (λ y. lt y x ≡ lt2 y x) ys
    → put_by lt x ys ≡ put_by lt2 x ys
put_alike lt lt2 x [] same = refl
put_alike {X = X} lt lt2 x (y ∷ ys) same = go (lt y x) (lt2 y x) same.0 (put_alike lt lt2 x ys same.1)
  where
    go : (b c : Bool) → b ≡ c → put_by lt x ys ≡ put_by lt2 x ys
        → elim b as (λ t. List X) [ true ↦ y ∷ put_by lt x ys | false ↦ x ∷ y ∷ ys ]
        ≡ elim c as (λ t. List X) [ true ↦ y ∷ put_by lt2 x ys | false ↦ x ∷ y ∷ ys ]
    go true true e rest = ap (λ l. y ∷ l) rest
    go true false e rest = absurd (true≢false e)
    go false true e rest = absurd (true≢false (sym e))
    go false false e rest = refl

each_sorted : {X : Type 0} (lt : X → X → Bool) (P : X → Type 0) (xs : List X) → Each P xs → Each P (sort_by lt xs)
each_sorted lt P [] all = tt
each_sorted lt P (x ∷ xs) all = each_put lt P x (sort_by lt xs) all.0 (each_sorted lt P xs all.1)

sort_alike : (ranks : List ℕ) (rows : List Row) → Turns rows
    → sort_by (row_first ranks) rows ≡ sort_by (row_before ranks) rows
sort_alike ranks [] turns = refl
sort_alike ranks (r ∷ rs) turns =
    ap (put_by (row_first ranks) r) (sort_alike ranks rs turns.1)
    ∙ put_alike (row_first ranks) (row_before ranks) r (sort_by (row_before ranks) rs)
    (each_as (λ (s : Row). r.turn < s.turn)
    (λ s. row_first ranks s r ≡ row_before ranks s r) (sort_by (row_before ranks) rs)
    (λ s later. stand_alike ranks r s later)
    (each_sorted (row_before ranks) (λ (s : Row). r.turn < s.turn) rs turns.0))

-- ---- rows

pub heads_same : (origins : List Origin) (old new : List Row) → map without_turn new ≡ map without_turn old
    → map (head_in_row origins) new ≡ map (head_in_row origins) old
heads_same origins old new same = sym (through new) ∙ (ap (map (head_in_row origins)) same ∙ through old)
  where
    through : (rows : List Row) → map (head_in_row origins) (map without_turn rows) ≡ map (head_in_row origins) rows
    through [] = refl
    through (r ∷ rs) = ap (λ l. head_in_row origins r ∷ l) (through rs)

-- each has its origin still
pub kept_known : (origins : List Origin) (old new : List Row) → map without_turn new ≡ map without_turn old
    → All (IsKnown origins) old → All (IsKnown origins) new
kept_known origins old [] same known = All-nil (IsKnown origins)
kept_known origins [] (n ∷ ns) same known = absurd (let e = ap length same in let bad : ⊥ = omega (arith, e) in bad)
kept_known origins (r ∷ rs) (n ∷ ns) same known =
    let one : n.origin ≡ r.origin = ap (λ l. (first l).origin) same in
    let rest : map without_turn ns ≡ map without_turn rs = ap after same in
    All-cons (IsKnown origins) n ns
    (subst (λ k. k < length origins) (sym one) (All-head (IsKnown origins) r rs known))
    (kept_known origins rs ns rest (All-tail (IsKnown origins) r rs known))
  where
    first : List Row → Row
    first [] = r
    first (x ∷ xs) = x

    after : List Row → List Row
    after [] = []
    after (x ∷ xs) = xs

-- ---- numbering

-- rows that took turns, all before this one
pub record Numbered (next : ℕ) (rows : List Row) : Type 0 where
  pub take : TakeTurns rows
  pub below : All (λ (r : Row). r.turn < next) rows

pub none_numbered : Numbered 0 []
none_numbered = record {
  take = λ i j d low high. absurd (let bad : ⊥ = omega (arith, high) in bad);
  below = All-nil (λ (r : Row). r.turn < 0);
}

-- one more takes it
pub number_more : (next : ℕ) (rows : List Row) (r : Row) → Numbered next rows → r.turn ≡ next
    → Numbered (next + 1) (rows ++ r ∷ [])
number_more next rows r n is = record {
  take = all_pairs_push (λ (s t : Row). s.turn < t.turn) rows r n.take
      (λ k d there. let below = n.below k d there in omega (arith, below, is));
  below = All-append (λ (s : Row). s.turn < next + 1) rows (r ∷ [])
      (λ k d there. let below = n.below k d there in omega (arith, below))
      (All-cons (λ (s : Row). s.turn < next + 1) r [] (omega (arith, is)) (All-nil (λ (s : Row). s.turn < next + 1)));
}

abbrev pub no_row : Row
no_row = record { origin = 0; file = 0; size = 0; turn = 0; end = 0; at = 0 }

abbrev pub with_turn : ℕ → Row → Row
with_turn n r = record { origin = r.origin; file = r.file; size = r.size; turn = n; end = r.end; at = r.at }

-- one that takes a turn stays what it is
pub turn_same : (rows : List Row) (i n : ℕ)
    → map without_turn (set rows i (with_turn n (slice_index_or rows i no_row))) ≡ map without_turn rows
turn_same [] zero n = refl
turn_same [] (suc i) n = refl
turn_same (r ∷ rs) zero n = refl
turn_same (r ∷ rs) (suc i) n = ap (λ l. without_turn r ∷ l) (turn_same rs i n)

-- the rows that a slice of a list wrote back
pub written : (rows turned : List Row) (n : ℕ) → map without_turn turned ≡ map without_turn rows → n ≡ length rows
    → take n (turned ++ drop (length turned) rows) ≡ turned
written rows turned n same is =
    let long : length turned ≡ length rows =
    sym (length-map turned without_turn) ∙ (ap length same ∙ length-map rows without_turn) in
    ap (λ k. take k (turned ++ drop (length turned) rows)) (is ∙ sym long)
    ∙ take-append_seam turned (drop (length turned) rows)

-- rows that took turns and were put in order, the turns last, stand for the heads in order
pub turned_rows : (origins : List Origin) (rows turned sorted : List Row) → All (IsKnown origins) rows
    → map without_turn turned ≡ map without_turn rows → TakeTurns turned
    → IsPermutation turned sorted → IsSortedBy (row_first (map (rank_in origins) origins)) sorted
    → map (head_in_row origins) sorted ≡ in_head_order (map (head_in_row origins) rows)
turned_rows origins rows turned sorted known same take moved up =
    let ranks = map (rank_in origins) origins in
    let turns = turns_of turned take in
    let stable : IsStableBy (row_first ranks) turned sorted =
    λ z. few_stand (ties (row_first ranks) z) turned sorted moved (once ranks z turned turns) in
    ap (map (head_in_row origins)) (sorted_is (row_first ranks) (rows_first ranks).order turned sorted up stable
    ∙ sort_alike ranks turned turns)
    ∙ (sorted_rows origins turned (kept_known origins rows turned same known)
    ∙ ap in_head_order (heads_same origins rows turned same))
