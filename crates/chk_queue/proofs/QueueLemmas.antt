-- Fronts of a queue, and how much data it has.
use Rattle.std.proofs.Common.{◌≡◌, ◌⊎◌, inl, inr, ℕ, zero, suc, not, ◌+◌, ◌-◌, ◌<◌, ◌≤◌, Bool, true, false, cond, set, List, [], ◌∷◌, ◌++◌, length, take, drop, get_or, refl, sym, subst, add-one, ap, ap₂, ◌∙◌, arith}
use Rattle.std.proofs.lemmas.List.{take-append-drop, drop-drop, length-append, length-take-le, length-set, append-nil, get_or-drop, take-set, take-set-le, take_more_set, drop-set-lt}
use Rattle.std.specs.List.{SwappedAt, filter}
use Rattle.std.proofs.lemmas.List.Filters.{sum_by-filter_both}
use Rattle.std.proofs.lemmas.List.Sums.{sum_by-append, sum_by-cons}
use Rattle.chk_chunk.specs.Lent.{chunk_of, chunks_of}
use Rattle.chk_chunk.specs.Posts.{written_part, written_parts}
use Rattle.chk_chunk.specs.declared.Chunk.{Chunk}
use Rattle.chk_chunk.proofs.PostWriting.{written_parts_more}
use Rattle.chk_queue.specs.Queues.{IsLongestFront, data_size, marked}

-- a longer front is no shorter as a post
pub parts_longer : (chunks : List Chunk) (m n : ℕ) → m ≤ n
    → length (written_parts (chunks_of (take m chunks))) ≤ length
    (written_parts (chunks_of (take n chunks)))
parts_longer chunks zero n less = omega arith
parts_longer [] (suc m) zero less = absurd (omega arith)
parts_longer [] (suc m) (suc n) less = omega arith
parts_longer (c ∷ chunks) (suc m) zero less = absurd (omega arith)
parts_longer (c ∷ chunks) (suc m) (suc n) less =
    let rest = parts_longer chunks m n (omega arith) in
    omega (
      arith,
      length-append (written_part (chunk_of c)) (written_parts (chunks_of (take m chunks))),
      length-append (written_part (chunk_of c)) (written_parts (chunks_of (take n chunks))),
    )

-- one chunk more
pub parts_more : (chunks : List Chunk) (i : ℕ) (c : Chunk) → i < length chunks
    → c ≡ get_or chunks i c
    → length (written_parts (chunks_of (take (i + 1) chunks)))
    ≡ length (written_parts (chunks_of (take i chunks))) + length (written_part (chunk_of c))
parts_more chunks i c within is =
    ap length (written_parts_more chunks i c within is)
    ∙ length-append (written_parts (chunks_of (take i chunks))) (written_part (chunk_of c))

-- a front of so many
front_size : (chunks : List Chunk) (count : ℕ) → count ≤ length chunks
    → length (take count chunks) ≡ count
front_size chunks count within = length-take-le count chunks within

-- the next chunk doesn't fit
pub front_before_next : (chunks : List Chunk) (count most bytes left size : ℕ) (c : Chunk)
    → count < length chunks
    → count < most → left + (4 + length (written_parts (chunks_of (take count chunks)))) ≡ bytes
    → size ≡ length (written_part (chunk_of c)) → c ≡ get_or chunks count c → left < size
    → IsLongestFront chunks (take count chunks) most bytes
front_before_next chunks count most bytes left size c within below so_far size_is is over =
    let front : length (take count chunks) ≡ count = front_size chunks count (omega arith) in
    let more = parts_more chunks count c within is in
    record {
      is = ap (λ n. take n chunks) (sym front);
      few = omega arith;
      short = λ some. omega arith;
      longest = λ n longer inside few.
          let longest = parts_longer chunks (count + 1) n (omega arith) in
          omega arith;
    }

-- the marked chunks among one more
marked_suc : (kept : List Bool) (chunks : List Chunk) (i : ℕ) (k : Bool) (c : Chunk)
    → i < length kept
    → i < length chunks → get_or kept i false ≡ k → c ≡ get_or chunks i c
    → marked (take (suc i) kept) (take (suc i) chunks)
    ≡ marked (take i kept) (take i chunks) ++ cond k (c ∷ []) []
marked_suc [] chunks i k c kept_in within k_is c_is = absurd (omega arith)
marked_suc (j ∷ kept) [] i k c kept_in within k_is c_is = absurd (omega arith)
marked_suc (j ∷ kept) (d ∷ chunks) zero k c kept_in within k_is c_is =
    ap₂ (λ b x. cond b (x ∷ []) []) k_is (sym c_is)
marked_suc (j ∷ kept) (d ∷ chunks) (suc i) k c kept_in within k_is c_is =
    by j (marked_suc kept chunks i k c (omega arith) (omega arith) k_is c_is)
  where
    by : (b : Bool)
        → marked (take (suc i) kept) (take (suc i) chunks)
        ≡ marked (take i kept) (take i chunks) ++ cond k (c ∷ []) []
        → cond b (d ∷ marked (take (suc i) kept) (take (suc i) chunks))
        (marked (take (suc i) kept) (take (suc i) chunks))
        ≡ cond b (d ∷ marked (take i kept) (take i chunks)) (marked (take i kept) (take i chunks))
        ++ cond k (c ∷ []) []
    by true e = ap (λ l. d ∷ l) e
    by false e = e

marked_more : (kept : List Bool) (chunks : List Chunk) (i : ℕ) (k : Bool) (c : Chunk)
    → i < length kept
    → i < length chunks → get_or kept i false ≡ k → c ≡ get_or chunks i c
    → marked (take (i + 1) kept) (take (i + 1) chunks)
    ≡ marked (take i kept) (take i chunks) ++ cond k (c ∷ []) []
marked_more kept chunks i k c kept_in within k_is c_is =
    subst (λ n. marked (take n kept) (take n chunks)
    ≡ marked (take i kept) (take i chunks) ++ cond k (c ∷ []) [])
    (sym (add-one i)) (marked_suc kept chunks i k c kept_in within k_is c_is)

-- the front after two writes, of which the second lies no earlier
taken_front : (chunks : List Chunk) (count place : ℕ) (x y : Chunk) → count ≤ place
    → place < length chunks
    → (count ≡ place → x ≡ y) → take (count + 1) (set (set chunks count x) place y)
    ≡ take count chunks ++ x ∷ []
taken_front chunks count place x y before within same = by order
  where
    order : (count < place) ⊎ (count ≡ place)
    order = grind arith

    by : (count < place) ⊎ (count ≡ place)
        → take (count + 1) (set (set chunks count x) place y) ≡ take count chunks ++ x ∷ []
    by (inl less) =
        take-set-le (count + 1) (set chunks count x) place y (omega arith)
        ∙ take_more_set chunks count x (omega arith)
    by (inr is) =
        ap (λ n. take (count + 1) (set (set chunks count x) n y)) (sym is)
        ∙ take_more_set (set chunks count x) count y (omega (arith, length-set chunks count x))
        ∙ ap₂ (λ l z. l ++ z ∷ []) (take-set chunks count x) (sym (same is))

-- a chunk moved to the end of those that are kept, which lie no later
moved_front : (chunks new : List Chunk) (count place : ℕ) (c : Chunk) → count ≤ place
    → place < length chunks
    → c ≡ get_or chunks place c → SwappedAt chunks new count place
    → take (count + 1) new ≡ take count chunks ++ c ∷ []
moved_front chunks new count place c before within is moved =
    ap (take (count + 1)) (moved.3 c)
    ∙ taken_front chunks count place (get_or chunks place c) (get_or chunks count c) before within
    (λ same. ap (λ n. get_or chunks n c) (sym same))
    ∙ ap (λ x. take count chunks ++ x ∷ []) (sym is)

moved_rest : (chunks new : List Chunk) (count place : ℕ) (d : Chunk) → count ≤ place
    → SwappedAt chunks new count place → drop (place + 1) new ≡ drop (place + 1) chunks
moved_rest chunks new count place d before moved =
    ap (drop (place + 1)) (moved.3 d)
    ∙ drop-set-lt (place + 1) (set chunks count (get_or chunks place d)) place
    (get_or chunks count d) (omega arith)
    ∙ drop-set-lt (place + 1) chunks count (get_or chunks place d) (omega arith)

-- where there is a place, a chunk stands
one_at : (chunks : List Chunk) (i : ℕ) → i < length chunks → (c : Chunk) × (c ≡ get_or chunks i c)
one_at [] i within = absurd (omega arith)
one_at (c ∷ chunks) zero within = (c, refl)
one_at (c ∷ chunks) (suc i) within = one_at chunks i (omega arith)

-- the places behind one more
behind_next : (chunks first : List Chunk) (place : ℕ) → drop place chunks ≡ drop place first
    → drop (place + 1) chunks ≡ drop (place + 1) first
behind_next chunks first place same =
    sym (drop-drop 1 place chunks) ∙ ap (drop 1) same ∙ drop-drop 1 place first

-- one place more: the chunk moves to the end of those that are kept, or stays behind
module _ (kept : List Bool) (first chunks : List Chunk) (count place : ℕ)
    (there : place < length kept)
    (all : length kept ≡ length first) (size : length chunks ≡ length first)
    (before : count ≤ place)
    (rest : drop place chunks ≡ drop place first)
    (front : take count chunks ≡ marked (take place kept) (take place first)) where
  same_here : (c : Chunk) → get_or chunks place c ≡ get_or first place c
  same_here c =
      ap (λ n. get_or chunks n c) (omega arith) ∙ sym (get_or-drop place chunks 0 c)
      ∙ ap (λ l. get_or l 0 c) rest ∙ get_or-drop place first 0 c
      ∙ ap (λ n. get_or first n c) (omega arith)

  pub kept_next : (new : List Chunk) → get_or kept place false ≡ true
      → SwappedAt chunks new count place
      → (take (count + 1) new ≡ marked (take (place + 1) kept) (take (place + 1) first))
      × (drop (place + 1) new ≡ drop (place + 1) first)
  kept_next new is moved =
      let (c, c_is) = one_at first place (omega arith) in (
        moved_front chunks new count place c before (omega arith) (c_is ∙ sym (same_here c)) moved
            ∙ ap (λ l. l ++ c ∷ []) front
            ∙ sym (marked_more kept first place true c there (omega arith) is c_is),
        moved_rest chunks new count place c before moved ∙ behind_next chunks first place rest,
      )

  pub left_next : get_or kept place false ≡ false
      → (take count chunks ≡ marked (take (place + 1) kept) (take (place + 1) first))
      × (drop (place + 1) chunks ≡ drop (place + 1) first)
  left_next is =
      let (c, c_is) = one_at first place (omega arith) in (
        front ∙ sym (append-nil (marked (take place kept) (take place first)))
            ∙ sym (marked_more kept first place false c there (omega arith) is c_is),
        behind_next chunks first place rest,
      )

-- the marked chunks have no more data than all
pub data_size-marked : (kept : List Bool) (chunks : List Chunk)
    → data_size (marked kept chunks) ≤ data_size chunks
data_size-marked [] chunks = omega arith
data_size-marked (k ∷ kept) [] = omega arith
data_size-marked (true ∷ kept) (c ∷ chunks) =
    let rest = data_size-marked kept chunks in
    omega (
      arith,
      rest,
      sum_by-cons (λ (d : Chunk). length d.body) c chunks,
      sum_by-cons (λ (d : Chunk). length d.body) c (marked kept chunks),
    )
data_size-marked (false ∷ kept) (c ∷ chunks) =
    omega (arith, data_size-marked kept chunks, sum_by-cons (λ (d : Chunk). length d.body) c chunks)

-- how much data is left behind a front
pub data_size-drop : (chunks : List Chunk) (first count used front : ℕ)
    → used ≡ data_size (drop first chunks)
    → front ≡ data_size (take count (drop first chunks))
    → used - front ≡ data_size (drop (first + count) chunks)
data_size-drop chunks first count used front used_is front_is =
    let whole : data_size (drop first chunks)
    ≡ data_size (take count (drop first chunks)) + data_size (drop count (drop first chunks)) =
    ap data_size (sym (take-append-drop count (drop first chunks)))
    ∙ sum_by-append (λ (c : Chunk). length c.body) (take count (drop first chunks))
    (drop count (drop first chunks)) in
    let rest = ap data_size (drop-drop count first chunks) in
    omega arith

-- the data of the chunks that are kept
pub kept_size : (marks : List Bool) (chunks kept : List Chunk) (first used : ℕ)
    → used ≡ data_size (drop first chunks)
    → kept ≡ marked marks (drop first chunks) → data_size kept ≤ used
kept_size marks chunks kept first used used_is kept_is =
    omega (arith, ap data_size kept_is, data_size-marked marks (drop first chunks))

-- those that pass a test have no more data than all
pub data_size-filter : (keeps : Chunk → Bool) (chunks : List Chunk)
    → data_size (filter keeps chunks) ≤ data_size chunks
data_size-filter keeps chunks =
    let whole = sum_by-filter_both keeps (λ c. not (keeps c)) (λ _. refl) (λ c. length c.body) chunks in
    omega (arith, whole)
