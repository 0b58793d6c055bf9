-- A pass over chunks that stand stream by stream is a pass over each stream's.
use Rattle.std.proofs.Common.{◌≡◌, ℕ, Bool, true, false, cond, List, [], ◌∷◌, ◌++◌, ap, sym, subst, ◌∙◌, refl, true≢false, append-nil, inl, inr, if◌then◌else◌}
use Rattle.std.specs.Prelude.{filter, flat_map, nat_lt}
use Rattle.std.proofs.lemmas.Bool.{cases_Bool}
use Rattle.chk_chunk.specs.Keys.{Stream, Chunk, chunk_end, same_stream, is_of}
use Rattle.chk_world.specs.ArchiveRuns.{with_end}
use Rattle.chk_world.proofs.NameTests.{streams_same}
use Rattle.chk_world.proofs.Each.{Each}
use Rattle.chk_archive_plan.specs.Plan.{goes_on, part_past, parts_from, reached_from, parts_of, ends_of, is_past}
use Rattle.chk_archive_plan.proofs.Parts.{ends_at, own_end, stream_self}
use Rattle.chk_archive_plan.proofs.Gaps.{past}

-- the chunks of one stream
pub record Block : Type 0 where
  pub stream : Stream
  pub chunks : List Chunk

abbrev pub all_chunks : List Block → List Chunk
all_chunks bs = flat_map (λ (b : Block). b.chunks) bs

abbrev pub AreOf : Stream → Bool → List Chunk → Type 0
AreOf s is cs = Each (λ c. is_of s c ≡ is) cs

-- each block is all of its stream
abbrev pub AreBlocks : List Block → Type 0
AreBlocks [] = Unit {0}
AreBlocks (b ∷ bs) =
    AreOf b.stream true b.chunks × AreOf b.stream false (all_chunks bs)
    × Each (λ d. same_stream b.stream d.stream ≡ false) bs × AreBlocks bs

-- ---- lists

filter_append : (p : Chunk → Bool) (xs ys : List Chunk) → filter p (xs ++ ys)
    ≡ filter p xs ++ filter p ys
filter_append p [] ys = refl
filter_append p (x ∷ xs) ys = go (p x) (filter_append p xs ys)
  where
    go : (b : Bool) → filter p (xs ++ ys) ≡ filter p xs ++ filter p ys
        → cond b (x ∷ filter p (xs ++ ys)) (filter p (xs ++ ys)) ≡ cond b (x ∷ filter p xs)
        (filter p xs) ++ filter p ys
    go true e = ap (λ l. x ∷ l) e
    go false e = e

pub filter_all : (p : Chunk → Bool) (xs : List Chunk) → Each (λ c. p c ≡ true) xs → filter p xs ≡ xs
filter_all p [] all = refl
filter_all p (x ∷ xs) all =
    ap (λ b. cond b (x ∷ filter p xs) (filter p xs)) all.0 ∙ ap (λ l. x ∷ l) (filter_all p xs all.1)

filter_none : (p : Chunk → Bool) (xs : List Chunk) → Each (λ c. p c ≡ false) xs → filter p xs ≡ []
filter_none p [] all = refl
filter_none p (x ∷ xs) all =
    ap (λ b. cond b (x ∷ filter p xs) (filter p xs)) all.0 ∙ filter_none p xs all.1

filter_same : (p q : Chunk → Bool) (xs : List Chunk) → Each (λ c. p c ≡ q c) xs → filter p xs
    ≡ filter q xs
filter_same p q [] all = refl
filter_same p q (x ∷ xs) all =
    ap (λ b. cond b (x ∷ filter p xs) (filter p xs)) all.0
    ∙ ap (λ l. cond (q x) (x ∷ l) l) (filter_same p q xs all.1)

-- ---- parts

-- two passes give the same where they begin at the same ends
parts_same : (ends others : Stream → ℕ) (cs : List Chunk) → Each
    (λ c. ends c.key.stream ≡ others c.key.stream) cs
    → parts_of ends cs ≡ parts_of others cs
parts_same ends others [] all = refl
parts_same ends others (c ∷ cs) all =
    go (goes_on (ends c.key.stream) c) (goes_on (others c.key.stream) c)
    (ap (λ n. goes_on n c) all.0)
    (parts_same (with_end ends c.key.stream (chunk_end c))
    (with_end others c.key.stream (chunk_end c)) cs (both cs all.1))
    (parts_same ends others cs all.1)
  where
    both : (ds : List Chunk) → Each (λ d. ends d.key.stream ≡ others d.key.stream) ds
        → Each (λ d. with_end ends c.key.stream (chunk_end c) d.key.stream
        ≡ with_end others c.key.stream (chunk_end c) d.key.stream) ds
    both [] all = tt
    both (d ∷ ds) all =
        (ap (λ n. if same_stream c.key.stream d.key.stream then chunk_end c else n) all.0, both ds all.1)

    go : (a b : Bool) → a ≡ b
        → parts_of (with_end ends c.key.stream (chunk_end c)) cs ≡ parts_of
        (with_end others c.key.stream (chunk_end c)) cs
        → parts_of ends cs ≡ parts_of others cs
        → elim a as (λ t. List Chunk) [
          | true ↦ part_past (ends c.key.stream) c ∷ parts_of
              (with_end ends c.key.stream (chunk_end c)) cs
          | false ↦ parts_of ends cs
        ]
        ≡ elim b as (λ t. List Chunk) [
          | true ↦ part_past (others c.key.stream) c ∷ parts_of
              (with_end others c.key.stream (chunk_end c)) cs
          | false ↦ parts_of others cs
        ]
    go true true e on off = ap (λ n. part_past n c ∷ parts_of
        (with_end ends c.key.stream (chunk_end c)) cs) all.0 ∙ ap
        (λ l. part_past (others c.key.stream) c ∷ l) on
    go true false e on off = absurd (true≢false e)
    go false true e on off = absurd (true≢false (sym e))
    go false false e on off = off

-- the end of another stream
others_end : (ends : Stream → ℕ) (s : Stream) (end : ℕ) (ys : List Chunk) → AreOf s false ys
    → Each (λ d. with_end ends s end d.key.stream ≡ ends d.key.stream) ys
others_end ends s end [] none = tt
others_end ends s end (y ∷ ys) none =
    (ap (λ b. if b then end else ends y.key.stream) none.0, others_end ends s end ys none.1)

block_parts : (ends : Stream → ℕ) (s : Stream) (xs ys : List Chunk) → AreOf s true xs
    → AreOf s false ys
    → parts_of ends (xs ++ ys) ≡ parts_from (ends s) xs ++ parts_of ends ys
block_parts ends s [] ys all none = refl
block_parts ends s (c ∷ xs) ys all none =
    let is : s ≡ c.key.stream = streams_same s c.key.stream all.0 in
    subst (λ t. elim (goes_on (ends t) c) as
    (λ b. List Chunk) [
      | true ↦ part_past (ends t) c ∷ parts_of (with_end ends t (chunk_end c))
          (xs ++ ys)
      | false ↦ parts_of ends (xs ++ ys)
    ]
    ≡ elim (goes_on (ends s) c) as (λ b. List Chunk) [
      | true ↦ part_past (ends s) c ∷ parts_from
          (chunk_end c) xs
      | false ↦ parts_from (ends s) xs
    ] ++ parts_of ends ys) is
    (go (goes_on (ends s) c) (block_parts (with_end ends s (chunk_end c)) s xs ys all.1 none)
    (block_parts ends s xs ys all.1 none))
  where
    go : (b : Bool)
        → parts_of (with_end ends s (chunk_end c)) (xs ++ ys) ≡ parts_from
        (with_end ends s (chunk_end c) s) xs ++ parts_of (with_end ends s (chunk_end c)) ys
        → parts_of ends (xs ++ ys) ≡ parts_from (ends s) xs ++ parts_of ends ys
        → elim b as (λ b. List Chunk) [
          | true ↦ part_past (ends s) c ∷ parts_of
              (with_end ends s (chunk_end c)) (xs ++ ys)
          | false ↦ parts_of ends (xs ++ ys)
        ]
        ≡ elim b as (λ b. List Chunk) [
          | true ↦ part_past (ends s) c ∷ parts_from
              (chunk_end c) xs
          | false ↦ parts_from (ends s) xs
        ] ++ parts_of ends ys
    go true on off =
        ap (λ l. part_past (ends s) c ∷ l)
        (on ∙ (ap (λ n. parts_from n xs ++ parts_of (with_end ends s (chunk_end c)) ys)
        (own_end ends s s (chunk_end c) (stream_self s))
        ∙ ap (λ l. parts_from (chunk_end c) xs ++ l)
        (parts_same (with_end ends s (chunk_end c)) ends ys
        (others_end ends s (chunk_end c) ys none))))
    go false on off = off

-- the parts of all streams are those of each
pub blocks_parts : (ends : Stream → ℕ) (bs : List Block) → AreBlocks bs
    → parts_of ends (all_chunks bs) ≡ flat_map
    (λ (b : Block). parts_from (ends b.stream) b.chunks) bs
blocks_parts ends [] all = refl
blocks_parts ends (b ∷ bs) all =
    block_parts ends b.stream b.chunks (all_chunks bs) all.0 all.1
    ∙ ap (λ l. parts_from (ends b.stream) b.chunks ++ l) (blocks_parts ends bs all.3)

-- ---- what is past the ends

-- of a stream in a block, the end is that of the block's pass
block_end : (ends : Stream → ℕ) (b : Block) (bs : List Block) → AreBlocks (b ∷ bs)
    → ends_of ends (all_chunks (b ∷ bs)) b.stream ≡ reached_from (ends b.stream) b.chunks
block_end ends b bs all =
    ends_at ends (all_chunks (b ∷ bs)) b.stream
    ∙ ap (reached_from (ends b.stream))
    (filter_append (is_of b.stream) b.chunks (all_chunks bs)
    ∙ (ap (λ l. l ++ filter (is_of b.stream) (all_chunks bs))
    (filter_all (is_of b.stream) b.chunks all.0)
    ∙ (ap (λ l. b.chunks ++ l) (filter_none (is_of b.stream) (all_chunks bs) all.1)
    ∙ append-nil b.chunks)))

-- of another stream, it is that of the others
rest_end : (ends : Stream → ℕ) (b : Block) (bs : List Block) → AreBlocks (b ∷ bs) → (s : Stream)
    → same_stream b.stream s ≡ false
    → ends_of ends (all_chunks (b ∷ bs)) s ≡ ends_of ends (all_chunks bs) s
rest_end ends b bs all s other =
    ends_at ends (all_chunks (b ∷ bs)) s
    ∙ (ap (reached_from (ends s))
    (filter_append (is_of s) b.chunks (all_chunks bs)
    ∙ ap (λ l. l ++ filter (is_of s) (all_chunks bs))
    (filter_none (is_of s) b.chunks (none b.chunks all.0)))
    ∙ sym (ends_at ends (all_chunks bs) s))
  where
    none : (xs : List Chunk) → AreOf b.stream true xs → AreOf s false xs
    none [] all = tt
    none (x ∷ xs) all = (
      subst (λ t. same_stream s t ≡ false) (streams_same b.stream x.key.stream all.0)
          (elim (cases_Bool (same_stream s b.stream)) [
            | inl is_so ↦ absurd (true≢false (sym
                (subst (λ t. same_stream b.stream t ≡ true) (sym (streams_same s b.stream is_so))
                (stream_self b.stream)) ∙ other))
            | inr differ ↦ differ
          ]),
      none xs all.1,
    )

-- the chunks past their streams' ends, stream by stream
abbrev pub past_in : (Stream → ℕ) → Block → List Chunk
past_in ends b = past (reached_from (ends b.stream) b.chunks) b.chunks

in_block : (n : ℕ) (s : Stream) (ends : Stream → ℕ) (xs : List Chunk) → ends s ≡ n → AreOf s true xs
    → Each (λ c. is_past ends c ≡ nat_lt n (chunk_end c)) xs
in_block n s ends [] e all = tt
in_block n s ends (x ∷ xs) e all = (
  ap (λ t. nat_lt (ends t) (chunk_end x)) (sym (streams_same s x.key.stream all.0)) ∙ ap
      (λ m. nat_lt m (chunk_end x)) e,
  in_block n s ends xs e all.1,
)

in_rest : (ends : Stream → ℕ) (b : Block) (bs : List Block) → AreBlocks (b ∷ bs) → (xs : List Chunk)
    → AreOf b.stream false xs
    → Each (λ c. is_past (ends_of ends (all_chunks (b ∷ bs))) c ≡ is_past
    (ends_of ends (all_chunks bs)) c) xs
in_rest ends b bs all [] none = tt
in_rest ends b bs all (x ∷ xs) none = (
  ap (λ n. nat_lt n (chunk_end x))
      (rest_end ends b bs all x.key.stream none.0),
  in_rest ends b bs all xs none.1,
)

pub blocks_past : (ends : Stream → ℕ) (bs : List Block) → AreBlocks bs
    → filter (is_past (ends_of ends (all_chunks bs))) (all_chunks bs) ≡ flat_map (past_in ends) bs
blocks_past ends [] all = refl
blocks_past ends (b ∷ bs) all =
    let to = ends_of ends (all_chunks (b ∷ bs)) in
    let n = reached_from (ends b.stream) b.chunks in
    filter_append (is_past to) b.chunks (all_chunks bs)
    ∙ (ap (λ l. l ++ filter (is_past to) (all_chunks bs))
    (filter_same (is_past to) (λ c. nat_lt n (chunk_end c)) b.chunks
    (in_block n b.stream to b.chunks (block_end ends b bs all) all.0))
    ∙ ap (λ l. past n b.chunks ++ l)
    (filter_same (is_past to) (is_past (ends_of ends (all_chunks bs))) (all_chunks bs)
    (in_rest ends b bs all (all_chunks bs) all.1)
    ∙ blocks_past ends bs all.3))

-- each block's stream ends where its pass does
pub blocks_ends : (ends : Stream → ℕ) (bs : List Block) → AreBlocks bs
    → Each (λ b. ends_of ends (all_chunks bs) b.stream ≡ reached_from (ends b.stream) b.chunks) bs
blocks_ends ends [] all = tt
blocks_ends ends (b ∷ bs) all = (
  block_end ends b bs all,
  later bs all.2
      (blocks_ends ends bs all.3),
)
  where
    later : (ds : List Block) → Each (λ d. same_stream b.stream d.stream ≡ false) ds
        → Each (λ d. ends_of ends (all_chunks bs) d.stream ≡ reached_from
        (ends d.stream) d.chunks) ds
        → Each (λ d. ends_of ends (all_chunks (b ∷ bs)) d.stream ≡ reached_from
        (ends d.stream) d.chunks) ds
    later [] others rest = tt
    later (d ∷ ds) others rest = (
      rest_end ends b bs all d.stream others.0
          ∙ rest.0,
      later ds others.1 rest.1,
    )
