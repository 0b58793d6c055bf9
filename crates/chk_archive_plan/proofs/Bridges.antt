-- A pass over heads reaches what a pass over their chunks does.
use Rattle.std.proofs.Common.{◌≡◌, ℕ, zero, suc, ◌<◌, ◌≤◌, ◌+◌, Bool, true, false, ◌&&◌, List, [], ◌∷◌, ◌++◌, length, take, drop, ap, sym, subst, ◌∙◌, refl, arith, true≢false, length-append, length-drop}
use Rattle.std.specs.Prelude.{nat_lt, nat_le, slice_index_or}
use Rattle.std.proofs.lemmas.Bool.{ltb-true}
use Rattle.std.proofs.lemmas.List.{get_or-drop, get_or-take, get_or_default, length-take-le, take-append-drop, drop-append-le}
use Rattle.std.proofs.Math.Seq.{drop-append_seam, take-length}
use Rattle.chk_chunk.specs.Keys.{Chunk, chunk_begin, chunk_end}
use Rattle.chk_world.proofs.Each.{Each, each_from}
use Rattle.chk_record_index.specs.Heads.{Head}
use Rattle.chk_archive_plan.specs.Plan.{goes_on, reached_from, BeginsRise}
use Rattle.chk_archive_plan.specs.HeadsOf.{IsHeadOf, AreHeads}
use Rattle.chk_archive_plan.specs.Passes.{between, head_goes, pass_end, pass_past}
use Rattle.chk_archive_plan.proofs.Reaching.{stuck}
use Rattle.chk_archive_plan.proofs.Gaps.{behind_gap}

-- ---- lists

pub each_index : {X : Type 0} (P : X → Type 0) (xs : List X) → Each P xs → (k : ℕ) → k < length xs
    → (d : X) → P (slice_index_or xs k d)
each_index P [] all k low d = absurd (let z : ⊥ = omega (arith, low) in z)
each_index P (x ∷ xs) all zero low d = all.0
each_index P (x ∷ xs) all (suc k) low d = each_index P xs all.1 k (omega (arith, low)) d

pub each_between : {X : Type 0} (P : X → Type 0) (xs : List X) (i j : ℕ) (d : X) → j ≤ length xs
    → ((k : ℕ) → i ≤ k → k < j → P (slice_index_or xs k d)) → Each P (between i j xs)
each_between P xs i j d high h =
    each_from P (between i j xs) (λ x one.
    let size = length-drop i (take j xs) in
    let taken = length-take-le j xs high in
    let low : i + one.0 < j = omega (arith, size, taken, one.1) in
    let there : i + one.0 < length xs = omega (arith, low, high) in
    subst P
    (get_or_default xs (i + one.0) d x there
    ∙ (sym (get_or-take j xs (i + one.0) x low) ∙
    (sym (get_or-drop i (take j xs) one.0 x) ∙ one.2)))
    (h (i + one.0) (omega arith) low))

pub each_behind : {X : Type 0} (P : X → Type 0) (xs : List X) (i : ℕ) (d : X)
    → ((k : ℕ) → i ≤ k → k < length xs → P (slice_index_or xs k d)) → Each P (drop i xs)
each_behind P xs i d h =
    subst (λ l. Each P (drop i l)) (take-length xs)
    (each_between P xs i (length xs) d (omega arith) h)

pub between_drop : {X : Type 0} (i j : ℕ) (xs : List X) → i ≤ j → j ≤ length xs
    → between i j xs ++ drop j xs ≡ drop i xs
between_drop i j xs low high =
    sym (drop-append-le i (take j xs) (drop j xs) (omega (arith, low, length-take-le j xs high)))
    ∙ ap (drop i) (take-append-drop j xs)

-- two that have the same length and end the same list are equal
pub same_ends : {X : Type 0} (us vs xs ys : List X) → us ++ xs ≡ vs ++ ys → length xs ≡ length ys
    → xs ≡ ys
same_ends us vs xs ys e size =
    let whole = ap length e in
    let left = length-append us xs in
    let right = length-append vs ys in
    let same : length us ≡ length vs = omega (arith, whole, left, right, size) in
    sym (drop-append_seam us xs) ∙ (ap (drop (length us)) e ∙
    (ap (λ n. drop n (vs ++ ys)) same ∙ drop-append_seam vs ys))

-- ---- heads and their chunks

pub heads_at : (hs : List Head) (cs : List Chunk) → AreHeads hs cs → (k : ℕ) (h : Head) (c : Chunk)
    → k < length cs → IsHeadOf (slice_index_or hs k h) (slice_index_or cs k c)
heads_at [] [] all k h c low = absurd (let z : ⊥ = omega (arith, low) in z)
heads_at [] (d ∷ cs) all k h c low = absurd all
heads_at (g ∷ hs) [] all k h c low = absurd all
heads_at (g ∷ hs) (d ∷ cs) all zero h c low = all.0
heads_at (g ∷ hs) (d ∷ cs) all (suc k) h c low = heads_at hs cs all.1 k h c (omega (arith, low))

pub same_size : (hs : List Head) (cs : List Chunk) → AreHeads hs cs → length hs ≡ length cs
same_size [] [] all = refl
same_size [] (c ∷ cs) all = absurd all
same_size (h ∷ hs) [] all = absurd all
same_size (h ∷ hs) (c ∷ cs) all = let rest = same_size hs cs all.1 in omega (arith, rest)

heads_take : (n : ℕ) (hs : List Head) (cs : List Chunk) → AreHeads hs cs → AreHeads (take n hs)
    (take n cs)
heads_take zero hs cs all = tt
heads_take (suc n) [] [] all = tt
heads_take (suc n) [] (c ∷ cs) all = absurd all
heads_take (suc n) (h ∷ hs) [] all = absurd all
heads_take (suc n) (h ∷ hs) (c ∷ cs) all = (all.0, heads_take n hs cs all.1)

heads_drop : (n : ℕ) (hs : List Head) (cs : List Chunk) → AreHeads hs cs → AreHeads (drop n hs)
    (drop n cs)
heads_drop zero hs cs all = all
heads_drop (suc n) [] [] all = tt
heads_drop (suc n) [] (c ∷ cs) all = absurd all
heads_drop (suc n) (h ∷ hs) [] all = absurd all
heads_drop (suc n) (h ∷ hs) (c ∷ cs) all = heads_drop n hs cs all.1

pub heads_between : (i j : ℕ) (hs : List Head) (cs : List Chunk) → AreHeads hs cs
    → AreHeads (between i j hs) (between i j cs)
heads_between i j hs cs all = heads_drop i (take j hs) (take j cs) (heads_take j hs cs all)

-- ---- the pass

pub goes_same : (reached : ℕ) (h : Head) (c : Chunk) → IsHeadOf h c → head_goes reached h
    ≡ goes_on reached c
goes_same reached h c is =
    ap (λ n. nat_le n reached && nat_lt reached h.key.seq) is.begin
    ∙ ap (λ key. nat_le (chunk_begin c) reached && nat_lt reached key.seq) is.key

pub end_is : (reached : ℕ) (hs : List Head) (cs : List Chunk) → AreHeads hs cs → BeginsRise cs
    → pass_end reached hs ≡ reached_from reached cs
end_is reached [] [] all rise = refl
end_is reached [] (c ∷ cs) all rise = absurd all
end_is reached (h ∷ hs) [] all rise = absurd all
end_is reached (h ∷ hs) (c ∷ cs) all rise =
    go (head_goes reached h) (goes_on reached c) (goes_same reached h c all.0)
    (nat_lt reached h.begin) refl
    (ap (λ n. pass_end n hs) (ap (λ key. key.seq) all.0.key) ∙ end_is
    (chunk_end c) hs cs all.1 rise.1)
    (end_is reached hs cs all.1 rise.1)
  where
    go : (a b : Bool) → a ≡ b → (g : Bool) → nat_lt reached h.begin ≡ g
        → pass_end h.key.seq hs ≡ reached_from (chunk_end c) cs → pass_end reached hs
        ≡ reached_from reached cs
        → elim a as (λ t. ℕ) [
          | true ↦ pass_end h.key.seq hs
          | false ↦ elim g as
              (λ t. ℕ) [ true ↦ reached | false ↦ pass_end reached hs ]
        ]
        ≡ elim b as (λ t. ℕ) [
          | true ↦ reached_from
              (chunk_end c) cs
          | false ↦ reached_from reached cs
        ]
    go true true e g k on off = on
    go true false e g k on off = absurd (true≢false e)
    go false true e g k on off = absurd (true≢false (sym e))
    go false false e true k on off =
        let gap : reached < chunk_begin c = subst (λ n. reached < n) all.0.begin
        (ltb-true reached h.begin k) in
        sym (stuck reached (chunk_begin c) cs gap rise.0)
    go false false e false k on off = off

pub past_are : (reached : ℕ) (hs : List Head) (cs : List Chunk) → AreHeads hs cs
    → AreHeads (pass_past reached hs) (behind_gap reached cs)
past_are reached [] [] all = tt
past_are reached [] (c ∷ cs) all = absurd all
past_are reached (h ∷ hs) [] all = absurd all
past_are reached (h ∷ hs) (c ∷ cs) all =
    go (head_goes reached h) (goes_on reached c) (goes_same reached h c all.0)
    (nat_lt reached h.begin) (nat_lt reached (chunk_begin c)) (ap (nat_lt reached) all.0.begin)
    (subst (λ n. AreHeads (pass_past n hs) (behind_gap (chunk_end c) cs))
    (sym (ap (λ key. key.seq) all.0.key)) (past_are (chunk_end c) hs cs all.1))
    (past_are reached hs cs all.1)
  where
    go : (a b : Bool) → a ≡ b → (f g : Bool) → f ≡ g
        → AreHeads (pass_past h.key.seq hs) (behind_gap (chunk_end c) cs) → AreHeads
        (pass_past reached hs) (behind_gap reached cs)
        → AreHeads (elim a as (λ t. List Head) [
          | true ↦ pass_past h.key.seq hs
          | false ↦ elim f as
              (λ t. List Head) [ true ↦ h ∷ hs | false ↦ pass_past reached hs ]
        ])
        (elim b as (λ t. List Chunk) [
          | true ↦ behind_gap (chunk_end c) cs
          | false ↦ elim g as
              (λ t. List Chunk) [ true ↦ c ∷ cs | false ↦ behind_gap reached cs ]
        ])
    go true true e f g k on off = on
    go true false e f g k on off = absurd (true≢false e)
    go false true e f g k on off = absurd (true≢false (sym e))
    go false false e true true k on off = all
    go false false e true false k on off = absurd (true≢false k)
    go false false e false true k on off = absurd (true≢false (sym k))
    go false false e false false k on off = off

-- what is behind a gap ends the list
pub gap_ends : (reached : ℕ) (cs : List Chunk) → (front : List Chunk) ×
    (front ++ behind_gap reached cs ≡ cs)
gap_ends reached [] = ([], refl)
gap_ends reached (c ∷ cs) = go (goes_on reached c) (nat_lt reached (chunk_begin c))
    (gap_ends (chunk_end c) cs) (gap_ends reached cs)
  where
    go : (b g : Bool) → (front : List Chunk) × (front ++ behind_gap (chunk_end c) cs ≡ cs)
        → (front : List Chunk) × (front ++ behind_gap reached cs ≡ cs)
        → (front : List Chunk) × (front ++ elim b as
        (λ t. List Chunk) [
          | true ↦ behind_gap (chunk_end c) cs
          | false ↦ elim g as
              (λ t. List Chunk) [ true ↦ c ∷ cs | false ↦ behind_gap reached cs ]
        ] ≡ c ∷ cs)
    go true g on off = (c ∷ on.0, ap (λ l. c ∷ l) on.1)
    go false true on off = ([], refl)
    go false false on off = (c ∷ off.0, ap (λ l. c ∷ l) off.1)
