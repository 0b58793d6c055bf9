-- What waits for each adaptor once some of them went back.
use Rattle.std.proofs.Common.{◌≡◌, ℕ, zero, suc, ◌+◌, ◌<◌, Bool, true, false, ◌||◌, not, List, []}
use Rattle.std.proofs.Common.{◌∷◌, length, ap, sym, ◌∙◌, refl, arith, true≢false, if◌then◌else◌}
use Rattle.std.specs.Prelude.{slice_index, slice_set, filter, Contains}
use Rattle.std.specs.List.{list_any}
use Rattle.chk_chunk.specs.declared.Chunk.{Chunk}
use Rattle.chk_agent_delivery.specs.Basis.{Basis, AreOwned}
use Rattle.chk_agent_delivery.specs.Sound.{ends_after}
use Rattle.chk_agent_delivery.specs.Turns.{is_one_of, without_chunks, last_back}
use Rattle.chk_agent_delivery.proofs.Due.{set_index as set_other, neither}
use Rattle.chk_agent_delivery.proofs.Rows.{length_set}

set_like : (xs ys : List ℕ) (i x j : ℕ) → length xs ≡ length ys → slice_index xs j ≡ slice_index ys j
    → slice_index (slice_set xs i x) j ≡ slice_index (slice_set ys i x) j
set_like [] [] i x j many same = refl
set_like [] (y ∷ ys) i x j many same = absurd (let z : ⊥ = omega (arith, many) in z)
set_like (x' ∷ xs) [] i x j many same = absurd (let z : ⊥ = omega (arith, many) in z)
set_like (a ∷ xs) (b ∷ ys) zero x zero many same = refl
set_like (a ∷ xs) (b ∷ ys) zero x (suc j) many same = same
set_like (a ∷ xs) (b ∷ ys) (suc i) x zero many same = same
set_like (a ∷ xs) (b ∷ ys) (suc i) x (suc j) many same = set_like xs ys i x j (omega (arith, many)) same

-- those of adaptors that went back
pub gone_ends : (gone : List ℕ) (owners : List ℕ) (chunks : List Chunk) (last : List ℕ) (j : ℕ) → is_one_of gone j ≡ true
    → slice_index (ends_after last (filter (λ i. not (is_one_of gone i)) owners) (without_chunks gone owners chunks)) j ≡ slice_index last j
gone_ends gone [] chunks last j at = refl
gone_ends gone (i ∷ owners) [] last j at = none (not (is_one_of gone i))
  where
    none : (b : Bool) → slice_index (ends_after last (if b then i ∷ filter (λ i. not (is_one_of gone i)) owners
        else filter (λ i. not (is_one_of gone i)) owners) []) j ≡ slice_index last j
    none true = refl
    none false = empty (filter (λ i. not (is_one_of gone i)) owners)
      where
        empty : (owners : List ℕ) → slice_index (ends_after last owners []) j ≡ slice_index last j
        empty [] = refl
        empty (o ∷ owners) = refl
gone_ends gone (i ∷ owners) (c ∷ chunks) last j at = go (is_one_of gone i) refl (λ last. gone_ends gone owners chunks last j at)
  where
    go : (b : Bool) → is_one_of gone i ≡ b
        → ((last : List ℕ) → slice_index (ends_after last (filter (λ i. not (is_one_of gone i)) owners) (without_chunks gone owners chunks)) j
        ≡ slice_index last j)
        → slice_index (ends_after last (if not b then i ∷ filter (λ i. not (is_one_of gone i)) owners else filter (λ i. not (is_one_of gone i)) owners)
        (if b then without_chunks gone owners chunks else c ∷ without_chunks gone owners chunks)) j ≡ slice_index last j
    go true e rest = rest last
    go false e rest =
        rest (slice_set last i c.seq)
        ∙ set_other last i j c.seq (λ same. true≢false (sym at ∙ (ap (is_one_of gone) same ∙ e)))

-- those of the others
pub other_ends : (gone : List ℕ) (owners : List ℕ) (chunks : List Chunk) (last was : List ℕ) (j : ℕ) → length owners ≡ length chunks
    → is_one_of gone j ≡ false → length last ≡ length was → slice_index last j ≡ slice_index was j
    → slice_index (ends_after last (filter (λ i. not (is_one_of gone i)) owners) (without_chunks gone owners chunks)) j
    ≡ slice_index (ends_after was owners chunks) j
other_ends gone [] chunks last was j many at size same = same
other_ends gone (i ∷ owners) [] last was j many at size same = absurd (let z : ⊥ = omega (arith, many) in z)
other_ends gone (i ∷ owners) (c ∷ chunks) last was j many at size same =
    go (is_one_of gone i) refl (λ last was. other_ends gone owners chunks last was j (omega (arith, many)) at)
  where
    go : (b : Bool) → is_one_of gone i ≡ b
        → ((last was : List ℕ) → length last ≡ length was → slice_index last j ≡ slice_index was j
        → slice_index (ends_after last (filter (λ i. not (is_one_of gone i)) owners) (without_chunks gone owners chunks)) j
        ≡ slice_index (ends_after was owners chunks) j)
        → slice_index (ends_after last (if not b then i ∷ filter (λ i. not (is_one_of gone i)) owners else filter (λ i. not (is_one_of gone i)) owners)
        (if b then without_chunks gone owners chunks else c ∷ without_chunks gone owners chunks)) j
        ≡ slice_index (ends_after (slice_set was i c.seq) owners chunks) j
    go true e rest =
        rest last (slice_set was i c.seq)
        (size ∙ sym (length_set was i c.seq))
        (same ∙ sym (set_other was i j c.seq (λ k. true≢false (sym e ∙ (ap (is_one_of gone) (sym k) ∙ at)))))
    go false e rest =
        rest (slice_set last i c.seq) (slice_set was i c.seq)
        (length_set last i c.seq ∙ (size ∙ sym (length_set was i c.seq))) (set_like last was i c.seq j size same)

-- ---- the last ends

pub last_at : (gone committed : List ℕ) (last : List ℕ) (i j k : ℕ) → k ≡ i + j → j < length last
    → slice_index (last_back gone committed i last) j ≡ (if is_one_of gone k then slice_index committed k else slice_index last j)
last_at gone committed [] i j k is below = absurd (let z : ⊥ = omega (arith, below) in z)
last_at gone committed (o ∷ last) i zero k is below =
    let same : i ≡ k = omega (arith, is) in ap (λ k. if is_one_of gone k then slice_index committed k else o) same
last_at gone committed (o ∷ last) i (suc j) k is below = last_at gone committed last (suc i) j k (omega (arith, is)) (omega (arith, below))

-- ---- the chunks that are left

pub chunk_left : (gone : List ℕ) (owners : List ℕ) (chunks : List Chunk) (c : Chunk) → Contains (without_chunks gone owners chunks) c
    → Contains chunks c
chunk_left gone [] chunks c (k, below, at) = absurd (let z : ⊥ = omega (arith, below) in z)
chunk_left gone (i ∷ owners) [] c (k, below, at) = absurd (let z : ⊥ = omega (arith, below) in z)
chunk_left gone (i ∷ owners) (x ∷ chunks) c one = go (is_one_of gone i) one (chunk_left gone owners chunks c)
  where
    later : Contains chunks c → Contains (x ∷ chunks) c
    later r = let b = r.1 in (suc r.0, omega (arith, b), r.2)

    go : (b : Bool) → Contains (if b then without_chunks gone owners chunks else x ∷ without_chunks gone owners chunks) c
        → (Contains (without_chunks gone owners chunks) c → Contains chunks c) → Contains (x ∷ chunks) c
    go true one rest = later (rest one)
    go false (zero, below, at) rest = (zero, omega arith, at)
    go false (suc k, below, at) rest = later (rest (k, omega (arith, below), at))

-- where no chunk is of these adaptors, all are left
pub all_left : (gone : List ℕ) (owners : List ℕ) (chunks : List Chunk) → length owners ≡ length chunks
    → list_any (is_one_of gone) owners ≡ false → without_chunks gone owners chunks ≡ chunks
all_left gone [] [] many none = refl
all_left gone [] (c ∷ chunks) many none = absurd (let z : ⊥ = omega (arith, many) in z)
all_left gone (i ∷ owners) [] many none = refl
all_left gone (i ∷ owners) (c ∷ chunks) many none =
    let n = neither (is_one_of gone i) (list_any (is_one_of gone) owners) none in
    ap (λ b. if b then without_chunks gone owners chunks else c ∷ without_chunks gone owners chunks) n.0
    ∙ ap (λ cs. c ∷ cs) (all_left gone owners chunks (omega (arith, many)) n.1)

pub owned_left : (b : Basis) (gone : List ℕ) (owners : List ℕ) (chunks : List Chunk) → AreOwned b owners chunks
    → AreOwned b (filter (λ i. not (is_one_of gone i)) owners) (without_chunks gone owners chunks)
owned_left b gone [] [] owned = tt
owned_left b gone [] (c ∷ chunks) owned = absurd owned
owned_left b gone (i ∷ owners) [] owned = absurd owned
owned_left b gone (i ∷ owners) (c ∷ chunks) owned = go (is_one_of gone i) (owned_left b gone owners chunks owned.2)
  where
    go : (x : Bool) → AreOwned b (filter (λ i. not (is_one_of gone i)) owners)
        (without_chunks gone owners chunks)
        → AreOwned b (if not x then i ∷ filter (λ i. not (is_one_of gone i)) owners else filter
        (λ i. not (is_one_of gone i)) owners)
        (if x then without_chunks gone owners chunks else c ∷ without_chunks gone owners chunks)
    go true rest = rest
    go false rest = (owned.0, owned.1, rest)
