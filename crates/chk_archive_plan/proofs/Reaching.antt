-- The end that the pass over a stream's chunks reaches is the greatest without a gap.
use Rattle.std.proofs.Common.{◌≡◌, ◌⊎◌, inl, inr, ℕ, zero, suc, ◌≤◌, ◌<◌, true, false, List, [], ◌∷◌, length, ap, refl, arith}
use Rattle.std.specs.Prelude.{Contains, nat_lt, nat_le, slice_index_or}
use Rattle.std.proofs.lemmas.Bool.{and_parts, and_cases, leb-true, ltb-true, leb-false, ltb-false, cases_lt}
use Rattle.chk_chunk.specs.Keys.{Chunk, chunk_begin, chunk_end}
use Rattle.chk_chunk.specs.Reach.{IsReach}
use Rattle.chk_record_index.proofs.Sorting.{at_test}
use Rattle.chk_archive_plan.specs.Plan.{goes_on, reached_from, NoneBelow, BeginsRise}

-- ---- going on

pub goes : (reached : ℕ) (c : Chunk) → goes_on reached c ≡ true → (chunk_begin c ≤ reached) ×
    (reached < chunk_end c)
goes reached c e =
    let p = and_parts (nat_le (chunk_begin c) reached) (nat_lt reached (chunk_end c)) e in
    (leb-true (chunk_begin c) reached p.0, ltb-true reached (chunk_end c) p.1)

-- it begins past the end, or ends at or below it
pub goes_not : (reached : ℕ) (c : Chunk) → goes_on reached c ≡ false → (reached < chunk_begin c) ⊎
    (chunk_end c ≤ reached)
goes_not reached c e = elim (and_cases (nat_le (chunk_begin c) reached)
    (nat_lt reached (chunk_end c)) e) [
      | inl a ↦ inl (leb-false (chunk_begin c) reached a)
      | inr b ↦ inr (ltb-false reached (chunk_end c) b)
    ]

-- ---- the end reached

pub reached_on : (reached : ℕ) (cs : List Chunk) → reached ≤ reached_from reached cs
reached_on reached [] = omega arith
reached_on reached (c ∷ cs) =
    let on = reached_on (chunk_end c) cs in
    at_test (λ n. reached ≤ n) (goes_on reached c) (reached_from (chunk_end c) cs)
    (reached_from reached cs)
    (λ e. let h = goes reached c e in omega (arith, h.1, on)) (λ e. reached_on reached cs)

-- a chunk of the list covers the offset
abbrev pub CoveredBy : List Chunk → ℕ → Type 0
CoveredBy cs o = (c : Chunk) × Contains cs c × (chunk_begin c ≤ o) × (o < chunk_end c)

later : (c : Chunk) (cs : List Chunk) (o : ℕ) → CoveredBy cs o → CoveredBy (c ∷ cs) o
later c cs o (d, one, a, b) = (d, (suc one.0, omega (arith, one.1), one.2), a, b)

-- each offset that was passed is covered by a chunk
pub reached_covered : (reached : ℕ) (cs : List Chunk) (o : ℕ) → reached ≤ o
    → o < reached_from reached cs → CoveredBy cs o
reached_covered reached [] o low high = absurd (let z : ⊥ = omega (arith, low, high) in z)
reached_covered reached (c ∷ cs) o low high =
    at_test (λ n. o < n → CoveredBy (c ∷ cs) o) (goes_on reached c) (reached_from (chunk_end c) cs)
    (reached_from reached cs)
    (λ e high. let h = goes reached c e in elim (cases_lt o (chunk_end c)) [
      | inl below ↦ (c, (0, omega arith, refl), omega (arith, h.0, low), below)
      | inr past ↦ later c cs o (reached_covered (chunk_end c) cs o past high)
    ])
    (λ e high. later c cs o (reached_covered reached cs o low high)) high

-- where none of the chunks begins at or below the end, it stays
pub stuck : (reached at : ℕ) (cs : List Chunk) → reached < at → NoneBelow at cs
    → reached_from reached cs ≡ reached
stuck reached at [] below none = refl
stuck reached at (c ∷ cs) below none =
    let n = none.0 in
    at_test (λ n. n ≡ reached) (goes_on reached c) (reached_from (chunk_end c) cs)
    (reached_from reached cs)
    (λ e. absurd (let h = goes reached c e in let z : ⊥ = omega (arith, h.0, n, below) in z))
    (λ e. stuck reached at cs below none.1)

-- in order of first offsets no chunk covers the end that is reached
uncovered_at : (cs : List Chunk) (k reached : ℕ) (c : Chunk) → BeginsRise cs → k < length cs
    → slice_index_or cs k c ≡ c
    → chunk_begin c ≤ reached_from reached cs → reached_from reached cs < chunk_end c → ⊥
uncovered_at [] k reached c rise below at low high = omega arith
uncovered_at (d ∷ cs) zero reached c rise below at low high =
    let same : chunk_end d ≡ chunk_end c = ap chunk_end at in
    let same_begin : chunk_begin d ≡ chunk_begin c = ap chunk_begin at in
    at_test (λ n. chunk_begin c ≤ n → n < chunk_end c → ⊥) (goes_on reached d)
    (reached_from (chunk_end d) cs) (reached_from reached cs)
    (λ e low high. let on = reached_on (chunk_end d) cs in omega (arith, on, same, high))
    (λ e low high. elim (goes_not reached d e) [
      | inl gap ↦ let still = stuck reached (chunk_begin d) cs gap rise.0 in omega
          (arith, gap, same_begin, still, low)
      | inr under ↦ let on = reached_on reached cs in omega (arith, on, same, under, high)
    ]) low high
uncovered_at (d ∷ cs) (suc k) reached c rise below at low high =
    at_test (λ n. chunk_begin c ≤ n → n < chunk_end c → ⊥) (goes_on reached d)
    (reached_from (chunk_end d) cs) (reached_from reached cs)
    (λ e low high. uncovered_at cs k (chunk_end d) c rise.1 (omega (arith, below)) at low high)
    (λ e low high. uncovered_at cs k reached c rise.1 (omega (arith, below)) at low high) low high

pub reached_uncovered : (reached : ℕ) (cs : List Chunk) → BeginsRise cs → (c : Chunk)
    → Contains cs c
    → chunk_begin c ≤ reached_from reached cs → reached_from reached cs < chunk_end c → ⊥
reached_uncovered reached cs rise c one = uncovered_at cs one.0 reached c rise one.1 one.2

-- the pass reaches the greatest end up to which each offset is covered
pub reaches : (reached : ℕ) (cs : List Chunk) → BeginsRise cs
    → IsReach (CoveredBy cs) reached (reached_from reached cs)
reaches reached cs rise = record {
  on = reached_on reached cs;
  no_gap = λ o low high. reached_covered reached cs o low high;
  greatest = λ e low all. elim (cases_lt (reached_from reached cs) e) [
    | inl less ↦
        let w = all (reached_from reached cs) (reached_on reached cs) less in
        absurd (reached_uncovered reached cs rise w.0 w.1 w.2 w.3)
    | inr more ↦ more
  ];
}

-- there is one such end alone, whatever the order of the chunks was
pub one_reach : (covered : ℕ → Type 0) (from a b : ℕ) → IsReach covered from a
    → IsReach covered from b → a ≡ b
one_reach covered from a b p q =
    let up = q.greatest a p.on p.no_gap in let down = p.greatest b q.on q.no_gap in omega
    (arith, up, down)
