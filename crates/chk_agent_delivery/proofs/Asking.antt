-- The sinks that a poll asks for.
use Rattle.std.proofs.Common.{◌≡◌, inl, inr, ℕ, zero, suc, ◌+◌, ◌-◌, ◌≤◌, ◌<◌, Bool, true, false, List, [], ◌∷◌, ◌++◌, length, drop, map, Some, None, ap, ap₂, sym, subst, ◌∙◌, refl, arith, append_assoc, if◌then◌else◌}
use Rattle.std.specs.Prelude.{filter, slice_get, option_map}
use Rattle.std.specs.List.{list_any}
use Rattle.std.proofs.lemmas.List.{append-nil, length-append, length-map}
use Rattle.std.proofs.lemmas.Option.{same_Some, none-some}
use Rattle.std.proofs.lemmas.Bool.{cases_lt}
use Rattle.chk_bytes.specs.Stems.{Stem, same_stem}
use Rattle.chk_acks.specs.Table.{Table}
use Rattle.chk_acks.specs.declared.row.Row.{Row}
use Rattle.chk_acks.specs.Rows.{is_unmarked, waiting_after}
use Rattle.chk_agent_delivery.specs.Turns.{first_stems, asked_stems}

abbrev pub stems_of : List Row → List Stem
stems_of rows = map (λ (r : Row). r.stem) (filter is_unmarked rows)

-- ---- the rows one by one

abbrev shown : Row → Stem × ℕ
shown row = (row.stem, row.offset)

at_place : (ys : List Row) (i : ℕ) (x : Stem) (n : ℕ) → option_map shown (slice_get ys i) ≡ Some (x, n)
    → drop i (map (λ (r : Row). r.stem) ys) ≡ x ∷ drop (suc i) (map (λ (r : Row). r.stem) ys)
at_place [] i x n e = absurd (none-some (x, n) e)
at_place (y ∷ ys) zero x n e =
    ap (λ k. k ∷ map (λ (r : Row). r.stem) ys) (ap (λ (p : Stem × ℕ). p.0) (same_Some (y.stem, y.offset) (x, n) e))
at_place (y ∷ ys) (suc i) x n e = at_place ys i x n e

pub at_waiting : (rows : List Row) (i : ℕ) (x : Stem) (n : ℕ) → waiting_after i rows ≡ Some (x, n)
    → drop i (stems_of rows) ≡ x ∷ drop (i + 1) (stems_of rows)
at_waiting rows i x n e =
    let next : suc i ≡ i + 1 = omega arith in
    at_place (filter is_unmarked rows) i x n e ∙ ap (λ k. x ∷ drop k (stems_of rows)) next

no_place : (ys : List Row) (i : ℕ) → option_map shown (slice_get ys i) ≡ None → drop i (map (λ (r : Row). r.stem) ys) ≡ []
no_place [] zero e = refl
no_place [] (suc i) e = refl
no_place (y ∷ ys) zero e = absurd (none-some (y.stem, y.offset) (sym e))
no_place (y ∷ ys) (suc i) e = no_place ys i e

pub none_waiting : (rows : List Row) (i : ℕ) → waiting_after i rows ≡ None → drop i (stems_of rows) ≡ []
none_waiting rows i e = no_place (filter is_unmarked rows) i e

no_more : {X : Type 0} (xs : List X) (i : ℕ) → length xs ≤ i → drop i xs ≡ []
no_more [] zero below = refl
no_more [] (suc i) below = refl
no_more (x ∷ xs) zero below = absurd (let z : ⊥ = omega (arith, below) in z)
no_more (x ∷ xs) (suc i) below = no_more xs i (omega (arith, below))

fewer : (rows : List Row) → length (filter is_unmarked rows) ≤ length rows
fewer [] = omega arith
fewer (row ∷ rows) = go (is_unmarked row) (fewer rows)
  where
    go : (b : Bool) → length (filter is_unmarked rows) ≤ length rows
        → length (if b then row ∷ filter is_unmarked rows else filter is_unmarked rows) ≤ suc (length rows)
    go true less = omega (arith, less)
    go false less = omega (arith, less)

pub all_looked : (rows : List Row) (i : ℕ) → length rows ≤ i → drop i (stems_of rows) ≡ []
all_looked rows i last =
    let size = length-map (filter is_unmarked rows) (λ (r : Row). r.stem) in
    no_more (stems_of rows) i (let less = fewer rows in omega (arith, size, less, last))

-- ---- the loop

pub record AskedOn (rows : List Row) (i : ℕ) (stems : List Stem) : Type 0 where
  pub total : stems ++ first_stems (64 - length stems) stems (drop i (stems_of rows)) ≡ first_stems 64 [] (stems_of rows)
  pub few : length stems ≤ 64

pub asked_begin : (rows : List Row) (stems : List Stem) → stems ≡ [] → AskedOn rows 0 stems
asked_begin rows stems e = subst (AskedOn rows 0) (sym e) (record { total = refl; few = omega arith })

again : (n : ℕ) (stems rest : List Stem) (x : Stem) → list_any (same_stem x) stems ≡ true
    → first_stems n stems (x ∷ rest) ≡ first_stems n stems rest
again zero stems rest x e = refl
again (suc n) stems rest x e = rw e refl

first_time : (n : ℕ) (stems rest : List Stem) (x : Stem) → list_any (same_stem x) stems ≡ false
    → first_stems (suc n) stems (x ∷ rest) ≡ x ∷ first_stems n (stems ++ x ∷ []) rest
first_time n stems rest x e = rw e refl

pub asked_again : (rows : List Row) (i : ℕ) (stems : List Stem) (x : Stem) → AskedOn rows i stems
    → drop i (stems_of rows) ≡ x ∷ drop (i + 1) (stems_of rows) → list_any (same_stem x) stems ≡ true → AskedOn rows (i + 1) stems
asked_again rows i stems x a here seen = record {
  total = ap (λ k. stems ++ k)
      (sym (ap (first_stems (64 - length stems) stems) here ∙ again (64 - length stems) stems (drop (i + 1) (stems_of rows)) x seen))
      ∙ a.total;
  few = a.few;
}

pub asked_first : (rows : List Row) (i : ℕ) (stems : List Stem) (x : Stem) → AskedOn rows i stems
    → drop i (stems_of rows) ≡ x ∷ drop (i + 1) (stems_of rows) → list_any (same_stem x) stems ≡ false → length stems < 64
    → AskedOn rows (i + 1) (stems ++ x ∷ [])
asked_first rows i stems x a here unseen room =
    let rest = drop (i + 1) (stems_of rows) in
    let size : length (stems ++ x ∷ []) ≡ length stems + 1 = length-append stems (x ∷ []) in
    let left : 64 - length stems ≡ suc (63 - length stems) = omega (arith, room) in
    let next : 63 - length stems ≡ 64 - length (stems ++ x ∷ []) = omega (arith, room, size) in
    let one : first_stems (64 - length stems) stems (drop i (stems_of rows)) ≡ x ∷ first_stems (64 - length (stems ++ x ∷ [])) (stems ++ x ∷ []) rest =
    ap₂ (λ n xs. first_stems n stems xs) left here
    ∙ (first_time (63 - length stems) stems rest x unseen ∙ ap (λ n. x ∷ first_stems n (stems ++ x ∷ []) rest) next) in
    record {
      total = append_assoc stems (x ∷ []) (first_stems (64 - length (stems ++ x ∷ [])) (stems ++ x ∷ []) rest)
          ∙ (ap (λ k. stems ++ k) (sym one) ∙ a.total);
      few = omega (arith, size, room);
    }

ends_none : (n : ℕ) (stems : List Stem) → first_stems n stems [] ≡ []
ends_none zero stems = refl
ends_none (suc n) stems = refl

pub asked_end : (t : Table) (i : ℕ) (stems : List Stem) → AskedOn t.rows i stems → drop i (stems_of t.rows) ≡ [] → stems ≡ asked_stems t
asked_end t i stems a none =
    sym (append-nil stems)
    ∙ (ap (λ k. stems ++ k) (sym (ap (first_stems (64 - length stems) stems) none ∙ ends_none (64 - length stems) stems)) ∙ a.total)

pub asked_full : (t : Table) (i : ℕ) (stems : List Stem) → AskedOn t.rows i stems → length stems ≡ 64 → stems ≡ asked_stems t
asked_full t i stems a full =
    let none : 64 - length stems ≡ 0 = omega (arith, full) in
    sym (append-nil stems) ∙ (ap (λ n. stems ++ first_stems n stems (drop i (stems_of t.rows))) (sym none) ∙ a.total)

-- one more fits where there aren't as many as there may be
pub one_fits : {X : Type 0} (xs ys : List X) → ys ≡ xs → length xs ≤ 64 → (length ys ≡ 64 → ⊥) → length xs < 64
one_fits xs ys same few not_full = elim (cases_lt (length xs) 64) [
  | inl less ↦ less
  | inr most ↦ absurd (not_full (ap length same ∙ (let z : length xs ≡ 64 = omega (arith, few, most) in z)))
]
