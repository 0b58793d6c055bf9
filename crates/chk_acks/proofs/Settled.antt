-- Which offsets are settled.
use Rattle.std.proofs.Common.{◌≡◌, ◌⊎◌, inl, inr, ◌≤◌, ◌<◌, ℕ, Bool, true, false, cond, List, [], ◌∷◌, length, map, set, refl, sym, subst, ◌∙◌, arith}
use Rattle.std.specs.List.{Any}
use Rattle.std.specs.Prelude.{IsTrue, ◌||◌, ◌↔◌, nat_lt, slice_index}
use Rattle.std.proofs.lemmas.Bool.{both_ways, cases_lt, ltb-false, or_cases, or_left, or_right}
use Rattle.std.proofs.lemmas.List.{get_or-set_same}
use Rattle.std.proofs.lemmas.List.Elements.{filter-append}
use Rattle.chk_acks.specs.declared.row.Row.{Row}
use Rattle.chk_acks.specs.Contiguous.{AllCovered, IsContiguousEnd}
use Rattle.chk_acks.specs.Rows.{Covers, IsReached, is_of, is_reached, marked_at, rows_of}
use Rattle.chk_acks.specs.Table.{IsSettled, Sees, Table, added, begun}
use Rattle.chk_acks.specs.Sound.{IsSound}
use Rattle.chk_acks.specs.Calls.{Sight, is_reached_by}
use Rattle.chk_acks.proofs.Anys.{any_all, any_append, any_cases, any_filter, any_from_filter, any_from_map, any_front, any_map, any_none}
use Rattle.chk_acks.proofs.Turns.{IsOver, gap_here}
use Rattle.chk_acks.proofs.AdaptorRows.{rows_of-dropped, rows_of-marked}
use Rattle.chk_acks.proofs.Sounds.{seen_rows}

-- the committed end is the greatest up to which each offset is settled
pub settled_contiguous : (t : Table) (adaptor : ℕ) → IsSound t → adaptor < length t.committed
    → IsContiguousEnd (IsSettled t adaptor) 0 (slice_index t.committed adaptor)
settled_contiguous t adaptor sound known = record {
  on = omega arith;
  no_gap = λ offset ge lt. inl lt;
  greatest = greatest;
}
  where
    greatest : (other : ℕ) → 0 ≤ other → AllCovered (IsSettled t adaptor) 0 other → other
        ≤ slice_index t.committed adaptor
    greatest other ge all =
        elim (cases_lt (slice_index t.committed adaptor) other) [
          | inl lt ↦
              elim (all (slice_index t.committed adaptor) (omega arith) lt) [
                | inl below ↦ absurd (omega arith)
                | inr over ↦ absurd (gap_here (slice_index t.committed adaptor)
                    (rows_of adaptor t.rows) (slice_index t.last adaptor)
                    (sound.turn adaptor known) (sound.gap adaptor known) over)
              ]
          | inr le ↦ le
        ]

-- the row is marked, or reached by one of these, and the offset lies in it
abbrev pub IsLate : List Sight → ℕ → Row → Type 0
IsLate sights offset row = IsTrue (is_reached_by sights row || row.marked) × Covers offset row

-- the offset is settled, or would be by these
abbrev pub IsWithin : List Sight → Table → ℕ → ℕ → Type 0
IsWithin sights t adaptor offset =
    (offset < slice_index t.committed adaptor) ⊎ Any (IsLate sights offset) (rows_of adaptor t.rows)

-- marking a row by one of them leaves it to the others
late_moves : (sights : List Sight) (sight : Sight) (row : Row)
    → (is_reached_by sights row || (row.marked || is_reached sight.stem sight.length row))
    ≡ (is_reached_by (sight ∷ sights) row || row.marked)
late_moves sights sight row =
    by (is_reached sight.stem sight.length row) (is_reached_by sights row) row.marked
  where
    by : (reached others marked : Bool) → (others || (marked || reached))
        ≡ ((reached || others) || marked)
    by true true marked = refl
    by true false true = refl
    by true false false = refl
    by false true marked = refl
    by false false true = refl
    by false false false = refl

-- a sight leaves settled what it would settle
module _ (sight : Sight) (old new : Table) (sound : IsSound old)
    (sees : Sees sight.stem sight.length old new)
    (adaptor : ℕ) (known : adaptor < length old.committed) (sights : List Sight) (offset : ℕ) where
  -- of the rows before and of the marked ones
  before_rows : Any (IsLate sights offset)
      (rows_of adaptor (map (marked_at sight.stem sight.length) old.rows))
      → Any (IsLate (sight ∷ sights) offset) (rows_of adaptor old.rows)
  before_rows some =
      let marks = marked_at sight.stem sight.length in
      any_all (λ row. IsLate sights offset (marks row)) (IsLate (sight ∷ sights) offset)
      (λ row late. (sym (late_moves sights sight row) ∙ late.0, late.1)) (rows_of adaptor old.rows)
      (any_from_map (IsLate sights offset) marks (rows_of adaptor old.rows)
      (subst (Any (IsLate sights offset)) (rows_of-marked adaptor sight.stem sight.length old.rows)
      some))

  after_rows : Any (IsLate (sight ∷ sights) offset) (rows_of adaptor old.rows)
      → Any (IsLate sights offset) (rows_of adaptor
      (map (marked_at sight.stem sight.length) old.rows))
  after_rows some =
      let marks = marked_at sight.stem sight.length in
      subst (Any (IsLate sights offset))
      (sym (rows_of-marked adaptor sight.stem sight.length old.rows))
      (any_map (IsLate sights offset) marks (rows_of adaptor old.rows)
      (any_all (IsLate (sight ∷ sights) offset) (λ row. IsLate sights offset (marks row))
      (λ row late. (late_moves sights sight row ∙ late.0, late.1)) (rows_of adaptor old.rows) some))

  pub within_before : IsWithin sights new adaptor offset
      → IsWithin (sight ∷ sights) old adaptor offset
  within_before within =
      let ends = sees.committed.ends adaptor known in
      let rows = rows_of adaptor (map (marked_at sight.stem sight.length) old.rows) in
      elim within [
        | inl lt ↦
            elim (cases_lt offset (slice_index old.committed adaptor)) [
              | inl below ↦ inl below
              | inr ge ↦ inr (before_rows (any_all (IsOver offset) (IsLate sights offset)
                  (λ row over. (or_right (is_reached_by sights row) row.marked over.0, over.1)) rows
                  (ends.no_gap offset ge lt)))
            ]
        | inr some ↦ inr (before_rows (any_from_filter (IsLate sights offset)
            (λ row. nat_lt (slice_index new.committed adaptor) row.end) rows
            (subst (Any (IsLate sights offset))
            (seen_rows sight.stem sight.length old new sound sees adaptor) some)))
      ]

  pub within_after : IsWithin (sight ∷ sights) old adaptor offset
      → IsWithin sights new adaptor offset
  within_after within =
      let ends = sees.committed.ends adaptor known in
      let rows = rows_of adaptor (map (marked_at sight.stem sight.length) old.rows) in
      let end = slice_index new.committed adaptor in
      elim within [
        | inl lt ↦ inl (omega (arith, ends.on))
        | inr some ↦
            elim (any_filter (IsLate sights offset) (λ row. nat_lt end row.end) rows
            (after_rows some)) [
              | inl (k, row, inside, is, (dropped, late)) ↦ inl
                  (omega (arith, ltb-false end row.end dropped))
              | inr kept ↦ inr (subst (Any (IsLate sights offset))
                  (sym (seen_rows sight.stem sight.length old new sound sees adaptor)) kept)
            ]
      ]

-- what `seen` settles: what was settled, and what it reaches
pub settled_seen : (sight : Sight) (old new : Table) → IsSound old
    → Sees sight.stem sight.length old new
    → (adaptor offset : ℕ) → adaptor < length old.committed
    → IsSettled new adaptor offset
    ↔ (IsSettled old adaptor offset
    ⊎ IsReached sight.stem sight.length (rows_of adaptor old.rows) offset)
settled_seen sight old new sound sees adaptor offset known = (there, back)
  where
    there : IsSettled new adaptor offset → IsSettled old adaptor offset
        ⊎ IsReached sight.stem sight.length (rows_of adaptor old.rows) offset
    there settled =
        elim (within_before sight old new sound sees adaptor known [] offset settled) [
          | inl below ↦ inl (inl below)
          | inr (k, row, inside, is, (late, lies)) ↦
              elim (or_cases (is_reached sight.stem sight.length row || false) row.marked late) [
                | inl reached ↦
                    elim (or_cases (is_reached sight.stem sight.length row) false reached) [
                      | inl seen ↦ inr (k, row, inside, is, (seen, lies))
                      | inr never ↦ absurd cc
                    ]
                | inr marked ↦ inl (inr (k, row, inside, is, (marked, lies)))
              ]
        ]

    back : IsSettled old adaptor offset
        ⊎ IsReached sight.stem sight.length (rows_of adaptor old.rows) offset
        → IsSettled new adaptor offset
    back (inl (inl below)) =
        within_after sight old new sound sees adaptor known [] offset (inl below)
    back (inl (inr (k, row, inside, is, (marked, lies)))) =
        within_after sight old new sound sees adaptor known [] offset
        (inr (
          k,
          row,
          inside,
          is,
          (
            or_right (is_reached sight.stem sight.length row || false)
                row.marked marked,
            lies,
          ),
        ))
    back (inr (k, row, inside, is, (reached, lies))) =
        within_after sight old new sound sees adaptor known [] offset
        (inr (
          k,
          row,
          inside,
          is,
          (
            or_left (is_reached sight.stem sight.length row || false) row.marked
                (or_left (is_reached sight.stem sight.length row) false reached),
            lies,
          ),
        ))

-- after `begin` what lies below its offset is settled
pub settled_begun : (adaptor at : ℕ) (t : Table) → adaptor < length t.committed → (offset : ℕ)
    → IsSettled (begun adaptor at t) adaptor offset ↔ (offset < at)
settled_begun adaptor at t known offset = (there, λ lt. inl (omega (arith, end)))
  where
    end : slice_index (set t.committed adaptor at) adaptor ≡ at
    end = get_or-set_same t.committed adaptor at 0 known

    there : IsSettled (begun adaptor at t) adaptor offset → offset < at
    there (inl lt) = omega (arith, end)
    there (inr some) =
        absurd (any_none (IsOver offset)
        (subst (Any (IsOver offset)) (rows_of-dropped adaptor t.rows) some))

-- a row more settles nothing
pub settled_added : (row : Row) (t : Table) → row.marked ≡ false → (adaptor offset : ℕ)
    → IsSettled (added row t) adaptor offset ↔ IsSettled t adaptor offset
settled_added row t unmarked adaptor offset = (there, back)
  where
    over_row : (mine : Bool) → Any (IsOver offset) (cond mine (row ∷ []) []) → ⊥
    over_row true some =
        elim (any_cases (IsOver offset) row [] some) [
          | inl over ↦ both_ways row.marked unmarked over.0
          | inr later ↦ any_none (IsOver offset) later
        ]
    over_row false some = any_none (IsOver offset) some

    there : IsSettled (added row t) adaptor offset → IsSettled t adaptor offset
    there (inl below) = inl below
    there (inr some) =
        elim (any_append (IsOver offset) (rows_of adaptor t.rows)
        (cond (is_of adaptor row) (row ∷ []) [])
        (subst (Any (IsOver offset)) (filter-append (is_of adaptor) t.rows (row ∷ [])) some)) [
          | inl old ↦ inr old
          | inr added ↦ absurd (over_row (is_of adaptor row) added)
        ]

    back : IsSettled t adaptor offset → IsSettled (added row t) adaptor offset
    back (inl below) = inl below
    back (inr some) =
        inr (subst (Any (IsOver offset)) (sym (filter-append (is_of adaptor) t.rows (row ∷ [])))
        (any_front (IsOver offset) (rows_of adaptor t.rows) (cond (is_of adaptor row) (row ∷ []) [])
        some))
