-- The rows at the places of the unmarked ones.
use Rattle.std.proofs.Common.{◌≡◌, ◌≤◌, ◌<◌, ◌+◌, ℕ, zero, suc, Bool, true, false, cond, not, List, [], ◌∷◌, length, get_or, refl, ap, ◌∙◌, arith, Some, None}
use Rattle.std.specs.List.{filter, slice_get}
use Rattle.std.proofs.lemmas.Option.{slice_get_past}
use Rattle.chk_bytes.specs.Stems.{stem_of}
use Rattle.chk_acks.specs.declared.row.Row.{Row}
use Rattle.chk_acks.specs.Table.{answer_row}
use Rattle.chk_acks.specs.Rows.{is_unmarked}
use Rattle.chk_acks.specs.Passes.{places_of}

-- the place that stands at `skip` is that of the unmarked row after so many others
pub place_at : (first : ℕ) (rows : List Row) (skip : ℕ) (d : Row) → skip
    < length (places_of first rows)
    → (place : ℕ) × (get_or (places_of first rows) skip 0 ≡ first + place) × (place < length rows)
    × (slice_get (filter is_unmarked rows) skip ≡ Some (get_or rows place d))
place_at first [] skip d within = absurd (omega arith)
place_at first (row ∷ rows) skip d within = by row.marked skip within (place_at (suc first) rows)
  where
    by : (marked : Bool) (skip : ℕ) → skip
        < length (cond marked (places_of (suc first) rows) (first ∷ places_of (suc first) rows))
        → ((skip : ℕ) (d : Row) → skip < length (places_of (suc first) rows)
        → (place : ℕ) × (get_or (places_of (suc first) rows) skip 0 ≡ suc first + place)
        × (place < length rows)
        × (slice_get (filter is_unmarked rows) skip ≡ Some (get_or rows place d)))
        → (place : ℕ) × (get_or (cond marked (places_of (suc first) rows)
        (first ∷ places_of (suc first) rows)) skip 0 ≡ first + place)
        × (place < suc (length rows))
        × (slice_get (cond (not marked) (row ∷ filter is_unmarked rows) (filter is_unmarked rows))
        skip ≡ Some (get_or (row ∷ rows) place d))
    by true skip within rest =
        let (place, at, there, is) =
        rest skip d within in (suc place, omega (arith, at), omega arith, is)
    by false zero within rest = (0, omega arith, omega arith, refl)
    by false (suc skip) within rest =
        let (place, at, there, is) =
        rest skip d (omega arith) in (suc place, omega (arith, at), omega arith, is)

-- there are as many places as unmarked rows
pub length-unmarked : (first : ℕ) (rows : List Row) → length (filter is_unmarked rows)
    ≡ length (places_of first rows)
length-unmarked first [] = refl
length-unmarked first (row ∷ rows) = by row.marked (length-unmarked (suc first) rows)
  where
    by : (marked : Bool) → length (filter is_unmarked rows) ≡ length (places_of (suc first) rows)
        → length (cond (not marked) (row ∷ filter is_unmarked rows) (filter is_unmarked rows))
        ≡ length (cond marked (places_of (suc first) rows) (first ∷ places_of (suc first) rows))
    by true rest = rest
    by false rest = ap suc rest

-- the same, of a list of these places that was read
module _ (rows : List Row) (places : List ℕ) (listed : places ≡ places_of 0 rows) (skip : ℕ) where
  pub none_at : length places ≤ skip → slice_get (filter is_unmarked rows) skip ≡ None
  none_at past =
      slice_get_past (filter is_unmarked rows) skip
      (omega (arith, length-unmarked 0 rows, ap (length {A = ℕ}) listed))

  module _ (place : ℕ) (within : skip < length places) (read : place ≡ get_or places skip 0) where
    at : (d : Row) → (place < length rows)
        × (slice_get (filter is_unmarked rows) skip ≡ Some (get_or rows place d))
    at d =
        let (found, is, there, row) =
        place_at 0 rows skip d (omega (arith, ap (length {A = ℕ}) listed)) in
        let same : found ≡ place = omega (arith, is, read, ap (λ ps. get_or ps skip 0) listed) in
        (omega arith, row ∙ ap (λ p. Some (get_or rows p d)) same)

    pub place_within : place < length rows
    place_within = (at (answer_row 0 0 0 (stem_of [] 0 0) 0 0)).0

    pub row_at : (d : Row) → slice_get (filter is_unmarked rows) skip ≡ Some (get_or rows place d)
    row_at d = (at d).1
