-- What a list of calls acknowledges, in the table that it leads to.
use Rattle.std.proofs.Common.{◌≡◌, ◌⊎◌, inl, inr, ◌≤◌, ◌<◌, ℕ, zero, suc, Bool, true, false, cond, List, [], ◌∷◌, ◌++◌, length, replicate, refl, sym, subst, ap, ◌∙◌, arith}
use Rattle.std.specs.List.{Any}
use Rattle.std.specs.Prelude.{◌||◌, ◌&&◌, ◌==◌, slice_index}
use Rattle.std.proofs.lemmas.Bool.{both_ways, cases_lt, eqb-false, eqb-true, or_from, or_left}
use Rattle.std.proofs.lemmas.List.{append-nil, get_or-set_same, get_or-set_other, length-replicate, length-set}
use Rattle.std.proofs.lemmas.List.Elements.{filter-append}
use Rattle.chk_acks.specs.declared.row.Row.{Row}
use Rattle.chk_acks.specs.Contiguous.{IsContiguousEnd}
use Rattle.chk_acks.specs.Rows.{Covers, IsCovered, is_of, rows_of}
use Rattle.chk_acks.specs.Table.{Sees, Table, added, begun, empty_table}
use Rattle.chk_acks.specs.Sound.{IsSound}
use Rattle.chk_acks.specs.Calls.{Answered, Begin, Call, Continues, LeadsTo, Seen, Sight, acknowledged, began_at, is_reached_by}
use Rattle.chk_acks.proofs.Anys.{any_append, any_back, any_cases, any_front, any_here, any_none, any_there}
use Rattle.chk_acks.proofs.AdaptorRows.{rows_of-dropped, rows_of-kept}
use Rattle.chk_acks.proofs.Turns.{turn_on}
use Rattle.chk_acks.proofs.Settled.{IsLate, settled_contiguous, within_after, within_before}
use Rattle.chk_acks.proofs.Sounds.{sound_added, sound_begun, sound_empty, sound_seen}

-- an offset is covered by these rows, with any further sights, just where it isn't below the one
-- offset, and is settled in a table whose end and rows are these
record AgreesBy (covering : List Sight → List Row) (from end : ℕ) (rows : List Row) : Type 0 where
  began : from ≤ end
  there : (sights : List Sight) (offset : ℕ) → IsCovered (covering sights) offset
      → (from ≤ offset) × ((offset < end) ⊎ Any (IsLate sights offset) rows)
  back : (sights : List Sight) (offset : ℕ) → from ≤ offset → (offset < end)
      ⊎ Any (IsLate sights offset) rows
      → IsCovered (covering sights) offset

-- the calls and the table agree on an adaptor
abbrev Agrees : ℕ → List Call → Table → Type 0
Agrees adaptor calls t =
    AgreesBy (λ sights. acknowledged adaptor sights calls) (began_at adaptor calls)
    (slice_index t.committed adaptor) (rows_of adaptor t.rows)

-- at first there is nothing
agrees_none : (at : ℕ) → AgreesBy (λ sights. []) at at []
agrees_none at = record {
  began = omega arith;
  there = λ sights offset over. absurd (any_none (Covers offset) over);
  back =
      λ sights offset from within. absurd
      (elim within [ inl lt ↦ omega arith | inr some ↦ any_none (IsLate sights offset) some ]);
}

-- the same with an end and rows that are these
agrees_as : {covering : List Sight → List Row} {from : ℕ} (end end' : ℕ) (rows rows' : List Row)
    → end ≡ end' → rows ≡ rows'
    → AgreesBy covering from end' rows' → AgreesBy covering from end rows
agrees_as {covering} {from} end end' rows rows' is rows_are agrees =
    subst (λ e. AgreesBy covering from e rows) (sym is)
    (subst (AgreesBy covering from end') (sym rows_are) agrees)

zero_ends : (adaptors adaptor : ℕ) → slice_index (replicate adaptors 0) adaptor ≡ 0
zero_ends zero adaptor = refl
zero_ends (suc adaptors) zero = refl
zero_ends (suc adaptors) (suc adaptor) = zero_ends adaptors adaptor

agrees_empty : (room adaptors adaptor : ℕ) → Agrees adaptor [] (empty_table room adaptors)
agrees_empty room adaptors adaptor =
    agrees_as (slice_index (replicate adaptors 0) adaptor) 0 [] [] (zero_ends adaptors adaptor) refl
    (agrees_none 0)

agrees_begun : (adaptor owner at : ℕ) (calls : List Call) (t : Table) → owner < length t.committed
    → Agrees adaptor calls t
    → Agrees adaptor (Begin owner at ∷ calls) (begun owner at t)
agrees_begun adaptor owner at calls t known agrees = by (owner == adaptor) refl
  where
    own : Agrees owner calls t
        → AgreesBy (λ sights. []) at (slice_index (begun owner at t).committed owner)
        (rows_of owner (begun owner at t).rows)
    own old =
        agrees_as (slice_index (begun owner at t).committed owner) at
        (rows_of owner (begun owner at t).rows) []
        (get_or-set_same t.committed owner at 0 known) (rows_of-dropped owner t.rows)
        (agrees_none at)

    by : (mine : Bool) → (owner == adaptor) ≡ mine
        → AgreesBy (λ sights. cond mine [] (acknowledged adaptor sights calls))
        (cond mine at (began_at adaptor calls))
        (slice_index (begun owner at t).committed adaptor) (rows_of adaptor (begun owner at t).rows)
    by true is =
        let same : owner ≡ adaptor = eqb-true owner adaptor is in
        subst (λ a. AgreesBy (λ sights. []) at (slice_index (begun owner at t).committed a)
        (rows_of a (begun owner at t).rows)) same
        (own (subst (λ a. Agrees a calls t) (sym same) agrees))
    by false is =
        let apart : adaptor ≡ owner → ⊥ = λ same. eqb-false owner adaptor is (sym same) in
        agrees_as (slice_index (begun owner at t).committed adaptor)
        (slice_index t.committed adaptor)
        (rows_of adaptor (begun owner at t).rows) (rows_of adaptor t.rows)
        (get_or-set_other t.committed owner adaptor at 0 apart)
        (rows_of-kept adaptor owner apart t.rows) agrees

-- a row more, still unmarked, is covering where it is reached
agrees_push : (covering : List Sight → List Row) (from end : ℕ) (rows : List Row) (row : Row) → from
    ≤ row.begin → row.marked ≡ false
    → AgreesBy covering from end rows
    → AgreesBy (λ sights. cond (is_reached_by sights row) (row ∷ covering sights) (covering sights))
    from end (rows ++ (row ∷ []))
agrees_push covering from end rows row above unmarked agrees = record {
  began = agrees.began;
  there = λ sights offset over. there sights offset (is_reached_by sights row) refl over;
  back = λ sights offset ge within. back sights offset ge (is_reached_by sights row) refl within;
}
  where
    front : (sights : List Sight) (offset : ℕ) → (from ≤ offset)
        × ((offset < end) ⊎ Any (IsLate sights offset) rows)
        → (from ≤ offset) × ((offset < end) ⊎ Any (IsLate sights offset) (rows ++ (row ∷ [])))
    front sights offset (ge, inl lt) = (ge, inl lt)
    front sights offset (ge, inr some) =
        (ge, inr (any_front (IsLate sights offset) rows (row ∷ []) some))

    there : (sights : List Sight) (offset : ℕ) (reached : Bool) → is_reached_by sights row ≡ reached
        → IsCovered (cond reached (row ∷ covering sights) (covering sights)) offset
        → (from ≤ offset) × ((offset < end) ⊎ Any (IsLate sights offset) (rows ++ (row ∷ [])))
    there sights offset true is over =
        elim (any_cases (Covers offset) row (covering sights) over) [
          | inl lies ↦ (
            omega arith,
            inr (any_back (IsLate sights offset) rows (row ∷ [])
                (any_here (IsLate sights offset) row []
                (or_left (is_reached_by sights row) row.marked is, lies))),
          )
          | inr later ↦ front sights offset (agrees.there sights offset later)
        ]
    there sights offset false is over = front sights offset (agrees.there sights offset over)

    wider : (sights : List Sight) (offset : ℕ) (reached : Bool) → IsCovered (covering sights) offset
        → IsCovered (cond reached (row ∷ covering sights) (covering sights)) offset
    wider sights offset true over = any_there (Covers offset) row (covering sights) over
    wider sights offset false over = over

    late : (sights : List Sight) (offset : ℕ) (reached : Bool) → is_reached_by sights row ≡ reached
        → IsLate sights offset row
        → IsCovered (cond reached (row ∷ covering sights) (covering sights)) offset
    late sights offset true is (seen, lies) = any_here (Covers offset) row (covering sights) lies
    late sights offset false is (seen, lies) =
        absurd (both_ways (is_reached_by sights row || row.marked)
        (or_from (is_reached_by sights row) row.marked is unmarked) seen)

    back : (sights : List Sight) (offset : ℕ) → from ≤ offset → (reached : Bool)
        → is_reached_by sights row ≡ reached
        → (offset < end) ⊎ Any (IsLate sights offset) (rows ++ (row ∷ []))
        → IsCovered (cond reached (row ∷ covering sights) (covering sights)) offset
    back sights offset ge reached is (inl lt) =
        wider sights offset reached (agrees.back sights offset ge (inl lt))
    back sights offset ge reached is (inr some) =
        elim (any_append (IsLate sights offset) rows (row ∷ []) some) [
          | inl old ↦ wider sights offset reached (agrees.back sights offset ge (inr old))
          | inr last ↦
              elim (any_cases (IsLate sights offset) row [] last) [
                | inl is_late ↦ late sights offset reached is is_late
                | inr none ↦ absurd (any_none (IsLate sights offset) none)
              ]
        ]

agrees_added : (adaptor : ℕ) (row : Row) (calls : List Call) (t : Table) → IsSound t → adaptor
    < length t.committed → Continues row t
    → Agrees adaptor calls t → Agrees adaptor (Answered row ∷ calls) (added row t)
agrees_added adaptor row calls t sound known continues agrees = by (is_of adaptor row) refl
  where
    by : (mine : Bool) → is_of adaptor row ≡ mine
        → AgreesBy (λ sights. cond (mine && is_reached_by sights row)
        (row ∷ acknowledged adaptor sights calls) (acknowledged adaptor sights calls))
        (began_at adaptor calls) (slice_index t.committed adaptor)
        (rows_of adaptor (t.rows ++ (row ∷ [])))
    by true is =
        let same : row.adaptor ≡ adaptor = eqb-true row.adaptor adaptor is in
        let ahead =
        turn_on (slice_index t.committed adaptor) (rows_of adaptor t.rows)
        (slice_index t.last adaptor) (sound.turn adaptor known) in
        agrees_as (slice_index t.committed adaptor) (slice_index t.committed adaptor)
        (rows_of adaptor (t.rows ++ (row ∷ []))) (rows_of adaptor t.rows ++ (row ∷ []))
        refl (filter-append (is_of adaptor) t.rows (row ∷ [])
        ∙ ap (λ b. rows_of adaptor t.rows ++ cond b (row ∷ []) []) is)
        (agrees_push (λ sights. acknowledged adaptor sights calls) (began_at adaptor calls)
        (slice_index t.committed adaptor) (rows_of adaptor t.rows) row
        (omega (arith, agrees.began, ahead, continues.next, ap (slice_index t.last) same))
        continues.unmarked agrees)
    by false is =
        agrees_as (slice_index t.committed adaptor) (slice_index t.committed adaptor)
        (rows_of adaptor (t.rows ++ (row ∷ []))) (rows_of adaptor t.rows) refl
        (filter-append (is_of adaptor) t.rows (row ∷ [])
        ∙ ap (λ b. rows_of adaptor t.rows ++ cond b (row ∷ []) []) is
        ∙ append-nil (rows_of adaptor t.rows))
        agrees

agrees_seen : (adaptor : ℕ) (sight : Sight) (calls : List Call) (old new : Table) → IsSound old
    → adaptor < length old.committed
    → Sees sight.stem sight.length old new → Agrees adaptor calls old
    → Agrees adaptor (Seen sight ∷ calls) new
agrees_seen adaptor sight calls old new sound known sees agrees = record {
  began = omega (arith, agrees.began, (sees.committed.ends adaptor known).on);
  there = λ sights offset over.
      let (from, within) = agrees.there (sight ∷ sights) offset over in
      (from, within_after sight old new sound sees adaptor known sights offset within);
  back = λ sights offset from within.
      agrees.back (sight ∷ sights) offset from
      (within_before sight old new sound sees adaptor known sights offset within);
}

-- a table that calls lead to is sound, and has as many adaptors as at first
leads_sound : (room adaptors : ℕ) (calls : List Call) (t : Table) → LeadsTo room adaptors calls t
    → IsSound t × (length t.committed ≡ adaptors)
leads_sound room adaptors [] t leads = (
  subst IsSound (sym leads) (sound_empty room adaptors),
  ap (λ (t : Table). length t.committed)
      leads ∙ length-replicate adaptors 0,
)
leads_sound room adaptors (Begin owner at ∷ calls) t (old, leads, makes) =
    let before = leads_sound room adaptors calls old leads in (
      subst IsSound (sym makes.1) (sound_begun owner at old makes.0 before.0),
      ap (λ (t : Table). length t.committed) makes.1 ∙ length-set old.committed owner at ∙ before.1,
    )
leads_sound room adaptors (Answered row ∷ calls) t (old, leads, makes) =
    let before = leads_sound room adaptors calls old leads in
    let continues = makes.0 in (
      subst IsSound (sym makes.1)
          (sound_added row old continues.known continues.free continues.next continues.some
          continues.unmarked before.0),
      ap (λ (t : Table). length t.committed) makes.1 ∙ before.1,
    )
leads_sound room adaptors (Seen sight ∷ calls) t (old, leads, sees) =
    let before = leads_sound room adaptors calls old leads in
    (sound_seen sight.stem sight.length old t before.0 sees, sees.committed.as_many ∙ before.1)

leads_agrees : (room adaptors : ℕ) (calls : List Call) (t : Table) (adaptor : ℕ)
    → LeadsTo room adaptors calls t → adaptor < adaptors
    → Agrees adaptor calls t
leads_agrees room adaptors [] t adaptor leads known =
    subst (Agrees adaptor []) (sym leads) (agrees_empty room adaptors adaptor)
leads_agrees room adaptors (Begin owner at ∷ calls) t adaptor (old, leads, makes) known =
    subst (Agrees adaptor (Begin owner at ∷ calls)) (sym makes.1)
    (agrees_begun adaptor owner at calls old makes.0
    (leads_agrees room adaptors calls old adaptor leads known))
leads_agrees room adaptors (Answered row ∷ calls) t adaptor (old, leads, makes) known =
    let (sound, as_many) = leads_sound room adaptors calls old leads in
    subst (Agrees adaptor (Answered row ∷ calls)) (sym makes.1)
    (agrees_added adaptor row calls old sound (omega (arith, as_many)) makes.0
    (leads_agrees room adaptors calls old adaptor leads known))
leads_agrees room adaptors (Seen sight ∷ calls) t adaptor (old, leads, sees) known =
    let (sound, as_many) = leads_sound room adaptors calls old leads in
    agrees_seen adaptor sight calls old t sound (omega (arith, as_many)) sees
    (leads_agrees room adaptors calls old adaptor leads known)

-- the committed end is the contiguous end of what the calls acknowledged
pub leads_contiguous : (room adaptors : ℕ) (calls : List Call) (t : Table) (adaptor : ℕ)
    → LeadsTo room adaptors calls t → adaptor < adaptors
    → IsContiguousEnd (IsCovered (acknowledged adaptor [] calls)) (began_at adaptor calls)
    (slice_index t.committed adaptor)
leads_contiguous room adaptors calls t adaptor leads known =
    let agrees = leads_agrees room adaptors calls t adaptor leads known in
    let (sound, as_many) = leads_sound room adaptors calls t leads in
    let settled = settled_contiguous t adaptor sound (omega (arith, as_many)) in
    record {
      on = agrees.began;
      no_gap = λ offset ge lt. agrees.back [] offset ge (inl lt);
      greatest = λ other ge all. settled.greatest other (omega arith) (λ offset low lt.
          elim (cases_lt offset (slice_index t.committed adaptor)) [
            | inl below ↦ inl below
            | inr past ↦ (agrees.there [] offset (all offset (omega (arith, agrees.began)) lt)).1
          ]);
    }
