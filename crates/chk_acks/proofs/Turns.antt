-- Rows in turn, and the contiguous end over them.
use Rattle.std.proofs.Common.{◌≡◌, inl, inr, ◌≤◌, ◌<◌, ℕ, Bool, true, false, cond, List, [], ◌∷◌, ◌++◌, map, refl, sym, subst, ap, ◌∙◌, arith}
use Rattle.std.specs.List.{filter}
use Rattle.std.specs.Prelude.{IsTrue, ◌&&◌, ◌==◌, nat_lt}
use Rattle.std.proofs.lemmas.Bool.{cases_Bool, cases_lt, both_ways, lt-ltb, le-ltb, eq-eqb, ne_eqb}
use Rattle.chk_bytes.specs.Stems.{Stem}
use Rattle.chk_acks.specs.declared.row.Row.{Row}
use Rattle.chk_acks.specs.Contiguous.{AllCovered, IsContiguousEnd}
use Rattle.chk_acks.specs.Rows.{Covers, IsAcknowledged, IsCovered, marked_at}
use Rattle.chk_acks.specs.Sound.{AreInTurn, BeginsUnmarked}
use Rattle.chk_acks.proofs.Anys.{any_here, any_there, any_cases, any_none, any_all}

-- a row is marked, and the offset lies in it
abbrev pub IsOver : ℕ → Row → Type 0
IsOver offset row = IsTrue row.marked × Covers offset row

-- two contiguous ends are one
pub contiguous_unique : {covered : ℕ → Type 0} {from : ℕ} (one other : ℕ)
    → IsContiguousEnd covered from one → IsContiguousEnd covered from other → one ≡ other
contiguous_unique one other h g =
    omega (arith, g.greatest one h.on h.no_gap, h.greatest other g.on g.no_gap)

-- where the offset at the end isn't covered, it is the contiguous end
pub contiguous_here : {covered : ℕ → Type 0} (end : ℕ) → (covered end → ⊥)
    → IsContiguousEnd covered end end
contiguous_here {covered} end not_covered = record {
  on = omega arith;
  no_gap = λ offset ge lt. absurd (omega arith);
  greatest = greatest;
}
  where
    greatest : (other : ℕ) → end ≤ other → AllCovered covered end other → other ≤ end
    greatest other ge all =
        elim (cases_lt end other) [
          | inl lt ↦ absurd (not_covered (all end (omega arith) lt))
          | inr le ↦ le
        ]

-- the end that marked rows move an end to, each that begins there
abbrev pub end_after : ℕ → List Row → ℕ
end_after from [] = from
end_after from (row ∷ rows) =
    cond (row.marked && row.begin == from) (end_after row.end rows) (end_after from rows)

end_after-marked : (from : ℕ) (row : Row) (rows : List Row) → row.marked ≡ true → row.begin ≡ from
    → end_after from (row ∷ rows) ≡ end_after row.end rows
end_after-marked from row rows marked begins = rw (marked, eq-eqb row.begin from begins) refl

end_after-unmarked : (from : ℕ) (row : Row) (rows : List Row) → row.marked ≡ false
    → end_after from (row ∷ rows) ≡ end_after from rows
end_after-unmarked from row rows unmarked = rw unmarked refl

-- a row that begins elsewhere doesn't move an end
end_after-apart : (from : ℕ) (row : Row) (rows : List Row) → (row.begin ≡ from → ⊥)
    → end_after from (row ∷ rows) ≡ end_after from rows
end_after-apart from row rows apart =
    by row.marked (row.begin == from) (ne_eqb row.begin from apart)
  where
    by : (marked test : Bool) → test ≡ false
        → cond (marked && test) (end_after row.end rows) (end_after from rows) ≡ end_after from rows
    by true test no_test = rw no_test refl
    by false test no_test = refl

-- rows in turn go forward
pub turn_on : (from : ℕ) (rows : List Row) (to : ℕ) → AreInTurn from rows to → from ≤ to
turn_on from [] to is = omega arith
turn_on from (row ∷ rows) to turn = omega (arith, turn_on row.end rows to turn.2)

-- an offset in one of them isn't below the first
pub covered_on : (from : ℕ) (rows : List Row) (to offset : ℕ) → AreInTurn from rows to
    → IsCovered rows offset → from ≤ offset
covered_on from [] to offset turn over = absurd (any_none (Covers offset) over)
covered_on from (row ∷ rows) to offset turn over =
    elim (any_cases (Covers offset) row rows over) [
      | inl lies ↦ omega arith
      | inr later ↦ omega (arith, covered_on row.end rows to offset turn.2 later)
    ]

below_turn : (from : ℕ) (rows : List Row) (to offset : ℕ) → AreInTurn from rows to → offset < from
    → IsAcknowledged rows offset → ⊥
below_turn from rows to offset turn below over =
    omega (
      arith,
      covered_on from rows to offset turn
          (any_all (IsOver offset) (Covers offset) (λ row lies. lies.1) rows over),
    )

-- where the first row is unmarked, its offset isn't acknowledged
pub gap_here : (from : ℕ) (rows : List Row) (to : ℕ) → AreInTurn from rows to → BeginsUnmarked rows
    → IsAcknowledged rows from → ⊥
gap_here from [] to turn gap over = any_none (IsOver from) over
gap_here from (row ∷ rows) to turn gap over =
    elim (any_cases (IsOver from) row rows over) [
      | inl (marked, lies) ↦ both_ways row.marked gap marked
      | inr later ↦ below_turn row.end rows to from turn.2 (omega arith) later
    ]

-- rows past an end don't move it
end_below : (end from : ℕ) (rows : List Row) (to : ℕ) → AreInTurn from rows to → end < from
    → end_after end rows ≡ end
end_below end from [] to turn below = refl
end_below end from (row ∷ rows) to turn below =
    end_after-apart end row rows (λ is. omega arith)
    ∙ end_below end row.end rows to turn.2 (omega arith)

-- an unmarked first row keeps the end
end_stays : (from : ℕ) (row : Row) (rows : List Row) (to : ℕ) → AreInTurn from (row ∷ rows) to
    → row.marked ≡ false
    → end_after from (row ∷ rows) ≡ from
end_stays from row rows to turn unmarked =
    end_after-unmarked from row rows unmarked ∙ end_below from row.end rows to turn.2 (omega arith)

-- a marked first row goes on to the contiguous end behind it
marked_first : (row : Row) (rows : List Row) (end : ℕ) → row.begin < row.end → row.marked ≡ true
    → IsContiguousEnd (IsAcknowledged rows) row.end end
    → IsContiguousEnd (IsAcknowledged (row ∷ rows)) row.begin end
marked_first row rows end some marked behind = record {
  on = omega (arith, behind.on);
  no_gap = no_gap;
  greatest = greatest;
}
  where
    no_gap : AllCovered (IsAcknowledged (row ∷ rows)) row.begin end
    no_gap offset ge lt =
        elim (cases_lt offset row.end) [
          | inl within ↦ any_here (IsOver offset) row rows (marked, (ge, within))
          | inr past ↦ any_there (IsOver offset) row rows (behind.no_gap offset past lt)
        ]

    later : (other : ℕ) → AllCovered (IsAcknowledged (row ∷ rows)) row.begin other
        → AllCovered (IsAcknowledged rows) row.end other
    later other all offset ge lt =
        elim (any_cases (IsOver offset) row rows (all offset (omega arith) lt)) [
          | inl (is_marked, lies) ↦ absurd (omega arith)
          | inr over ↦ over
        ]

    greatest : (other : ℕ) → row.begin ≤ other
        → AllCovered (IsAcknowledged (row ∷ rows)) row.begin other → other ≤ end
    greatest other ge all =
        elim (cases_lt other row.end) [
          | inl before ↦ omega (arith, behind.on)
          | inr past ↦ behind.greatest other past (later other all)
        ]

-- over rows in turn that end is the contiguous one
pub contiguous_after : (from : ℕ) (rows : List Row) (to : ℕ) → AreInTurn from rows to
    → IsContiguousEnd (IsAcknowledged rows) from (end_after from rows)
contiguous_after from [] to turn = contiguous_here from (any_none (IsOver from))
contiguous_after from (row ∷ rows) to turn =
    elim (cases_Bool row.marked) [
      | inl marked ↦
          subst (IsContiguousEnd (IsAcknowledged (row ∷ rows)) from)
          (sym (end_after-marked from row rows marked turn.0))
          (subst (λ begin. IsContiguousEnd (IsAcknowledged (row ∷ rows)) begin
          (end_after row.end rows)) turn.0
          (marked_first row rows (end_after row.end rows) turn.1 marked
          (contiguous_after row.end rows to turn.2)))
      | inr unmarked ↦
          subst (IsContiguousEnd (IsAcknowledged (row ∷ rows)) from)
          (sym (end_stays from row rows to turn unmarked))
          (contiguous_here from (gap_here from (row ∷ rows) to turn unmarked))
    ]

-- what is left past an end: rows in turn from there on, the first unmarked
abbrev pub IsLeft : List Row → ℕ → ℕ → Type 0
IsLeft rows to end =
    AreInTurn end (filter (λ row. nat_lt end row.end) rows) to
    × BeginsUnmarked (filter (λ row. nat_lt end row.end) rows)

-- rows in turn that end past an offset are all kept
keeps_all : (end from : ℕ) (rows : List Row) (to : ℕ) → AreInTurn from rows to → end ≤ from
    → filter (λ row. nat_lt end row.end) rows ≡ rows
keeps_all end from [] to turn below = refl
keeps_all end from (row ∷ rows) to turn below =
    rw (lt-ltb end row.end (omega arith))
    (ap (λ rs. row ∷ rs) (keeps_all end row.end rows to turn.2 (omega arith)))

-- past that end the rows are again in turn
pub left_after : (from : ℕ) (rows : List Row) (to : ℕ) → AreInTurn from rows to
    → IsLeft rows to (end_after from rows)
left_after from [] to turn = (turn, tt)
left_after from (row ∷ rows) to turn =
    elim (cases_Bool row.marked) [
      | inl marked ↦
          subst (IsLeft (row ∷ rows) to) (sym (end_after-marked from row rows marked turn.0))
          (rw (le-ltb (end_after row.end rows) row.end (contiguous_after row.end rows to turn.2).on)
          (left_after row.end rows to turn.2))
      | inr unmarked ↦
          subst (IsLeft (row ∷ rows) to) (sym (end_stays from row rows to turn unmarked))
          (subst (λ rs. AreInTurn from rs to × BeginsUnmarked rs)
          (sym (keeps_all from from (row ∷ rows) to turn (omega arith))) (turn, unmarked))
    ]

-- marking keeps the turn
pub turn_marked : (stem : Stem) (size from : ℕ) (rows : List Row) (to : ℕ) → AreInTurn from rows to
    → AreInTurn from (map (marked_at stem size) rows) to
turn_marked stem size from [] to turn = turn
turn_marked stem size from (row ∷ rows) to turn =
    (turn.0, turn.1, turn_marked stem size row.end rows to turn.2)

-- one more row at the end
pub turn_push : (from : ℕ) (rows : List Row) (row : Row) → AreInTurn from rows row.begin → row.begin
    < row.end
    → AreInTurn from (rows ++ (row ∷ [])) row.end
turn_push from [] row turn some = (sym turn, some, refl)
turn_push from (first ∷ rows) row turn some =
    (turn.0, turn.1, turn_push first.end rows row turn.2 some)

pub gap_push : (rows : List Row) (row : Row) → BeginsUnmarked rows → row.marked ≡ false
    → BeginsUnmarked (rows ++ (row ∷ []))
gap_push [] row gap unmarked = unmarked
gap_push (first ∷ rows) row gap unmarked = gap
