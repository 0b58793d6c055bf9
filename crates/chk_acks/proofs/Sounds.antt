-- Each call keeps a table sound.
use Rattle.std.proofs.Common.{◌≡◌, inl, inr, ◌≤◌, ◌<◌, ℕ, Bool, true, false, cond, not, List, [], ◌∷◌, ◌++◌, length, map, set, refl, sym, subst, ap, ◌∙◌, arith}
use Rattle.std.specs.List.{filter}
use Rattle.std.specs.Prelude.{nat_lt, slice_index}
use Rattle.std.proofs.lemmas.Bool.{cases_Bool, cases_eq, eq-eqb, ne_eqb}
use Rattle.std.proofs.lemmas.List.{append-nil, length-set, length-map, length-append, get_or-set_same, get_or-set_other}
use Rattle.std.proofs.lemmas.List.Elements.{All-filter, All-map, All-push, All-same, filter-append}
use Rattle.std.proofs.lemmas.List.Filters.{length-filter_both}
use Rattle.chk_bytes.specs.Stems.{Stem}
use Rattle.chk_acks.specs.declared.row.Row.{Row}
use Rattle.chk_acks.specs.Rows.{is_of, is_of_other, is_past, marked_at, rows_of}
use Rattle.chk_acks.specs.Table.{Sees, Table, added, begun, empty_table}
use Rattle.chk_acks.specs.Sound.{AreInTurn, BeginsUnmarked, IsSound}
use Rattle.chk_acks.proofs.Turns.{IsLeft, contiguous_after, contiguous_unique, end_after, gap_push, left_after, turn_marked, turn_push}
use Rattle.chk_acks.proofs.AdaptorRows.{rows_of-dropped, rows_of-kept, rows_of-marked, rows_of-past}

pub turn_as : {from from' to to' : ℕ} {rows rows' : List Row} → from ≡ from' → rows ≡ rows' → to ≡ to'
    → AreInTurn from' rows' to' → AreInTurn from rows to
turn_as is rows_are to_is turn = rw (is, rows_are, to_is) turn

pub filter_fewer : {X : Type 0} (keeps : X → Bool) (xs : List X) → length (filter keeps xs)
    ≤ length xs
filter_fewer keeps xs = omega (arith, length-filter_both keeps (λ x. not (keeps x)) (λ x. refl) xs)

-- a new table is sound
pub sound_empty : (room adaptors : ℕ) → IsSound (empty_table room adaptors)
sound_empty room adaptors = record {
  known = λ k d within. absurd (omega arith);
  as_many = refl;
  few = omega arith;
  turn = λ adaptor known. refl;
  gap = λ adaptor known. tt;
}

-- so is one after `begin`
pub sound_begun : (dropped at : ℕ) (t : Table) → dropped < length t.committed → IsSound t
    → IsSound (begun dropped at t)
sound_begun dropped at t known sound = record {
  known =
      rw length-set (All-filter (is_of_other dropped) (λ row. row.adaptor < length t.committed)
      t.rows sound.known);
  as_many = length-set t.last dropped at ∙ sound.as_many ∙ sym (length-set t.committed dropped at);
  few = omega (arith, sound.few, filter_fewer (is_of_other dropped) t.rows);
  turn = λ adaptor there. elim (cases_eq adaptor dropped) [
    | inl same ↦ here adaptor same
    | inr apart ↦ turn_as
        (get_or-set_other t.committed dropped adaptor at 0 apart)
        (rows_of-kept adaptor dropped apart t.rows)
        (get_or-set_other t.last dropped adaptor at 0 apart)
        (sound.turn adaptor (omega (arith, length-set t.committed dropped at)))
  ];
  gap = λ adaptor there. elim (cases_eq adaptor dropped) [
    | inl same ↦ subst BeginsUnmarked
        (sym (ap (λ a. rows_of a (filter (is_of_other dropped) t.rows)) same
        ∙ rows_of-dropped dropped t.rows)) tt
    | inr apart ↦ subst BeginsUnmarked (sym (rows_of-kept adaptor dropped apart t.rows))
        (sound.gap adaptor (omega (arith, length-set t.committed dropped at)))
  ];
}
  where
    here : (adaptor : ℕ) → adaptor ≡ dropped
        → AreInTurn (slice_index (set t.committed dropped at) adaptor)
        (rows_of adaptor (filter (is_of_other dropped) t.rows))
        (slice_index (set t.last dropped at) adaptor)
    here adaptor same = rw same (turn_as
        (get_or-set_same t.committed dropped at 0 known) (rows_of-dropped dropped t.rows)
        (get_or-set_same t.last dropped at 0 (omega (arith, sound.as_many))) refl)

-- so is one with a row more
pub sound_added : (row : Row) (t : Table) → row.adaptor < length t.committed → length t.rows
    < t.room
    → row.begin ≡ slice_index t.last row.adaptor → row.begin < row.end → row.marked ≡ false
    → IsSound t → IsSound (added row t)
sound_added row t known free next some unmarked sound = record {
  known = All-push (λ row. row.adaptor < length t.committed) t.rows row sound.known known;
  as_many = length-set t.last row.adaptor row.end ∙ sound.as_many;
  few = omega (arith, length-append t.rows (row ∷ []));
  turn = λ adaptor there. elim (cases_eq adaptor row.adaptor) [
    | inl same ↦ turn_as refl (rows_with adaptor (eq-eqb row.adaptor adaptor (sym same)))
        (ap (slice_index (set t.last row.adaptor row.end)) same
        ∙ get_or-set_same t.last row.adaptor row.end 0 (omega (arith, sound.as_many)))
        (turn_push (slice_index t.committed adaptor) (rows_of adaptor t.rows) row
        (turn_as refl refl (next ∙ ap (slice_index t.last) (sym same)) (sound.turn adaptor there))
        some)
    | inr apart ↦ turn_as refl (rows_without adaptor
        (ne_eqb row.adaptor adaptor (λ same. apart (sym same))))
        (get_or-set_other t.last row.adaptor adaptor row.end 0 apart) (sound.turn adaptor there)
  ];
  gap = λ adaptor there. elim (cases_Bool (is_of adaptor row)) [
    | inl mine ↦ subst BeginsUnmarked (sym (rows_with adaptor mine))
        (gap_push (rows_of adaptor t.rows) row (sound.gap adaptor there) unmarked)
    | inr other ↦ subst BeginsUnmarked (sym (rows_without adaptor other)) (sound.gap adaptor there)
  ];
}
  where
    rows_with : (adaptor : ℕ) → is_of adaptor row ≡ true → rows_of adaptor (t.rows ++ (row ∷ []))
        ≡ rows_of adaptor t.rows ++ (row ∷ [])
    rows_with adaptor mine =
        filter-append (is_of adaptor) t.rows (row ∷ [])
        ∙ ap (λ b. rows_of adaptor t.rows ++ cond b (row ∷ []) []) mine

    rows_without : (adaptor : ℕ) → is_of adaptor row ≡ false
        → rows_of adaptor (t.rows ++ (row ∷ [])) ≡ rows_of adaptor t.rows
    rows_without adaptor other =
        filter-append (is_of adaptor) t.rows (row ∷ [])
        ∙ ap (λ b. rows_of adaptor t.rows ++ cond b (row ∷ []) []) other
        ∙ append-nil (rows_of adaptor t.rows)

-- marked, the rows of an adaptor lie in turn as before
pub turn_seen : (stem : Stem) (size : ℕ) (t : Table) → IsSound t → (adaptor : ℕ) → adaptor
    < length t.committed
    → AreInTurn (slice_index t.committed adaptor)
    (rows_of adaptor (map (marked_at stem size) t.rows)) (slice_index t.last adaptor)
turn_seen stem size t sound adaptor known =
    turn_as refl (rows_of-marked adaptor stem size t.rows) refl
    (turn_marked stem size (slice_index t.committed adaptor) (rows_of adaptor t.rows)
    (slice_index t.last adaptor) (sound.turn adaptor known))

-- and one after `seen` is sound
module _ (stem : Stem) (size : ℕ) (old new : Table) (sound : IsSound old)
    (sees : Sees stem size old new) where
  -- those that are left are the ones past the new end
  pub seen_rows : (adaptor : ℕ) → rows_of adaptor new.rows
      ≡ filter (λ row. nat_lt (slice_index new.committed adaptor) row.end)
      (rows_of adaptor (map (marked_at stem size) old.rows))
  seen_rows adaptor =
      ap (rows_of adaptor) sees.rows
      ∙ rows_of-past adaptor new.committed (map (marked_at stem size) old.rows)

  seen_left : (adaptor : ℕ) → adaptor < length old.committed
      → IsLeft (rows_of adaptor (map (marked_at stem size) old.rows)) (slice_index old.last adaptor)
      (slice_index new.committed adaptor)
  seen_left adaptor known =
      let rows = rows_of adaptor (map (marked_at stem size) old.rows) in
      let from = slice_index old.committed adaptor in
      let to = slice_index old.last adaptor in
      subst (IsLeft rows to)
      (contiguous_unique (end_after from rows) (slice_index new.committed adaptor)
      (contiguous_after from rows to (turn_seen stem size old sound adaptor known))
      (sees.committed.ends adaptor known))
      (left_after from rows to (turn_seen stem size old sound adaptor known))

  pub sound_seen : IsSound new
  sound_seen = record {
    known = All-same (λ row. row.adaptor < length new.committed) new.rows _ sees.rows
        (All-filter (is_past new.committed) (λ row. row.adaptor < length new.committed)
        (map (marked_at stem size) old.rows)
        (All-map (λ row. row.adaptor < length new.committed) (marked_at stem size) old.rows
        (rw sees.committed.as_many sound.known)));
    as_many = ap (length {A = ℕ}) sees.last ∙ sound.as_many ∙ sym sees.committed.as_many;
    few = omega (
      arith,
      ap (length {A = Row}) sees.rows,
      filter_fewer (is_past new.committed) (map (marked_at stem size) old.rows),
      length-map old.rows (marked_at stem size),
      sound.few,
      sees.room,
    );
    turn =
        λ adaptor there. turn_as refl (seen_rows adaptor)
        (ap (λ ends. slice_index ends adaptor) sees.last)
        (seen_left adaptor (omega (arith, sees.committed.as_many))).0;
    gap =
        λ adaptor there. subst BeginsUnmarked (sym (seen_rows adaptor))
        (seen_left adaptor (omega (arith, sees.committed.as_many))).1;
  }
