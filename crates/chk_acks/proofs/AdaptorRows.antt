-- The rows of one adaptor, and the pass that moves the committed ends.
use Rattle.std.proofs.Common.{◌≡◌, ◌<◌, ℕ, Bool, true, false, cond, List, [], ◌∷◌, length, map, set, refl, sym, subst, ap, ◌∙◌, arith, fold}
use Rattle.std.specs.List.{filter}
use Rattle.std.specs.Prelude.{◌&&◌, ◌==◌, nat_lt, slice_index}
use Rattle.std.proofs.lemmas.Bool.{eqb-true, eqb-false, ne_eqb}
use Rattle.std.proofs.lemmas.List.{length-set, get_or-set_same, get_or-set_other}
use Rattle.chk_bytes.specs.Stems.{Stem}
use Rattle.chk_acks.specs.declared.row.Row.{Row}
use Rattle.chk_acks.specs.Contiguous.{IsContiguousEnd}
use Rattle.chk_acks.specs.Rows.{IsAcknowledged, is_of, is_of_other, is_past, marked_at, rows_of}
use Rattle.chk_acks.specs.Passes.{moved_end}
use Rattle.chk_acks.specs.Table.{Advances}
use Rattle.chk_acks.specs.Sound.{AreInTurn}
use Rattle.chk_acks.proofs.Turns.{contiguous_after, end_after}

-- a filter behind another, where the second is the third on what the first keeps
pub filter_swap : {X : Type 0} (p q r : X → Bool) → ((x : X) → p x ≡ true → q x ≡ r x) → (xs : List X)
    → filter p (filter q xs) ≡ filter r (filter p xs)
filter_swap p q r same [] = refl
filter_swap {X} p q r same (x ∷ xs) = by (p x) (q x) refl refl (filter_swap p q r same xs)
  where
    by : (a b : Bool) → p x ≡ a → q x ≡ b → filter p (filter q xs) ≡ filter r (filter p xs)
        → filter p (cond (q x) (x ∷ filter q xs) (filter q xs))
        ≡ filter r (cond (p x) (x ∷ filter p xs) (filter p xs))
    by true true p_is q_is rest =
        let r_is : r x ≡ true =
        sym (same x p_is) ∙ q_is in rw (q_is, p_is, r_is) (ap (λ ys. x ∷ ys) rest)
    by true false p_is q_is rest =
        let r_is : r x ≡ false = sym (same x p_is) ∙ q_is in rw (q_is, p_is, r_is) rest
    by false true p_is q_is rest = rw (q_is, p_is) rest
    by false false p_is q_is rest = rw (q_is, p_is) rest

pub filter_all : {X : Type 0} (xs : List X) → filter (λ _. true) xs ≡ xs
filter_all [] = refl
filter_all (x ∷ xs) = ap (λ ys. x ∷ ys) (filter_all xs)

pub filter_none : {X : Type 0} (xs : List X) → filter (λ _. false) xs ≡ []
filter_none [] = refl
filter_none (x ∷ xs) = filter_none xs

-- no row of an adaptor is left where its rows were dropped
pub rows_of-dropped : (adaptor : ℕ) (rows : List Row)
    → rows_of adaptor (filter (is_of_other adaptor) rows) ≡ []
rows_of-dropped adaptor rows =
    filter_swap (is_of adaptor) (is_of_other adaptor) (λ _. false) (λ row is. rw is refl) rows
    ∙ filter_none (rows_of adaptor rows)

-- the rows of another adaptor stay
pub rows_of-kept : (adaptor dropped : ℕ) → (adaptor ≡ dropped → ⊥) → (rows : List Row)
    → rows_of adaptor (filter (is_of_other dropped) rows) ≡ rows_of adaptor rows
rows_of-kept adaptor dropped apart rows =
    filter_swap (is_of adaptor) (is_of_other dropped) (λ _. true)
    (λ row is. rw (eqb-true row.adaptor adaptor is, ne_eqb adaptor dropped apart) refl) rows
    ∙ filter_all (rows_of adaptor rows)

-- of one adaptor, the rows past the committed ends are those past its own
pub rows_of-past : (adaptor : ℕ) (committed : List ℕ) (rows : List Row)
    → rows_of adaptor (filter (is_past committed) rows)
    ≡ filter (λ row. nat_lt (slice_index committed adaptor) row.end) (rows_of adaptor rows)
rows_of-past adaptor committed rows =
    filter_swap (is_of adaptor) (is_past committed)
    (λ row. nat_lt (slice_index committed adaptor) row.end)
    (λ row is. rw (eqb-true row.adaptor adaptor is) refl) rows

-- marking and taking the rows of an adaptor commute
pub rows_of-marked : (adaptor : ℕ) (stem : Stem) (size : ℕ) (rows : List Row)
    → rows_of adaptor (map (marked_at stem size) rows)
    ≡ map (marked_at stem size) (rows_of adaptor rows)
rows_of-marked adaptor stem size [] = refl
rows_of-marked adaptor stem size (row ∷ rows) =
    by (is_of adaptor row) (rows_of-marked adaptor stem size rows)
  where
    by : (mine : Bool) → rows_of adaptor (map (marked_at stem size) rows)
        ≡ map (marked_at stem size) (rows_of adaptor rows)
        → cond mine (marked_at stem size row ∷ rows_of adaptor (map (marked_at stem size) rows))
        (rows_of adaptor (map (marked_at stem size) rows))
        ≡ map (marked_at stem size) (cond mine (row ∷ rows_of adaptor rows) (rows_of adaptor rows))
    by true rest = ap (λ rs. marked_at stem size row ∷ rs) rest
    by false rest = rest

-- the pass over the rows moves each end as over its own rows
length-moved_end : (committed : List ℕ) (row : Row) → length (moved_end committed row)
    ≡ length committed
length-moved_end committed row = by (row.marked && row.begin == slice_index committed row.adaptor)
  where
    by : (moves : Bool) → length (cond moves (set committed row.adaptor row.end) committed)
        ≡ length committed
    by true = length-set committed row.adaptor row.end
    by false = refl

pub length-moved : (committed : List ℕ) (rows : List Row) → length (fold moved_end committed rows)
    ≡ length committed
length-moved committed [] = refl
length-moved committed (row ∷ rows) =
    length-moved (moved_end committed row) rows ∙ length-moved_end committed row

moved_mine : (committed : List ℕ) (adaptor owner begin end : ℕ) (marked : Bool) (rows : List Row)
    → adaptor < length committed → owner ≡ adaptor
    → end_after (slice_index (cond (marked && begin == slice_index committed owner)
    (set committed owner end) committed) adaptor) rows
    ≡ cond (marked && begin == slice_index committed adaptor) (end_after end rows)
    (end_after (slice_index committed adaptor) rows)
moved_mine committed adaptor owner begin end marked rows known same =
    rw same (by (marked && begin == slice_index committed adaptor))
  where
    by : (moves : Bool) → end_after
        (slice_index (cond moves (set committed adaptor end) committed) adaptor) rows
        ≡ cond moves (end_after end rows) (end_after (slice_index committed adaptor) rows)
    by true = ap (λ e. end_after e rows) (get_or-set_same committed adaptor end 0 known)
    by false = refl

moved_other : (committed : List ℕ) (adaptor : ℕ) (row : Row) → (adaptor ≡ row.adaptor → ⊥)
    → slice_index (moved_end committed row) adaptor ≡ slice_index committed adaptor
moved_other committed adaptor row apart =
    by (row.marked && row.begin == slice_index committed row.adaptor)
  where
    by : (moves : Bool) → slice_index (cond moves (set committed row.adaptor row.end) committed)
        adaptor ≡ slice_index committed adaptor
    by true = get_or-set_other committed row.adaptor adaptor row.end 0 apart
    by false = refl

pub moved_at : (adaptor : ℕ) (rows : List Row) (committed : List ℕ) → adaptor < length committed
    → slice_index (fold moved_end committed rows) adaptor
    ≡ end_after (slice_index committed adaptor) (rows_of adaptor rows)
moved_at adaptor [] committed known = refl
moved_at adaptor (row ∷ rows) committed known =
    moved_at adaptor rows (moved_end committed row) (omega (arith, length-moved_end committed row))
    ∙ by (is_of adaptor row) refl
  where
    by : (mine : Bool) → is_of adaptor row ≡ mine
        → end_after (slice_index (moved_end committed row) adaptor) (rows_of adaptor rows)
        ≡ end_after (slice_index committed adaptor)
        (cond mine (row ∷ rows_of adaptor rows) (rows_of adaptor rows))
    by true is =
        moved_mine committed adaptor row.adaptor row.begin row.end row.marked (rows_of adaptor rows)
        known (eqb-true row.adaptor adaptor is)
    by false is =
        ap (λ e. end_after e (rows_of adaptor rows))
        (moved_other committed adaptor row
        (λ same. eqb-false row.adaptor adaptor is (sym same)))

-- the committed ends after the pass
pub moved_advances : (rows : List Row) (committed : List ℕ) (last : List ℕ)
    → ((adaptor : ℕ) → adaptor < length committed
    → AreInTurn (slice_index committed adaptor) (rows_of adaptor rows)
    (slice_index last adaptor))
    → Advances rows committed (fold moved_end committed rows)
moved_advances rows committed last turn = record {
  as_many = length-moved committed rows;
  ends = λ adaptor known.
      subst (IsContiguousEnd (IsAcknowledged (rows_of adaptor rows))
      (slice_index committed adaptor)) (sym (moved_at adaptor rows committed known))
      (contiguous_after (slice_index committed adaptor) (rows_of adaptor rows)
      (slice_index last adaptor) (turn adaptor known));
}
