-- The passes over the rows, one row on.
use Rattle.std.proofs.Common.{◌≡◌, ◌≤◌, ◌<◌, ℕ, suc, ◌+◌, Bool, true, false, cond, List, [], ◌∷◌, ◌++◌, length, take, get_or, ap, ◌∙◌, arith, sym}
use Rattle.std.proofs.lemmas.List.{take_more, length-take-le}
use Rattle.chk_acks.specs.declared.row.Row.{Row}
use Rattle.chk_acks.specs.Passes.{places_of}

-- the places after one more row at the end
pub places_of-push : (place : ℕ) (rows : List Row) (row : Row)
    → places_of place (rows ++ (row ∷ [])) ≡ places_of place rows
    ++ cond row.marked [] ((place + length rows) ∷ [])
places_of-push place [] row = ap (λ n. cond row.marked [] (n ∷ [])) (omega arith)
places_of-push place (r ∷ rows) row =
    by r.marked (places_of-push (suc place) rows row
    ∙ ap (λ n. places_of (suc place) rows ++ cond row.marked [] (n ∷ [])) (omega arith))
  where
    by : (marked : Bool)
        → places_of (suc place) (rows ++ (row ∷ [])) ≡ places_of (suc place) rows
        ++ cond row.marked [] ((place + suc (length rows)) ∷ [])
        → cond marked (places_of (suc place) (rows ++ (row ∷ [])))
        (place ∷ places_of (suc place) (rows ++ (row ∷ [])))
        ≡ cond marked (places_of (suc place) rows) (place ∷ places_of (suc place) rows)
        ++ cond row.marked [] ((place + suc (length rows)) ∷ [])
    by true e = e
    by false e = ap (λ ps. place ∷ ps) e

-- there are no more unmarked rows than rows
pub length-places_of : (place : ℕ) (rows : List Row) → length (places_of place rows) ≤ length rows
length-places_of place [] = omega arith
length-places_of place (r ∷ rows) = by r.marked (length-places_of (suc place) rows)
  where
    by : (marked : Bool) → length (places_of (suc place) rows) ≤ length rows
        → length (cond marked (places_of (suc place) rows) (place ∷ places_of (suc place) rows))
        ≤ suc (length rows)
    by true few = omega arith
    by false few = omega arith

-- the places among one more of the rows
pub places_of_more : (rows : List Row) (i : ℕ) (row : Row) → i < length rows → row
    ≡ get_or rows i row
    → places_of 0 (take (i + 1) rows) ≡ places_of 0 (take i rows) ++ cond row.marked [] (i ∷ [])
places_of_more rows i row within is =
    ap (places_of 0) (take_more rows i row within)
    ∙ ap (λ r. places_of 0 (take i rows ++ (r ∷ []))) (sym is)
    ∙ places_of-push 0 (take i rows) row
    ∙ ap (λ n. places_of 0 (take i rows) ++ cond row.marked [] (n ∷ []))
    (omega (arith, length-take-le i rows (omega arith)))
