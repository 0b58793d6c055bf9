-- A line goes on by the bytes behind it.
use Rattle.std.proofs.Common.{◌≡◌, ℕ, ◌+◌, ◌<◌, Bool, true, false, List, [], ◌∷◌, ◌++◌, length, ap, sym, subst, ◌∙◌, refl, arith, append_assoc, append-nil, length-append, if◌then◌else◌}
use Rattle.std.specs.Prelude.{nat_le, ◌==◌, ◌||◌}
use Rattle.std.proofs.lemmas.Bool.{leb-false}
use Rattle.chk_chunk.specs.Keys.{chunk_limit}
use Rattle.chk_world.specs.Splits.{lines_from}
use Rattle.chk_demux_split.specs.LineFronts.{ends_line, open_line, GoesOn}

-- the lines of two parts: those of the first, and of the second behind what the first leaves
pub lines_grow : (line a b : List ℕ)
    → lines_from line (a ++ b) ≡ lines_from line a ++ lines_from (open_line line a) b
lines_grow line [] b = refl
lines_grow line (x ∷ a) b =
    go (ends_line x (length (line ++ x ∷ []))) (lines_grow [] a b) (lines_grow (line ++ x ∷ []) a b)
  where
    go : (t : Bool)
        → lines_from [] (a ++ b) ≡ lines_from [] a ++ lines_from (open_line [] a) b
        → lines_from (line ++ x ∷ []) (a ++ b)
        ≡ lines_from (line ++ x ∷ []) a ++ lines_from (open_line (line ++ x ∷ []) a) b
        → elim t as (λ t. List (List ℕ)) [
          | true ↦ (line ++ x ∷ []) ∷ lines_from [] (a ++ b)
          | false ↦ lines_from (line ++ x ∷ []) (a ++ b)
        ]
        ≡ (elim t as (λ t. List (List ℕ)) [
          | true ↦ (line ++ x ∷ []) ∷ lines_from [] a
          | false ↦ lines_from (line ++ x ∷ []) a
        ])
        ++ lines_from (elim t as (λ t. List ℕ) [
          | true ↦ open_line [] a
          | false ↦ open_line (line ++ x ∷ []) a
        ]) b
    go true on off = ap (λ l. (line ++ x ∷ []) ∷ l) on
    go false on off = off

-- and what is left of them
pub left_grow : (line a b : List ℕ) → open_line line (a ++ b) ≡ open_line (open_line line a) b
left_grow line [] b = refl
left_grow line (x ∷ a) b =
    go (ends_line x (length (line ++ x ∷ []))) (left_grow [] a b) (left_grow (line ++ x ∷ []) a b)
  where
    go : (t : Bool)
        → open_line [] (a ++ b) ≡ open_line (open_line [] a) b
        → open_line (line ++ x ∷ []) (a ++ b) ≡ open_line (open_line (line ++ x ∷ []) a) b
        → elim t as (λ t. List ℕ) [
          | true ↦ open_line [] (a ++ b)
          | false ↦ open_line (line ++ x ∷ []) (a ++ b)
        ]
        ≡ open_line (elim t as (λ t. List ℕ) [
          | true ↦ open_line [] a
          | false ↦ open_line (line ++ x ∷ []) a
        ]) b
    go true on off = on
    go false on off = off

-- a line goes on by no bytes
pub goes_on_first : (line : List ℕ) → length line < chunk_limit → GoesOn line [] false
goes_on_first line room = record {
  lines = refl;
  left = sym (append-nil line);
  some = λ e. absurd (cc);
  room = λ e. subst (λ l. length l < chunk_limit) (sym (append-nil line)) room;
  most = let size = ap length (append-nil line) in omega (arith, size, room);
}

-- one byte more
one_line : (l : List ℕ) (b : ℕ) (t : Bool) → ends_line b (length (l ++ b ∷ [])) ≡ t
    → lines_from l (b ∷ []) ≡ (if t then (l ++ b ∷ []) ∷ [] else [])
one_line l b t e =
    by (ends_line b (length (l ++ b ∷ []))) ∙ ap (λ t. if t then (l ++ b ∷ []) ∷ [] else []) e
  where
    by : (t : Bool)
        → elim t as (λ t. List (List ℕ)) [ true ↦ (l ++ b ∷ []) ∷ [] | false ↦ [] ]
        ≡ (if t then (l ++ b ∷ []) ∷ [] else [])
    by true = refl
    by false = refl

one_left : (l : List ℕ) (b : ℕ) (t : Bool) → ends_line b (length (l ++ b ∷ [])) ≡ t
    → open_line l (b ∷ []) ≡ (if t then [] else l ++ b ∷ [])
one_left l b t e =
    by (ends_line b (length (l ++ b ∷ []))) ∙ ap (λ t. if t then [] else l ++ b ∷ []) e
  where
    by : (t : Bool)
        → elim t as (λ t. List ℕ) [ true ↦ [] | false ↦ l ++ b ∷ [] ]
        ≡ (if t then [] else l ++ b ∷ [])
    by true = refl
    by false = refl

below_limit : (b n : ℕ) → ends_line b n ≡ false → n < chunk_limit
below_limit b n e = by (b == 10) e
  where
    by : (t : Bool) → (t || nat_le chunk_limit n) ≡ false → n < chunk_limit
    by true e = absurd (cc)
    by false e = leb-false chunk_limit n e

pub goes_on_more : (line a : List ℕ) (b : ℕ) (t : Bool) → GoesOn line a false
    → ends_line b (length line + (length a + 1)) ≡ t → GoesOn line (a ++ b ∷ []) t
goes_on_more line a b t on e =
    let whole = append_assoc line a (b ∷ []) in
    let before = length-append line a in
    let behind = length-append (line ++ a) (b ∷ []) in
    let all = ap length whole in
    let size : length ((line ++ a) ++ b ∷ []) ≡ length line + (length a + 1) =
    omega (arith, before, behind) in
    let test : ends_line b (length ((line ++ a) ++ b ∷ [])) ≡ t = ap (ends_line b) size ∙ e in
    let room = on.room refl in record {
      lines =
          lines_grow line a (b ∷ [])
          ∙ ap (λ l. l ++ lines_from (open_line line a) (b ∷ [])) on.lines
          ∙ ap (λ l. lines_from l (b ∷ [])) on.left
          ∙ one_line (line ++ a) b t test
          ∙ ap (λ l. if t then l ∷ [] else []) whole;
      left =
          left_grow line a (b ∷ []) ∙ ap (λ l. open_line l (b ∷ [])) on.left
          ∙ one_left (line ++ a) b t test ∙ ap (λ l. if t then [] else l) whole;
      some = λ e. let n = length-append a (b ∷ []) in omega (arith, n);
      room =
          λ off. subst (λ n. n < chunk_limit) all
          (below_limit b (length ((line ++ a) ++ b ∷ [])) (test ∙ off));
      most = omega (arith, all, behind, room);
    }
