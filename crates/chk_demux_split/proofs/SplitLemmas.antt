-- A split goes on from the end of each of its records as a split of the rest, and grows at its end.
use Rattle.std.proofs.Common.{◌≡◌, ℕ, zero, suc, ◌+◌, ◌-◌, ◌≤◌, ◌<◌, Bool, true, false, ◌||◌, List, [], ◌∷◌, ◌++◌, length, take, drop, ap, sym, subst, ◌∙◌, refl, arith, append_assoc, append-nil, length-append}
use Rattle.std.specs.Prelude.{nat_lt, nat_le, ◌==◌}
use Rattle.chk_bytes.specs.Words.{joined}
use Rattle.chk_chunk.specs.Keys.{chunk_limit, record_limit}
use Rattle.chk_world.specs.Splits.{lines_from, has_stamp, records_behind, stamped_records}
use Rattle.std.proofs.lemmas.List.{drop-drop}
use Rattle.chk_demux_split.specs.LineFronts.{open_line}
use Rattle.chk_demux_split.specs.Splitting.{pieces_of}
use Rattle.chk_demux_split.proofs.LineLemmas.{lines_grow}

-- a fact by a test
at_test : {X : Type 0} (P : X → Type 0) (b : Bool) (x y : X) → (b ≡ true → P x)
    → (b ≡ false → P y) → P (elim b [ true ↦ x | false ↦ y ])
at_test P true x y f g = f refl
at_test P false x y f g = g refl

-- the first line, and the lines of the rest
record FirstLine (line bytes r : List ℕ) (rest : List (List ℕ)) : Type 0 where
  longer : length line < length r
  rest_is : rest ≡ lines_from [] (drop (length r - length line) bytes)

head_of : List (List ℕ) → List ℕ → List ℕ
head_of [] d = d
head_of (x ∷ xs) d = x

first_line : (line bytes r : List ℕ) (rest : List (List ℕ)) → lines_from line bytes ≡ r ∷ rest → FirstLine line bytes r rest
first_line line [] r rest e = absurd (cc)
first_line line (b ∷ bytes) r rest e =
    at_test (λ l. l ≡ r ∷ rest → FirstLine line (b ∷ bytes) r rest) (b == 10 || nat_le chunk_limit (length (line ++ b ∷ [])))
    ((line ++ b ∷ []) ∷ lines_from [] bytes) (lines_from (line ++ b ∷ []) bytes)
    (λ t e.
    let head : line ++ b ∷ [] ≡ r = cc in
    let tail : lines_from [] bytes ≡ rest = cc in
    let size = length-append line (b ∷ []) in
    let len : length (line ++ b ∷ []) ≡ length r = ap length head in
    record {
      longer = omega (arith, size, len);
      rest_is = sym tail ∙ ap (λ n. lines_from [] (drop n (b ∷ bytes))) (let z : 1 ≡ length r - length line = omega (arith, size, len) in z);
    })
    (λ t e.
    let f = first_line (line ++ b ∷ []) bytes r rest e in
    let size = length-append line (b ∷ []) in
    let more = f.longer in
    record {
      longer = omega (arith, size, more);
      rest_is = f.rest_is ∙ ap (λ n. lines_from [] (drop n (b ∷ bytes))) (let z : suc (length r - length (line ++ b ∷ [])) ≡ length r - length line = omega (arith, size, more) in z);
    }) e

whole_line : (bytes r : List ℕ) (rest : List (List ℕ)) → FirstLine [] bytes r rest → rest ≡ lines_from [] (drop (length r) bytes)
whole_line bytes r rest f = f.rest_is ∙ ap (λ n. lines_from [] (drop n bytes)) (let z : length r - 0 ≡ length r = omega arith in z)

-- so the lines behind the first n ones are those of the rest of the bytes
lines_onward : (n : ℕ) (bytes : List ℕ) → n ≤ length (lines_from [] bytes) → drop n (lines_from [] bytes) ≡ lines_from [] (drop (length (joined (take n (lines_from [] bytes)))) bytes)
lines_onward zero bytes le = refl
lines_onward (suc n) bytes le = go (lines_from [] bytes) refl le (λ b. lines_onward n b)
  where
    go : (ls : List (List ℕ)) → lines_from [] bytes ≡ ls → suc n ≤ length ls
        → ((b : List ℕ) → n ≤ length (lines_from [] b) → drop n (lines_from [] b) ≡ lines_from [] (drop (length (joined (take n (lines_from [] b)))) b))
        → drop (suc n) ls ≡ lines_from [] (drop (length (joined (take (suc n) ls))) bytes)
    go [] e le next = absurd (let z : ⊥ = omega (arith, le) in z)
    go (r ∷ rest) e le next =
        let f = first_line [] bytes r rest e in
        let is : rest ≡ lines_from [] (drop (length r) bytes) = whole_line bytes r rest f in
        let later = next (drop (length r) bytes) (subst (λ l. n ≤ length l) is (omega (arith, le))) in
        let size = length-append r (joined (take n rest)) in
        ap (drop n) is ∙ (later ∙ (ap (λ l. lines_from [] (drop (length (joined (take n l))) (drop (length r) bytes))) (sym is)
        ∙ ap (lines_from []) (drop-drop (length (joined (take n rest))) (length r) bytes ∙ ap (λ k. drop k bytes) (let z : length r + length (joined (take n rest)) ≡ length (r ++ joined (take n rest)) = omega (arith, size) in z))))

-- the first record of lines, and the records of the other lines
record FirstRecord (begun : List ℕ) (lines : List (List ℕ)) (r : List ℕ) (rest : List (List ℕ)) : Type 0 where
  count : ℕ
  within : count ≤ length lines
  is : r ≡ begun ++ joined (take count lines)
  rest_is : rest ≡ stamped_records (drop count lines)

first_record : (begun : List ℕ) (lines : List (List ℕ)) (r : List ℕ) (rest : List (List ℕ)) → records_behind begun lines ≡ r ∷ rest → FirstRecord begun lines r rest
first_record begun [] r rest e = absurd (cc)
first_record begun (line ∷ lines) r rest e =
    at_test (λ l. l ≡ r ∷ rest → FirstRecord begun (line ∷ lines) r rest) (has_stamp line || nat_lt record_limit (length begun + length line))
    (begun ∷ records_behind line lines) (records_behind (begun ++ line) lines)
    (λ t e.
    let head : begun ≡ r = cc in
    let tail : records_behind line lines ≡ rest = cc in
    record { count = 0; within = omega arith; is = sym head ∙ sym (append-nil begun); rest_is = sym tail })
    (λ t e.
    let f = first_record (begun ++ line) lines r rest e in
    let within = f.within in
    record {
      count = suc f.count;
      within = omega (arith, within);
      is = f.is ∙ append_assoc begun line (joined (take f.count lines));
      rest_is = f.rest_is;
    }) e

pub first_then : (stamped : Bool) (bytes r : List ℕ) (rest : List (List ℕ)) → pieces_of stamped bytes ≡ r ∷ rest → rest ≡ pieces_of stamped (drop (length r) bytes)
first_then false bytes r rest e = whole_line bytes r rest (first_line [] bytes r rest e)
first_then true bytes r rest e = go (lines_from [] bytes) refl e
  where
    go : (ls : List (List ℕ)) → lines_from [] bytes ≡ ls → stamped_records ls ≡ r ∷ rest → rest ≡ stamped_records (lines_from [] (drop (length r) bytes))
    go [] le e = absurd (cc)
    go (l ∷ ls) le e =
        let f = first_record l ls r rest e in
        let within = f.within in
        let whole : length (joined (take (suc f.count) (lines_from [] bytes))) ≡ length r =
        ap (λ k. length (joined (take (suc f.count) k))) le ∙ ap length (sym f.is) in
        let onward = lines_onward (suc f.count) bytes (subst (λ k. suc f.count ≤ length k) (sym le) (omega (arith, within))) in
        f.rest_is ∙ ap stamped_records (ap (drop (suc f.count)) (sym le) ∙ (onward ∙ ap (λ n. lines_from [] (drop n bytes)) whole))

-- the records behind the first ones are those of the rest of the bytes: so a run may begin where the last one ended
pub goes_on_behind : (stamped : Bool) (bytes : List ℕ) (rs more : List (List ℕ)) → pieces_of stamped bytes ≡ rs ++ more
    → more ≡ pieces_of stamped (drop (length (joined rs)) bytes)
goes_on_behind stamped bytes [] more e = sym e
goes_on_behind stamped bytes (r ∷ rs) more e =
    let one = first_then stamped bytes r (rs ++ more) e in
    let size = length-append r (joined rs) in
    goes_on_behind stamped (drop (length r) bytes) rs more (sym one)
    ∙ ap (pieces_of stamped) (drop-drop (length (joined rs)) (length r) bytes ∙ ap (λ n. drop n bytes) (let z : length r + length (joined rs) ≡ length (r ++ joined rs) = omega (arith, size) in z))

open_record : List ℕ → List (List ℕ) → List ℕ
open_record begun [] = begun
open_record begun (l ∷ ls) = elim (has_stamp l || nat_lt record_limit (length begun + length l)) [ true ↦ open_record l ls | false ↦ open_record (begun ++ l) ls ]

records_grow : (begun : List ℕ) (ls ms : List (List ℕ)) → records_behind begun (ls ++ ms) ≡ records_behind begun ls ++ records_behind (open_record begun ls) ms
unfolding open_record
records_grow begun [] ms = refl
records_grow begun (l ∷ ls) ms =
    go (has_stamp l || nat_lt record_limit (length begun + length l)) (records_grow l ls ms) (records_grow (begun ++ l) ls ms)
  where
    go : (t : Bool) → records_behind l (ls ++ ms) ≡ records_behind l ls ++ records_behind (open_record l ls) ms
        → records_behind (begun ++ l) (ls ++ ms) ≡ records_behind (begun ++ l) ls ++ records_behind (open_record (begun ++ l) ls) ms
        → elim t as (λ t. List (List ℕ)) [ true ↦ begun ∷ records_behind l (ls ++ ms) | false ↦ records_behind (begun ++ l) (ls ++ ms) ]
        ≡ (elim t as (λ t. List (List ℕ)) [ true ↦ begun ∷ records_behind l ls | false ↦ records_behind (begun ++ l) ls ])
        ++ records_behind (elim t as (λ t. List ℕ) [ true ↦ open_record l ls | false ↦ open_record (begun ++ l) ls ]) ms
    go true on off = ap (λ r. begun ∷ r) on
    go false on off = off

-- the records of the first bytes are the first records
pub pieces_grow : (stamped : Bool) (a b : List ℕ) → (more : List (List ℕ)) × (pieces_of stamped (a ++ b) ≡ pieces_of stamped a ++ more)
pieces_grow false a b = (lines_from (open_line [] a) b, lines_grow [] a b)
pieces_grow true a b = go (lines_from [] a) (lines_from (open_line [] a) b) (lines_grow [] a b)
  where
    go : (ls ms : List (List ℕ)) → lines_from [] (a ++ b) ≡ ls ++ ms → (more : List (List ℕ)) × (stamped_records (lines_from [] (a ++ b)) ≡ stamped_records ls ++ more)
    go [] ms e = (stamped_records ms, ap stamped_records e)
    go (l ∷ ls) ms e = (records_behind (open_record l ls) ms, ap stamped_records e ∙ records_grow l ls ms)
