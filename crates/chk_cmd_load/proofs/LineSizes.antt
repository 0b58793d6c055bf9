-- How long lines and pieces are, and where they end.
use Rattle.std.proofs.Common.{◌≡◌, ℕ, zero, suc, ◌<◌, ◌≤◌, ◌+◌, ◌-◌, ◌*◌, ◌%◌, ◌^◌, ◌==◌, Bool, true, false, if◌then◌else◌, List, [], ◌∷◌, ◌++◌, length, length-append, refl, subst, arith}
use Rattle.std.specs.Prelude.{IsTrue, decimal}
use Rattle.std.proofs.lemmas.Fmt.{length-decimal-le}
use Rattle.chk_bytes.specs.Words.{BeginsWith, joined_at}
use Rattle.chk_cmd_line.specs.Loads.{load_value, load_text}
use Rattle.chk_cmd_load.specs.Lines.{lines_to, all_lines, ends_lines, bytes_of}
use Rattle.chk_cmd_load.proofs.Joined.{whole_front, front_then}

value_low : (lines line : ℕ) → load_value lines line < 2 ^ 31
value_low lines zero = omega arith
value_low lines (suc line) = omega arith

-- a line of a load is short
pub line_short : (lines line : ℕ) → line < lines → lines ≤ 200000 → length (load_text lines line) ≤ 31
line_short lines line low few =
    let number : length (decimal line) ≤ 6 =
    length-decimal-le 6 line (omega arith) (omega (arith, low, few)) (omega (arith, low, few)) in
    let v : load_value lines line < 2 ^ 31 = value_low lines line in
    let value : length (decimal (load_value lines line)) ≤ 10 =
    length-decimal-le 10 (load_value lines line) (omega arith) (omega (arith, v)) (omega (arith, v)) in
    omega (arith, number, value, length-append {A = ℕ})

-- the line, or nothing
abbrev pub part : ℕ → ℕ → Bool → List ℕ
part lines line own = if own then load_text lines line else []

pub part_short : (lines line : ℕ) (own : Bool) → line < lines → lines ≤ 200000 → length (part lines line own) ≤ 31
part_short lines line true low few = line_short lines line low few
part_short lines line false low few = omega arith

pub lines_short : (lines log n : ℕ) → n ≤ lines → lines ≤ 200000 → length (lines_to lines log n) ≤ 31 * n
lines_short lines log zero low few = omega arith
lines_short lines log (suc n) low few =
    let rest = lines_short lines log n (omega (arith, low)) few in
    let one = part_short lines n (n % 3 == log) (omega (arith, low)) few in
    omega (arith, rest, one, length-append (lines_to lines log n) (part lines n (n % 3 == log)))

-- behind text that ends after a line stands more of it
pub ends_then : (a b : List ℕ) → IsTrue (ends_lines a) → IsTrue (ends_lines b) → IsTrue (ends_lines (a ++ b))
ends_then [] b x y = y
ends_then (c ∷ []) [] x y = x
ends_then (c ∷ []) (d ∷ b) x y = y
ends_then (c ∷ e ∷ a) b x y = ends_then (e ∷ a) b x y

line_ends : (text : List ℕ) → IsTrue (ends_lines (text ++ 10 ∷ []))
line_ends [] = refl
line_ends (c ∷ []) = refl
line_ends (c ∷ d ∷ text) = line_ends (d ∷ text)

-- so does a line
pub part_ends : (lines line : ℕ) (own : Bool) → IsTrue (ends_lines (part lines line own))
part_ends lines line true = line_ends (joined_at 32 (decimal line ∷ decimal (load_value lines line) ∷ []))
part_ends lines line false = refl

-- more lines
lines_grow : (lines log n more : ℕ) → BeginsWith (lines_to lines log (n + more)) (lines_to lines log n)
lines_grow lines log n zero =
    subst (λ m. BeginsWith (lines_to lines log m) (lines_to lines log n)) (let z : n ≡ n + 0 = omega arith in z)
    (whole_front (lines_to lines log n))
lines_grow lines log n (suc more) =
    subst (λ m. BeginsWith (lines_to lines log m) (lines_to lines log n))
    (let z : suc (n + more) ≡ n + suc more = omega arith in z)
    (front_then (lines_to lines log (suc (n + more))) (lines_to lines log (n + more)) (lines_to lines log n)
    (part lines (n + more) ((n + more) % 3 == log), refl) (lines_grow lines log n more))

pub lines_front : (lines log n : ℕ) → n ≤ lines → BeginsWith (all_lines lines log) (lines_to lines log n)
lines_front lines log n low =
    subst (λ m. BeginsWith (lines_to lines log m) (lines_to lines log n))
    (let z : n + (lines - n) ≡ lines = omega (arith, low) in z) (lines_grow lines log n (lines - n))

pub bytes_short : (lines log : ℕ) → lines ≤ 200000 → bytes_of lines log ≤ log * 6200000
bytes_short lines zero few = omega arith
bytes_short lines (suc log) few =
    let rest = bytes_short lines log few in
    let one = lines_short lines log lines (let z : lines ≤ lines = omega arith in z) few in
    omega (arith, rest, one, few)
