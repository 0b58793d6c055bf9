-- A number that is told by its digits.
use Rattle.std.proofs.Common.{◌≡◌, inl, inr, ℕ, zero, suc, ◌+◌, ◌/◌, ◌%◌, ◌<◌, ◌≤◌, ◌^◌, false, List, [], ◌∷◌, length, ap, sym, ◌∙◌, arith, if◌then◌else◌, decimal}
use Rattle.std.specs.Prelude.{nat_lt}
use Rattle.std.specs.Fmt.{digits, digits_onto, digit_glyph}
use Rattle.std.specs.Str.Parse.{digits_value}
use Rattle.std.proofs.lemmas.Bool.{ne_eqb, ltb-true, ltb-false, cases_Bool}
use Rattle.std.proofs.lemmas.Fmt.{decimal_is_IsNumeral_wide, length-decimal-le}
use Rattle.chk_archive.proofs.Uncounted.{next as one_more, long as as_many, wide}

some_of_ten : (j : ℕ) → 1 ≤ 10 ^ j
some_of_ten zero = omega arith
some_of_ten (suc j) = let low = some_of_ten j in omega (arith, low)
