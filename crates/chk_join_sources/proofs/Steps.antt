-- A comparison goes on by the bytes that two values have in common.
use Rattle.std.proofs.Common.{◌≡◌, ℕ, ◌+◌, ◌≤◌, List, ◌++◌, length, take, drop, Some, None, ap, ap₂, sym, ◌∙◌, arith, length-append}
use Rattle.std.proofs.lemmas.List.{take-append-le}
use Rattle.chk_join_sources.specs.Differences.{first_difference, further}
use Rattle.chk_join_sources.proofs.Differences.{same_front, differ_front}

module _ (xs ys more rest : List ℕ) (n : ℕ) (low : n ≤ length xs) (high : n ≤ length ys) where
  fronts : first_difference (take n (xs ++ more)) (take n (ys ++ rest)) ≡ first_difference (take n xs) (take n ys)
  fronts = ap₂ first_difference (take-append-le n xs more low) (take-append-le n ys rest high)

  pub differs : (same place k : ℕ) → first_difference (take n xs) (take n ys) ≡ Some place → k ≡ same + place
      → further same (first_difference (xs ++ more) (ys ++ rest)) ≡ Some k
  differs same place k is sum =
      ap (further same) (differ_front n (xs ++ more) (ys ++ rest) place (fronts ∙ is)) ∙ ap Some (sym sum)

  pub goes_on : first_difference (take n xs) (take n ys) ≡ None
      → first_difference (xs ++ more) (ys ++ rest)
      ≡ further n (first_difference (drop n (xs ++ more)) (drop n (ys ++ rest)))
  goes_on none =
      let a = length-append xs more in
      let b = length-append ys rest in
      same_front n (xs ++ more) (ys ++ rest) (omega (arith, low, a)) (omega (arith, high, b)) (fronts ∙ none)
