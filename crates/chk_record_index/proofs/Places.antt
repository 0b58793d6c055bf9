-- Places of rows stand to each other as the numbers of their streams and their first offsets do.
use Rattle.std.proofs.Common.{◌≡◌, ℕ, ◌<◌, ◌+◌, ◌*◌, ◌^◌, Bool, ◌&&◌, ◌||◌, arith}
use Rattle.std.specs.Prelude.{nat_lt, nat_eq}
use Rattle.std.proofs.lemmas.Bool.Decides.{nat_tests}

-- of two places that differ
pub apart : (r s b c : ℕ) (rest : Bool) → b < 2 ^ 64 → c < 2 ^ 64 → (r * 2 ^ 64 + b ≡ s * 2 ^ 64 + c → ⊥)
    → nat_lt (r * 2 ^ 64 + b) (s * 2 ^ 64 + c) ≡ (nat_lt r s || (nat_eq r s && (nat_lt b c || (nat_eq b c && rest))))
apart r s b c rest low high differ = grind (arith, nat_tests, low, high, differ)

-- of two places that are the same
pub same : (r s b c : ℕ) (rest : Bool) → b < 2 ^ 64 → c < 2 ^ 64 → r * 2 ^ 64 + b ≡ s * 2 ^ 64 + c
    → (nat_lt r s || (nat_eq r s && (nat_lt b c || (nat_eq b c && rest)))) ≡ rest
same r s b c rest low high equal = grind (arith, nat_tests, low, high, equal)
