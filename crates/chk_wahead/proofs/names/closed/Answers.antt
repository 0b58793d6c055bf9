use Rattle.std.proofs.Common.{◌≡◌, ◌∙◌, ap, ℕ, ◌-◌, [], ◌∷◌, ◌++◌, length, replicate, codes, append-nil, arith}
use Rattle.std.specs.Prelude.{decimal}
use Rattle.std.specs.Fmt.{styled_decimal, padded_integral, char_count, format_spec}
use Rattle.chk_wahead.specs.Names.{digits}
use Rattle.chk_wahead.proofs.names.closed.Goals as goal

same : (m : ℕ) → m - 0 - 0 ≡ m
same m = omega arith

-- a number with leading zeros, of 19 digits
padded : (n : ℕ) → styled_decimal (format_spec 32 0 4 19 18446744073709551615) n ≡ digits n
unfolding padded_integral char_count
padded n =
    ap (λ k. replicate k 48 ++ (decimal n ++ [])) (same (19 - length (decimal n)))
    ∙ ap (λ text. replicate (19 - length (decimal n)) 48 ++ text) (append-nil (decimal n))

pub returns : goal.returns
returns c =
    let text = rw c.laid_out.ensures at c.in_ok-format.ensures.ok in
    text ∙ ap (λ given. codes "wahead/" ++ (c.args.name.now ++ 45 ∷ given)) (padded c.args.number)
