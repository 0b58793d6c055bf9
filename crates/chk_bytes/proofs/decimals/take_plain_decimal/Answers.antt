use Rattle.std.proofs.Common.{◌≡◌, ◌≤◌, length, get_or, ◌∙◌, inl, inr}
use Rattle.std.proofs.lemmas.Bool.{cases_lt, false≢true}
use Rattle.chk_bytes.proofs.DecimalLemmas.{zero_leads, plain_where_no_zero_leads}
use Rattle.chk_bytes.proofs.decimals.take_plain_decimal.Goals as goal

pub returns-then-has_leading_zero : goal.returns-then-has_leading_zero
returns-then-has_leading_zero c =
    let leads = c.has_leading_zero.ensures.0 c.if-has_leading_zero.true in
    zero_leads c.args.bytes.now leads.0 leads.1

pub returns-else-has_leading_zero : goal.returns-else-has_leading_zero
returns-else-has_leading_zero c =
    let bytes = c.args.bytes.now in
    let iff = c.if-has_leading_zero.ensures in
    let short : get_or bytes 0 0 ≡ 48 → length bytes ≤ 1 = λ first_zero.
    elim (cases_lt 1 (length bytes)) [
      | inl long ↦ absurd (false≢true (iff.1 (long, first_zero)))
      | inr short ↦ short
    ] in
    c.take_decimal.ensures ∙ plain_where_no_zero_leads bytes short
