use Rattle.std.proofs.Common.{◌≡◌, List, ℕ, ◌++◌, length, rules, Some, subst}
use Rattle.std.proofs.lemmas.Bool.Decides.{Decides-eqb}
use Rattle.std.proofs.lemmas.Slice.Eq.{strip_prefix_is}
use Rattle.chk_bytes.specs.Numbers.{be16}
use Rattle.chk_record_index.specs.Passing.{Passes}
use Rattle.chk_record_index.proofs.PassedTails.{both_passed}
use Rattle.chk_record_index.proofs.tails.behind_text.Goals as goal

pub returns : goal.returns
returns c =
    let bytes = c.args.bytes.now in
    let text = c.args.text.now in
    let first = c.in_ok-strip_prefix.field-0 in
    let r = c.strip_prefix-2.result in
    let size : c.to_be_bytes-size.result ≡ be16 (length text) = search rules in
    subst (λ (s : List ℕ). Passes (s ++ text) bytes r) size
    (subst (λ (t : List ℕ). Passes (c.to_be_bytes-size.result ++ t) bytes r) c.as_bytes.ensures.value
    (both_passed c.to_be_bytes-size.result c.as_bytes.result.now bytes first.now r
    (strip_prefix_is Decides-eqb bytes c.to_be_bytes-size.result (Some first) c.in_ok-strip_prefix.ensures.cases)
    (strip_prefix_is Decides-eqb first.now c.as_bytes.result.now r c.strip_prefix-2.ensures.cases)))
