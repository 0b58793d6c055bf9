use Rattle.std.proofs.Common.{◌≡◌, ap, ◌∙◌, length, rules, Some}
use Rattle.chk_bytes.proofs.FaultLemmas.{fault_empty, fault_long, fault_utf8, fault_byte, mapped}
use Rattle.chk_bytes.specs.declared.word.WordFault.TheVariants.{NotUtf8}
use Rattle.chk_bytes.proofs.word.word_fault.Goals as goal

pub returns-then-is_empty : goal.returns-then-is_empty
returns-then-is_empty c = fault_empty c.args.text.now (search rules)

pub returns-then-text-gt-LIMIT : goal.returns-then-text-gt-LIMIT
returns-then-text-gt-LIMIT c = fault_long c.args.text.now c.if-text-gt-LIMIT.true

pub returns-in-Ok : goal.returns-in-Ok
returns-in-Ok c =
    let cases = c.in-Ok.ensures.cases in
    let some : length c.args.text.now ≡ 0 → ⊥ = search rules in
    mapped c.not_word_at.result c.map.result _ (search (rules, c.map.ensures.cases))
    c.not_word_at.ensures
    ∙ fault_byte c.args.text.now some c.if-text-gt-LIMIT.false cases.1

pub returns-in-Err : goal.returns-in-Err
returns-in-Err c =
    let at = c.valid_up_to.ensures ∙ c.in-Err.ensures.valid_len in
    let some : length c.args.text.now ≡ 0 → ⊥ = search rules in
    ap (λ n. Some (NotUtf8 n)) at
    ∙ fault_utf8 c.args.text.now some c.if-text-gt-LIMIT.false c.in-Err.ensures.cases.0
