use Rattle.std.proofs.Common.{◌∙◌, sym, subst, List, ℕ}
use Rattle.chk_bytes.specs.Words.{SplitsAt}
use Rattle.chk_bytes.proofs.StemLemmas.{no_dot, one_dot, no_born, no_number, no_text, three_parts}
use Rattle.chk_bytes.proofs.stem.Stem.read.Goals as goal

pub returns-in_err-name : goal.returns-in_err-name
returns-in_err-name c = c.from_residual.ensures ∙ no_dot c.args.text.now c.in_err-name.ensures

pub returns-in_err-born : goal.returns-in_err-born
returns-in_err-born c =
    c.from_residual-in_err-born.ensures
    ∙ one_dot c.args.text.now c.in_ok-name.name.now c.in_ok-name.numbers.now c.in_ok-name.ensures
    c.in_err-born.ensures

pub returns-in_err-born-2 : goal.returns-in_err-born-2
returns-in_err-born-2 c =
    c.from_residual-in_err-born-2.ensures
    ∙ no_born c.args.text.now c.in_ok-name.name.now c.in_ok-name.numbers.now c.in_ok-born.born.now
    c.in_ok-born.number.now
    c.in_ok-name.ensures c.in_ok-born.ensures
    (sym c.take_plain_decimal.ensures ∙ c.in_err-born-2.was)

pub returns-in_err-number : goal.returns-in_err-number
returns-in_err-number c =
    c.from_residual-in_err-number.ensures
    ∙ no_number c.args.text.now c.in_ok-name.name.now c.in_ok-name.numbers.now
    c.in_ok-born.born.now c.in_ok-born.number.now
    c.in_ok-name.ensures c.in_ok-born.ensures
    (sym c.take_plain_decimal-2.ensures ∙ c.in_err-number.was)

pub returns-in-Err : goal.returns-in-Err
returns-in-Err c =
    no_text c.args.text.now c.in_ok-name.name.now c.in_ok-name.numbers.now c.in_ok-name.ensures
    c.in-Err.ensures.cases.0

pub returns-in-Ok : goal.returns-in-Ok
returns-in-Ok c =
    let P : List ℕ → Type 0 = λ name. SplitsAt 46 c.args.text.now name c.in_ok-name.numbers.now in
    let split = subst P (sym c.in-Ok.ensures.cases.0) c.in_ok-name.ensures in
    three_parts c.args.text.now c.in-Ok.name.now c.in_ok-name.numbers.now c.in_ok-born.born.now
    c.in_ok-born.number.now
    c.in_ok-born-2.born c.in_ok-number.number c.new.result split c.in_ok-born.ensures
    (sym c.take_plain_decimal.ensures ∙ c.in_ok-born-2.was)
    (sym c.take_plain_decimal-2.ensures ∙ c.in_ok-number.was) c.new.ensures
