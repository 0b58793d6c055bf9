use Rattle.std.proofs.Common.{◌∙◌, sym}
use Rattle.chk_http.proofs.LineLemmas.{no_space, no_stem, no_number, line_found}
use Rattle.chk_http.proofs.line_list.first_line.Goals as goal

pub returns-in_err-stem : goal.returns-in_err-stem
returns-in_err-stem c =
    rw c.from_residual-in_err-stem.ensures
    (no_space c.args.text.now c.in_ok-line.line.now c.in_ok-line.behind.now c.in_ok-line.ensures c.in_err-stem.ensures)

pub returns-in_err-stem-2 : goal.returns-in_err-stem-2
returns-in_err-stem-2 c =
    rw c.from_residual-in_err-stem-2.ensures
    (no_stem c.args.text.now c.in_ok-line.line.now c.in_ok-line.behind.now c.in_ok-stem.stem.now c.in_ok-stem.number.now
    c.in_ok-line.ensures c.in_ok-stem.ensures (sym c.read.ensures ∙ c.in_err-stem-2.was))

pub returns-in_err-number : goal.returns-in_err-number
returns-in_err-number c =
    rw c.from_residual-in_err-number.ensures
    (no_number c.args.text.now c.in_ok-line.line.now c.in_ok-line.behind.now c.in_ok-stem.stem.now c.in_ok-stem.number.now
    c.in_ok-line.ensures c.in_ok-stem.ensures (sym c.take_plain_decimal.ensures ∙ c.in_err-number.was))

pub returns : goal.returns
returns c =
    let found = line_found c.args.text.now c.in_ok-line.line.now c.in_ok-line.behind.now c.in_ok-stem.stem.now c.in_ok-stem.number.now
    c.in_ok-stem-2.stem c.in_ok-number.number c.in_ok-line.ensures c.in_ok-stem.ensures
    (sym c.read.ensures ∙ c.in_ok-stem-2.was) (sym c.take_plain_decimal.ensures ∙ c.in_ok-number.was) in
    record { ack = found.0; is = found.1 }
