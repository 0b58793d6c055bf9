use Rattle.std.proofs.Common.{refl}
use Rattle.std.proofs.lemmas.Result.{err_from_is_err_and}
use Rattle.chk_agent_delivery.proofs.Lengths.{no_lines, other_stems, same_lines}
use Rattle.chk_agent_delivery.proofs.delivery.lengths_for.Goals as goal

pub returns-in_err-lines-clause-refused : goal.returns-in_err-lines-clause-refused
returns-in_err-lines-clause-refused c =
    let p = err_from_is_err_and c.from_residual.result c.from_residual.ensures.1 in
    let r = c.in_err-lines.ensures.refused in
    rw (p.1, p.2) (no_lines c.args.bytes.now c.args.stems.now r.0, r.1)

pub returns-then-not-are_for-clause-refused : goal.returns-then-not-are_for-clause-refused
returns-then-not-are_for-clause-refused c =
    other_stems c.args.bytes.now c.args.stems.now c.in_ok-lines.lines c.in_ok-lines.ensures.good.0 (c.if-not-are_for.ensures.other refl)

pub returns-in-Ok-clause-good : goal.returns-in-Ok-clause-good
returns-in-Ok-clause-good c =
    let first = c.in_ok-lines.ensures.good.0 in
    let second = c.in-Ok.ensures.good.0 in
    (second, same_lines c.args.bytes.now c.args.stems.now c.in_ok-lines.lines c.in-Ok.again first second (c.if-not-are_for.ensures.same refl))

pub returns-in-Err-clause-refused : goal.returns-in-Err-clause-refused
returns-in-Err-clause-refused c =
    let r = c.in-Err.ensures.refused in (no_lines c.args.bytes.now c.args.stems.now r.0, r.1)
