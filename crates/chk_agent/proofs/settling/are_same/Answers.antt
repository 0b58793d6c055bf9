use Rattle.std.proofs.Common.{Some, sym, ◌∙◌, ap, arith}
use Rattle.std.proofs.lemmas.Option.{slice_get-get_or}
use Rattle.chk_agent.proofs.SettlingLines.{differ_at, same_next}
use Rattle.chk_agent.proofs.settling.are_same.Goals as goal

pub returns-then-not-is_same-clause-other : goal.returns-then-not-is_same-clause-other
returns-then-not-is_same-clause-other c false same =
    let n = c.loop-place.place in
    let many = c.if-lines-others.false in
    let below = c.loop-place-test.true in
    differ_at c.args.lines.now c.args.others.now n c.index-lines-place.result c.index-others-place.result
    (slice_get-get_or c.args.lines.now n c.index-lines-place.result below ∙ ap Some (sym c.index-lines-place.is))
    (slice_get-get_or c.args.others.now n c.index-others-place.result (omega (arith, many, below)) ∙ ap Some (sym c.index-others-place.is))
    (sym c.is_same.ensures ∙ c.if-not-is_same.true) same

pub loop-place-preserved : goal.loop-place-preserved
loop-place-preserved c =
    let n = c.loop-place.place in
    let many = c.if-lines-others.false in
    let below = c.loop-place-test.true in
    same_next c.args.lines.now c.args.others.now n c.index-lines-place.result c.index-others-place.result
    (slice_get-get_or c.args.lines.now n c.index-lines-place.result below ∙ ap Some (sym c.index-lines-place.is))
    (slice_get-get_or c.args.others.now n c.index-others-place.result (omega (arith, many, below)) ∙ ap Some (sym c.index-others-place.is))
    (sym c.is_same.ensures ∙ c.if-not-is_same.false) c.loop-place.invariant
