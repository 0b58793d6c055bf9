use Rattle.std.proofs.Common.{sym, ◌∙◌, arith}
use Rattle.chk_agent_delivery.proofs.BelowRows.{named_found, named_on, named_none, named_last}
use Rattle.chk_agent_delivery.proofs.delivery.first_named.Goals as goal

pub returns-in_default : goal.returns-in_default
returns-in_default c =
    sym (c.loop-skip.invariant ∙ named_none c.args.stems.now c.args.acks.now.rows c.loop-skip.skip (sym c.in_default.ensures))

pub returns-then-is_one_of : goal.returns-then-is_one_of
returns-then-is_one_of c =
    sym (c.loop-skip.invariant
    ∙ named_found c.args.stems.now c.args.acks.now.rows c.loop-skip.skip _ _ (sym c.in-Some.ensures) c.if-is_one_of.ensures)

pub loop-skip-preserved : goal.loop-skip-preserved
loop-skip-preserved c =
    c.loop-skip.invariant ∙ named_on c.args.stems.now c.args.acks.now.rows c.loop-skip.skip _ _ (sym c.in-Some.ensures) c.if-is_one_of.ensures

pub returns : goal.returns
returns c =
    let last = c.loop-skip-test.false in
    sym (c.loop-skip.invariant
    ∙ named_last c.args.stems.now c.args.acks.now.rows c.loop-skip.skip (omega (arith, last, c.requires)))
