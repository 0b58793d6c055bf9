use Rattle.std.proofs.Common.{◌∙◌, refl, sym}
use Rattle.chk_ctl_audit.proofs.Steps.{line_found, line_next, line_none}
use Rattle.chk_ctl_audit.proofs.agents.line_of.Goals as goal

pub loop-line-init : goal.loop-line-init
loop-line-init c = refl

pub loop-line-preserved : goal.loop-line-preserved
loop-line-preserved c =
    let l = c.loop-line in
    l.invariant
    ∙ line_next c.args.lines.now c.args.end.now l.line-index c.line-item.result
    c.loop-line-test.true c.line-item.is (sym c.is_line_of.ensures ∙ c.if-is_line_of.false)

pub returns-then-is_line_of : goal.returns-then-is_line_of
returns-then-is_line_of c =
    let l = c.loop-line in
    l.invariant
    ∙ line_found c.args.lines.now c.args.end.now l.line-index c.line-item.result
    c.loop-line-test.true c.line-item.is (sym c.is_line_of.ensures ∙ c.if-is_line_of.true)

pub returns : goal.returns
returns c =
    let l = c.loop-line in
    l.invariant ∙ line_none c.args.lines.now c.args.end.now l.line-index c.loop-line-test.false
