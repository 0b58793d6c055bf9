use Rattle.std.proofs.Common.{subst}
use Rattle.chk_agent_delivery.proofs.Rows.{drop_at}
use Rattle.chk_agent_delivery.proofs.Lengths.{ForOn, for_begin, for_on, for_other, for_end, named_same, named_other}
use Rattle.chk_agent_delivery.proofs.delivery.are_for.Goals as goal

pub loop-stem-init : goal.loop-stem-init
loop-stem-init c = for_begin c.args.stems.now c.args.lines c.requires

pub loop-stem-preserved : goal.loop-stem-preserved
loop-stem-preserved c =
    let l = c.loop-stem in
    for_on c.args.stems.now c.args.lines l.stem-index c.stem-item.result _ c.next.new.self
    (subst (λ ks. ForOn c.args.stems.now c.args.lines l.stem-index ks) c.in-Some.ensures.item l.invariant)
    (drop_at c.args.stems.now l.stem-index c.stem-item.result c.loop-stem-test.true c.stem-item.is)
    (named_same _ c.stem-item.result c.if-ne.ensures)

pub returns-then-ne-clause-other : goal.returns-then-ne-clause-other
returns-then-ne-clause-other c differs a =
    let l = c.loop-stem in
    for_other c.args.stems.now c.args.lines l.stem-index c.stem-item.result _ c.next.new.self
    (subst (λ ks. ForOn c.args.stems.now c.args.lines l.stem-index ks) c.in-Some.ensures.item l.invariant)
    (drop_at c.args.stems.now l.stem-index c.stem-item.result c.loop-stem-test.true c.stem-item.is)
    (named_other _ c.stem-item.result c.if-ne.ensures) a

pub returns-clause-same : goal.returns-clause-same
returns-clause-same c all =
    for_end c.args.stems.now c.args.lines c.loop-stem.stem-index c.loop-stem.lines c.loop-stem.invariant c.loop-stem-test.false
