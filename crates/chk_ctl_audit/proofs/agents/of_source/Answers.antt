use Rattle.chk_ctl_audit.proofs.Steps.{one_more}
use Rattle.chk_ctl_audit.proofs.agents.of_source.Goals as goal

pub loop-index-preserved : goal.loop-index-preserved
loop-index-preserved c =
    one_more c.args.source.now c.args.ends.now c.loop-index.index c.index-ends-index.result
    c.loop-index-test.true c.index-ends-index.is (c.is_from.ensures c.if-not-is_from.false)
    c.loop-index.invariant
