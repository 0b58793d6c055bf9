use Rattle.std.proofs.Common.{false, arith}
use Rattle.chk_join_sources.specs.declared.plan.Choice.{Choice}
use Rattle.chk_join.proofs.RunsOn.{chosen_more}
use Rattle.chk_join.proofs.planned.runs_on.Goals as goal

pub loop-i-preserved : goal.loop-i-preserved
loop-i-preserved c =
    let low = c.loop-i-test.true in
    let same = c.if-choices-ends.false in
    chosen_more c.args.left.now c.args.right.now c.args.ends.now c.args.choices.now c.loop-i.i c.index-ends-i.result
    c.index-ends-i.result none low (omega (arith, low, same)) c.index-ends-i.is (c.choice_runs.ensures c.if-not-choice_runs.false)
    c.loop-i.invariant
  where
    none : Choice
    none = record { from_right = false; block = record { first = 0; end = 0 } }
