use Rattle.std.proofs.Common.{arith, sym, ◌∙◌}
use Rattle.std.proofs.lemmas.Bool.{eqb-true}
use Rattle.chk_book.specs.Views.{end_view}
use Rattle.chk_record_index.specs.Order.{lent_head}
use Rattle.chk_join.proofs.RunsOn.{none_run, block_more, block_all}
use Rattle.chk_join.proofs.planned.block_runs.Goals as goal

pub loop-index-init : goal.loop-index-init
loop-index-init c = record {
  run = none_run (end_view c.args.end.now) c.args.heads.now c.args.block.first;
  low = omega arith;
  high = c.requires.0;
}

pub loop-index-preserved : goal.loop-index-preserved
loop-index-preserved c =
    let i = c.loop-index.invariant in
    let below = c.loop-index-test.true in
    let within = c.requires.1 in
    let low = i.low in
    record {
      run =
          block_more (end_view c.args.end.now) c.args.heads.now c.args.block.first c.loop-index.index c.loop-index.reached
          (lent_head c.get-head.result) i.low (omega (arith, below, within)) c.get-head.ensures.head
          (sym c.is_of.ensures ∙ c.if-not-is_of.false) c.if-head-end.false c.if-head-reached.false i.run;
      low = omega (arith, low);
      high = omega (arith, below);
    }

pub returns : goal.returns
returns c is =
    let i = c.loop-index.invariant in
    block_all (end_view c.args.end.now) c.args.heads.now c.args.block.first c.loop-index.index c.args.block.end
    c.loop-index.reached c.loop-index-test.false i.high (eqb-true c.loop-index.reached c.args.end.now.end is) i.run
