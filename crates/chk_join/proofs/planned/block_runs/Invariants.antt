use Rattle.std.proofs.Common.{◌-◌, ◌≤◌, take, drop}
use Rattle.chk_book.specs.Views.{end_view}
use Rattle.chk_join.specs.Runs.{HeadsRun}
use Rattle.chk_join.proofs.planned.block_runs.Given as goal

abbrev pub invariant-loop-index : goal.invariant-loop-index
invariant-loop-index l = record {
  run : HeadsRun (end_view l.end) l.end.start (take (l.index - l.fn.block.first) (drop l.fn.block.first l.heads)) l.reached;
  low : l.fn.block.first ≤ l.index;
  high : l.index ≤ l.fn.block.end;
}
