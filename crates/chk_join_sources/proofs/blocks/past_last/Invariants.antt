use Rattle.std.proofs.Common.{◌≤◌}
use Rattle.chk_book.specs.Views.{end_view}
use Rattle.chk_join_sources.specs.Blocks.{AllOf}
use Rattle.chk_join_sources.proofs.blocks.past_last.Given as goal

abbrev pub invariant-loop-i : goal.invariant-loop-i
invariant-loop-i l = record {
  all : AllOf l.heads (end_view l.end).stream l.first l.i;
  from : l.first ≤ l.i;
}
