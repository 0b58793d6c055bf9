use Rattle.std.proofs.Common.{map, take}
use Rattle.chk_book.specs.Views.{end_view}
use Rattle.chk_join.specs.Runs.{ChosenRun}
use Rattle.chk_join.proofs.planned.runs_on.Given as goal

abbrev pub invariant-loop-i : goal.invariant-loop-i
invariant-loop-i l = ChosenRun l.left l.right (map end_view (take l.i l.ends)) (take l.i l.choices)
