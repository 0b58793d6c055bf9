use Rattle.std.proofs.Common.{◌≡◌, take}
use Rattle.std.specs.Prelude.{sum_by}
use Rattle.chk_archive_plan.specs.Laws.{span_gain}
use Rattle.chk_archive_plan.proofs.spans.taken.Given as goal

abbrev pub invariant-loop-span : goal.invariant-loop-span
invariant-loop-span l = l.sum ≡ sum_by span_gain (take l.span-index l.spans)
