use Rattle.std.proofs.Common.{length, ◌-◌, ◌≤◌}
use Rattle.chk_archive_plan.specs.Passes.{AreSpans}
use Rattle.chk_archive_plan.proofs.spans.plan.Given as goal

abbrev pub invariant-loop-first : goal.invariant-loop-first
invariant-loop-first l = AreSpans l.known l.heads 0 l.spans.items l.first ×
    (l.first ≤ length l.heads)

abbrev pub decreases-loop-first : goal.decreases-loop-first
decreases-loop-first l = length l.heads - l.first
