use Rattle.std.proofs.Common.{ℕ, ◌≤◌, ◌<◌, IsTrue}
use Rattle.chk_record_index.specs.Order.{of_one_stream}
use Rattle.chk_archive_plan.specs.Passes.{head_in}
use Rattle.chk_archive_plan.proofs.spans.span_end.Given as goal

abbrev pub invariant-loop-i : goal.invariant-loop-i
invariant-loop-i l =
    (k : ℕ) → l.first ≤ k → k < l.i → IsTrue
    (of_one_stream (head_in l.heads l.first) (head_in l.heads k))
