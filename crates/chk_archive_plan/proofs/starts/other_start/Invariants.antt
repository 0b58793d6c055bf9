use Rattle.std.proofs.Common.{◌≡◌, ◌<◌, ◌-◌, ℕ}
use Rattle.chk_archive_plan.specs.Passes.{head_in}
use Rattle.chk_archive_plan.specs.Starts.{stream_start, HasStart}
use Rattle.chk_archive_plan.proofs.starts.other_start.Given as goal

abbrev pub invariant-loop-index : goal.invariant-loop-index
invariant-loop-index l = record {
  before : 0 < l.index → l.start ≡ stream_start l.known l.heads (head_in l.heads (l.index - 1)).key.stream;
  so_far : (k : ℕ) → k < l.index → HasStart l.known l.heads k;
}
