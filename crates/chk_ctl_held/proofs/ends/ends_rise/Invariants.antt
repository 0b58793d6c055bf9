use Rattle.std.proofs.Common.{◌≡◌, false, ℕ, ◌+◌, ◌<◌}
use Rattle.std.specs.Prelude.{slice_index_or}
use Rattle.chk_book.specs.declared.lists.End.{End}
use Rattle.chk_ctl_held.specs.Order.{end_before}
use Rattle.chk_ctl_held.proofs.ends.ends_rise.Given as goal

abbrev pub invariant-loop-i : goal.invariant-loop-i
invariant-loop-i l =
    (k : ℕ) (d : End) → k + 1 < l.i
    → end_before (slice_index_or l.ends (k + 1) d) (slice_index_or l.ends k d) ≡ false
