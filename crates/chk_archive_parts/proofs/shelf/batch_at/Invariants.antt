use Rattle.std.proofs.Common.{◌≡◌, ◌+◌}
use Rattle.chk_archive_parts.proofs.shelf.batch_at.Given as goal

abbrev pub invariant-loop-cut : goal.invariant-loop-cut
invariant-loop-cut l = l.end ≡ l.place + 1 + l.cut-index
