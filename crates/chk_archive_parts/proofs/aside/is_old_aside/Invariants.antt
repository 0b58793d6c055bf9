use Rattle.std.proofs.Common.{◌≡◌, drop}
use Rattle.chk_archive_parts.specs.Kept.{rise_from}
use Rattle.chk_archive_parts.proofs.aside.is_old_aside.Given as goal

abbrev pub invariant-loop-cut : goal.invariant-loop-cut
invariant-loop-cut l =
    rise_from l.heads l.last (drop l.cut-index l.cuts) ≡ rise_from l.heads 0 l.cuts
