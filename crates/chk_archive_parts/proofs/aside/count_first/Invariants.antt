use Rattle.std.proofs.Common.{◌≡◌, ◌+◌, drop}
use Rattle.std.specs.Prelude.{count_by}
use Rattle.chk_archive_parts.specs.Kept.{is_first}
use Rattle.chk_archive_parts.proofs.aside.count_first.Given as goal

abbrev pub invariant-loop-index : goal.invariant-loop-index
invariant-loop-index l =
    l.count + count_by is_first (drop l.index l.heads) ≡ count_by is_first l.heads
