use Rattle.std.proofs.Common.{◌≡◌, ◌+◌, drop}
use Rattle.std.specs.Prelude.{count_by}
use Rattle.chk_world.specs.ArchiveRuns.{is_unclosed}
use Rattle.chk_archive.proofs.counting.unclosed_in.Given as goal

abbrev pub invariant-loop-name : goal.invariant-loop-name
invariant-loop-name l =
    l.count + count_by is_unclosed (drop l.name-index l.names) ≡ count_by is_unclosed l.names
