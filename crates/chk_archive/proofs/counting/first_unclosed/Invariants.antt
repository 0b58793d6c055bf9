use Rattle.std.proofs.Common.{◌≡◌, drop}
use Rattle.std.specs.Prelude.{find}
use Rattle.chk_world.specs.ArchiveRuns.{is_unclosed}
use Rattle.chk_archive.proofs.counting.first_unclosed.Given as goal

abbrev pub invariant-loop-name : goal.invariant-loop-name
invariant-loop-name l = find is_unclosed (drop l.name-index l.names) ≡ find is_unclosed l.names
