use Rattle.std.proofs.Common.{◌≡◌, drop}
use Rattle.chk_salvage.specs.Front.{next_sync}
use Rattle.chk_salvage.proofs.scan.find_sync.Given as goal

abbrev pub invariant-loop-at : goal.invariant-loop-at
invariant-loop-at l = next_sync l.marker l.at (drop l.at l.bytes) ≡ next_sync l.marker l.from (drop l.from l.bytes)
