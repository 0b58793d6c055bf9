use Rattle.std.proofs.Common.{◌≡◌, fold, take}
use Rattle.chk_acks.specs.Keeping.{kept_moved}
use Rattle.chk_acks.proofs.kept.advance.Given as goal

abbrev pub invariant-loop-row : goal.invariant-loop-row
invariant-loop-row l = l.committed ≡ fold kept_moved l.initial.committed (take l.row-index l.rows)
