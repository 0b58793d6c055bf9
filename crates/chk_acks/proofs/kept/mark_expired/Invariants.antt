use Rattle.std.proofs.Common.{◌≡◌, fold, take}
use Rattle.chk_acks.specs.Keeping.{kept_expired}
use Rattle.chk_acks.proofs.kept.mark_expired.Given as goal

abbrev pub invariant-loop-row : goal.invariant-loop-row
invariant-loop-row l = l.gone ≡ fold (kept_expired l.now l.age) l.initial.gone (take l.row-index l.rows)
