use Rattle.std.proofs.Common.{◌≡◌, ◌++◌, map, take, drop}
use Rattle.chk_acks.specs.Keeping.{kept_marked}
use Rattle.chk_acks.proofs.kept.mark.Given as goal

abbrev pub invariant-loop-row : goal.invariant-loop-row
invariant-loop-row l =
    l.rows ≡ map (kept_marked l.sinks l.stem l.length) (take l.row-index l.initial.rows)
    ++ drop l.row-index l.initial.rows
