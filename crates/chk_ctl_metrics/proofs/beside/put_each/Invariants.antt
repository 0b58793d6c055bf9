use Rattle.std.proofs.Common.{◌≡◌, ◌++◌, drop}
use Rattle.std.specs.Prelude.{flat_map}
use Rattle.chk_ctl_metrics.specs.Agents.{lock_row}
use Rattle.chk_ctl_metrics.proofs.beside.put_each.Given as goal

abbrev pub invariant-loop-lock : goal.invariant-loop-lock
invariant-loop-lock l =
    l.out ++ flat_map (lock_row l.label l.folder) (drop l.lock-index l.locks)
    ≡ l.initial.out ++ flat_map (lock_row l.label l.folder) l.locks
