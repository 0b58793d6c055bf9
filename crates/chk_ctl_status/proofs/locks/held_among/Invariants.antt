use Rattle.std.proofs.Common.{◌≡◌, ◌+◌, drop}
use Rattle.std.specs.Prelude.{count_by}
use Rattle.chk_ctl_status.specs.Locks.{is_held}
use Rattle.chk_ctl_status.proofs.locks.held_among.Given as goal

abbrev pub invariant-loop-lock : goal.invariant-loop-lock
invariant-loop-lock l =
    l.count + count_by is_held (drop l.lock-index l.locks) ≡ count_by is_held l.locks
