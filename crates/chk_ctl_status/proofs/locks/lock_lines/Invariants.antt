use Rattle.std.proofs.Common.{◌≡◌, ◌++◌, drop}
use Rattle.std.specs.Prelude.{flat_map, string_bytes}
use Rattle.chk_ctl_status.specs.Locks.{lock_line}
use Rattle.chk_ctl_status.proofs.locks.lock_lines.Given as goal

abbrev pub invariant-loop-lock : goal.invariant-loop-lock
invariant-loop-lock l =
    string_bytes l.text ++ flat_map lock_line (drop l.lock-index l.locks)
    ≡ flat_map lock_line l.locks
