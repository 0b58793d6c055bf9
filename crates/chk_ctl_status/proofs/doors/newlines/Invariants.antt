use Rattle.std.proofs.Common.{◌≡◌, ◌+◌, drop}
use Rattle.std.specs.Prelude.{count_by}
use Rattle.chk_ctl_status.specs.Doors.{is_newline}
use Rattle.chk_ctl_status.proofs.doors.newlines.Given as goal

abbrev pub invariant-loop-byte : goal.invariant-loop-byte
invariant-loop-byte l =
    l.count + count_by is_newline (drop l.byte-index l.bytes) ≡ count_by is_newline l.bytes
