use Rattle.std.proofs.Common.{◌≡◌, ◌+◌, drop}
use Rattle.std.specs.Prelude.{count_by}
use Rattle.chk_world.specs.ArchiveRuns.{is_closed}
use Rattle.chk_ctl_status_rows.proofs.names.closed_in.Given as goal

abbrev pub invariant-loop-name : goal.invariant-loop-name
invariant-loop-name l =
    l.count + count_by is_closed (drop l.name-index l.names) ≡ count_by is_closed l.names
