use Rattle.std.proofs.Common.{◌≡◌, ◌++◌, drop}
use Rattle.std.specs.Prelude.{flat_map}
use Rattle.chk_ctl_metrics.specs.Agents.{door_row}
use Rattle.chk_ctl_metrics.proofs.beside.put_doors.Given as goal

abbrev pub invariant-loop-door : goal.invariant-loop-door
invariant-loop-door l =
    l.out ++ flat_map door_row (drop l.door-index l.doors)
    ≡ l.initial.out ++ flat_map door_row l.doors
