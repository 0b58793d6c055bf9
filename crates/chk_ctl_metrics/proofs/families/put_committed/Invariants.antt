use Rattle.std.proofs.Common.{◌≡◌, ◌++◌, drop}
use Rattle.std.specs.Prelude.{flat_map}
use Rattle.chk_ctl_metrics.specs.Families.{committed_row}
use Rattle.chk_ctl_metrics.proofs.families.put_committed.Given as goal

abbrev pub invariant-loop-sink : goal.invariant-loop-sink
invariant-loop-sink l =
    l.out ++ flat_map (committed_row l.store) (drop l.sink-index l.store.seen.sinks.unclosed.items)
    ≡ l.initial.out ++ flat_map (committed_row l.store) l.store.seen.sinks.unclosed.items
