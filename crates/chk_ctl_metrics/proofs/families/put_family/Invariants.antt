use Rattle.std.proofs.Common.{◌≡◌, ◌++◌, drop}
use Rattle.std.specs.Prelude.{flat_map}
use Rattle.chk_ctl_metrics.specs.Families.{rows_of}
use Rattle.chk_ctl_metrics.proofs.families.put_family.Given as goal

abbrev pub invariant-loop-store : goal.invariant-loop-store
invariant-loop-store l =
    l.out ++ flat_map (rows_of l.family) (drop l.store-index l.stores)
    ≡ l.initial.out ++ flat_map (rows_of l.family) l.stores
