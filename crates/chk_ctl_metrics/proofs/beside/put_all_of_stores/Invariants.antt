use Rattle.std.proofs.Common.{◌≡◌, ◌++◌, drop}
use Rattle.std.specs.Prelude.{flat_map}
use Rattle.chk_ctl_metrics.specs.Agents.{store_locks}
use Rattle.chk_ctl_metrics.proofs.beside.put_all_of_stores.Given as goal

abbrev pub invariant-loop-store : goal.invariant-loop-store
invariant-loop-store l =
    l.out ++ flat_map store_locks (drop l.store-index l.stores)
    ≡ l.initial.out ++ flat_map store_locks l.stores
