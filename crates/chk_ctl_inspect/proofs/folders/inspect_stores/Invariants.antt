use Rattle.std.proofs.Common.{map, take}
use Rattle.chk_ctl_inspect.specs.Folders.{InspectsEach, InspectsStore}
use Rattle.chk_ctl_inspect.proofs.folders.inspect_stores.Given as goal

abbrev pub invariant-loop-store : goal.invariant-loop-store
invariant-loop-store g l =
    InspectsEach InspectsStore (map (λ w. w.now) (take l.store-index l.stores)) l.fn.sight l.sight
    (g.M.Machine.told l.fn.machine) (g.M.Machine.told l.machine)
