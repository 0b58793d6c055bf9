use Rattle.std.proofs.Common.{map, take}
use Rattle.chk_ctl_inspect.specs.Folders.{InspectsEach, InspectsAgents}
use Rattle.chk_ctl_inspect.proofs.folders.inspect_agents.Given as goal

abbrev pub invariant-loop-folder : goal.invariant-loop-folder
invariant-loop-folder g l =
    InspectsEach InspectsAgents (map (λ w. w.now) (take l.folder-index l.folders)) l.fn.sight l.sight
    (g.M.Machine.told l.fn.machine) (g.M.Machine.told l.machine)
