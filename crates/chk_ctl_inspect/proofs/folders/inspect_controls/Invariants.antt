use Rattle.std.proofs.Common.{map, take}
use Rattle.chk_ctl_inspect.specs.Folders.{InspectsEach, InspectsControl}
use Rattle.chk_ctl_inspect.proofs.folders.inspect_controls.Given as goal

abbrev pub invariant-loop-text : goal.invariant-loop-text
invariant-loop-text g l =
    InspectsEach InspectsControl (map (λ w. w.now) (take l.text-index l.texts)) l.fn.sight l.sight
    (g.M.Machine.told l.fn.machine) (g.M.Machine.told l.machine)
