use Rattle.std.proofs.Common.{◌≡◌, ◌++◌, drop}
use Rattle.std.specs.Prelude.{flat_map}
use Rattle.chk_ctl_metrics.specs.Agents.{folder_rows}
use Rattle.chk_ctl_metrics.proofs.agents.put_family.Given as goal

abbrev pub invariant-loop-folder : goal.invariant-loop-folder
invariant-loop-folder l =
    l.out ++ flat_map (folder_rows l.family l.books) (drop l.folder-index l.agents)
    ≡ l.initial.out ++ flat_map (folder_rows l.family l.books) l.agents
