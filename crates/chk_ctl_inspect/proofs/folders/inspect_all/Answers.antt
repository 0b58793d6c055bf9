use Rattle.chk_ctl_inspect.specs.Folders.{InspectsAgents, InspectsControl, InspectsStore}
use Rattle.chk_ctl_inspect.proofs.Keeping.{each_as}
use Rattle.chk_ctl_inspect.proofs.folders.inspect_all.Goals as goal

pub returns : goal.returns
returns g c = record {
  none = c.new-sight.result;
  first = c.inspect_stores.new.sight;
  second = c.inspect_agents.new.sight;
  mid = g.M.Machine.told c.inspect_stores.new.machine;
  last = g.M.Machine.told c.inspect_agents.new.machine;
  empty = c.new-sight.ensures;
  stores =
      each_as InspectsStore _ _ _ _ _ _ _ c.named.ensures c.stores.ensures
      c.in_ok-inspect_stores.ensures;
  agents =
      each_as InspectsAgents _ _ _ _ _ _ _ c.named-2.ensures c.agents.ensures
      c.in_ok-inspect_agents.ensures;
  controls =
      each_as InspectsControl _ _ _ _ _ _ _ c.named-3.ensures c.controls.ensures
      c.in_ok-inspect_controls.ensures;
}
