use Rattle.std.proofs.Common.{◌≤◌, ◌+◌, ◌-◌, length}
use Rattle.chk_agent_run.proofs.InitialLines.{AddedTo}
use Rattle.chk_agent_run.proofs.initial.add_lines.Given as goal

abbrev pub invariant-loop-at : goal.invariant-loop-at
invariant-loop-at g l = record {
  added : AddedTo l.text l.fn.agent (g.S.Site.told l.fn.site) l.at l.agent (g.S.Site.told l.site);
  count : g.S.Site.fault_count l.fn.site ≤ g.S.Site.fault_count l.site;
  within : l.at ≤ length l.text + 1;
}

abbrev pub decreases-loop-at : goal.decreases-loop-at
decreases-loop-at g l = length l.text + 1 - l.at
