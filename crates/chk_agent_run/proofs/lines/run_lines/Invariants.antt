use Rattle.std.proofs.Common.{◌≤◌, ◌+◌, ◌-◌, length}
use Rattle.chk_agent_run.proofs.RunLines.{RanTo}
use Rattle.chk_agent_run.proofs.lines.run_lines.Given as goal

abbrev pub invariant-loop-at : goal.invariant-loop-at
invariant-loop-at g l = record {
  ran : RanTo l.text l.fn.agent (g.S.Site.told l.fn.site) l.answers l.at l.agent (g.S.Site.told l.site);
  count : g.S.Site.fault_count l.fn.site ≤ g.S.Site.fault_count l.site;
  within : l.at ≤ length l.text + 1;
}

abbrev pub decreases-loop-at : goal.decreases-loop-at
decreases-loop-at g l = length l.text + 1 - l.at
