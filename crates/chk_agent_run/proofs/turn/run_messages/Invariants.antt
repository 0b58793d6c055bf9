use Rattle.std.proofs.Common.{◌≤◌}
use Rattle.chk_agent_run.proofs.Controls.{ControlledTo}
use Rattle.chk_agent_run.proofs.turn.run_messages.Given as goal

abbrev pub invariant-loop-message : goal.invariant-loop-message
invariant-loop-message g l = record {
  run : ControlledTo l.who l.door 64 l.fn.agent (g.S.Site.told l.fn.site) l._message l.agent (g.S.Site.told l.site);
  count : g.S.Site.fault_count l.fn.site ≤ g.S.Site.fault_count l.site;
}
