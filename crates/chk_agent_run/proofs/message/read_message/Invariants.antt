use Rattle.std.proofs.Common.{◌≤◌, ◌-◌, length}
use Rattle.chk_agent_run.specs.Closing.{capped}
use Rattle.chk_agent_run.proofs.Messages.{CameTo}
use Rattle.chk_agent_run.proofs.message.read_message.Given as goal

abbrev pub invariant-loop-message : goal.invariant-loop-message
invariant-loop-message g l = record {
  so_far : CameTo l.who l.number (capped l.fn.taking.bytes) (g.S.Site.told l.fn.site) l.message l.at (g.S.Site.told l.site);
  count : g.S.Site.fault_count l.fn.site ≤ g.S.Site.fault_count l.site;
}

abbrev pub decreases-loop-message : goal.decreases-loop-message
decreases-loop-message g l = 65536 - length l.message
