use Rattle.std.proofs.Common.{◌≡◌, List, drop, Option, Result}
use Rattle.chk_ctl_status_rows.specs.declared.agents.AgentsFault.{AgentsFault}
use Rattle.chk_site.specs.History.{History}
use Rattle.chk_ctl_status_rows.specs.declared.agents.AgentSeen.{AgentSeen}
use Rattle.chk_ctl_status_rows.specs.Agents.{SeesAgents}
use Rattle.chk_ctl_status_rows.proofs.agents.see_each.Given as goal

abbrev pub invariant-loop-name : goal.invariant-loop-name
invariant-loop-name g l = record {
  count : g.S.Site.fault_count l.site ≡ g.S.Site.fault_count l.fn.site;
  behind : (result : Result (List AgentSeen) AgentsFault) (new : Option History)
      → SeesAgents l.who l.agents.items (drop l.name-index l.names) result
      (g.S.Site.told l.site) new
      → SeesAgents l.who l.fn.agents.items l.names result (g.S.Site.told l.fn.site) new;
}
