use Rattle.std.proofs.Common.{◌≤◌}
use Rattle.chk_agent.proofs.FillingOn.{FilledOn}
use Rattle.chk_agent.proofs.FillingPieces.{Noted}
use Rattle.chk_agent.proofs.agent.Agent.fill_noting.Given as goal

abbrev pub invariant-loop-place : goal.invariant-loop-place
invariant-loop-place g l = record {
  way : FilledOn l.fn.self l.place l.self (g.S.Site.told l.fn.site) (g.S.Site.told l.site);
  noted : Noted l.fn.self l.self l.fn.full l.full;
  count : g.S.Site.fault_count l.fn.site ≤ g.S.Site.fault_count l.site;
}
