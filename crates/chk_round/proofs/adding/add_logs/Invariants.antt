use Rattle.std.proofs.Common.{◌≡◌, ◌≤◌, true, drop}
use Rattle.chk_round.proofs.Added.{AddedSoFar, QuietOn}
use Rattle.chk_round.proofs.adding.add_logs.Given as goal

abbrev pub invariant-loop-log : goal.invariant-loop-log
invariant-loop-log g l = record {
  so_far : AddedSoFar l.class l.kind l.logs (drop l.log-index l.logs) l.fn.agent l.agent
      (g.S.Site.told l.fn.site) (g.S.Site.told l.site);
  quiet : QuietOn l.fn.agent l.agent (g.S.Site.told l.fn.site) (g.S.Site.told l.site);
  source : l.agent.source ≡ l.fn.agent.source;
  ready : l.agent.ready ≡ true;
  count : g.S.Site.fault_count l.fn.site ≤ g.S.Site.fault_count l.site;
}
