use Rattle.std.proofs.Common.{◌≡◌, ◌-◌, length}
use Rattle.chk_agent_drain.proofs.PollingOn.{PolledOn}
use Rattle.chk_agent_drain.proofs.polling.poll_on.Given as goal

abbrev pub invariant-loop-below : goal.invariant-loop-below
invariant-loop-below g l = record {
  on : PolledOn l.tries l.fn.agent l.agent (g.S.Site.told l.fn.site) (g.S.Site.told l.site)
      (g.S.Site.fault_count l.fn.site) (g.S.Site.fault_count l.site);
  addresses : l.addresses ≡ length l.fn.agent.delivery.ring.addresses;
}

abbrev pub decreases-loop-below : goal.decreases-loop-below
decreases-loop-below g l = l.addresses - l.tries.count
