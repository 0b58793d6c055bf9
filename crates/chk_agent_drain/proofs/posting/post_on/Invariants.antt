use Rattle.std.proofs.Common.{◌≡◌, ◌-◌, length}
use Rattle.chk_agent_drain.proofs.PostingOn.{PostedOn}
use Rattle.chk_agent_drain.proofs.posting.post_on.Given as goal

abbrev pub invariant-loop-miss : goal.invariant-loop-miss
invariant-loop-miss g l = record {
  on : PostedOn l.fn.now l.tries l.fn.agent l.agent (g.S.Site.told l.fn.site) (g.S.Site.told l.site)
      (g.S.Site.fault_count l.fn.site) (g.S.Site.fault_count l.site);
  addresses : l.addresses ≡ length l.fn.agent.delivery.ring.addresses;
}

abbrev pub decreases-loop-miss : goal.decreases-loop-miss
decreases-loop-miss g l = l.addresses - l.tries.count
