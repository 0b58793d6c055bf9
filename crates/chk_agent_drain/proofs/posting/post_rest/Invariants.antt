use Rattle.std.proofs.Common.{length}
use Rattle.chk_agent_drain.proofs.PostingRest.{PostingOn}
use Rattle.chk_agent_drain.proofs.posting.post_rest.Given as goal

abbrev pub invariant-posts : goal.invariant-posts
invariant-posts g l =
    PostingOn l.now l.polls l.fn.agent l.agent (g.S.Site.told l.fn.site) (g.S.Site.told l.site)
    (g.S.Site.fault_count l.fn.site) (g.S.Site.fault_count l.site)

abbrev pub decreases-posts : goal.decreases-posts
decreases-posts g l = length l.agent.delivery.queue.chunks
