use Rattle.std.proofs.Common.{length}
use Rattle.chk_round.proofs.Polls.{Talked}
use Rattle.chk_round.proofs.posting.post_rest.Given as goal

abbrev pub invariant-posts : goal.invariant-posts
invariant-posts g l =
    Talked l.fn.collector l.fn.agent l.collector l.agent (g.S.Site.told l.fn.site) (g.S.Site.told l.site)
    (g.S.Site.fault_count l.fn.site) (g.S.Site.fault_count l.site)

abbrev pub decreases-posts : goal.decreases-posts
decreases-posts g l = length l.agent.delivery.queue.chunks
