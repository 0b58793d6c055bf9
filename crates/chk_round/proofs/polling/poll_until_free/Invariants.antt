use Rattle.chk_agent_drain.specs.Parts.{unmarked_in}
use Rattle.chk_round.proofs.Polls.{Polling}
use Rattle.chk_round.proofs.polling.poll_until_free.Given as goal

abbrev pub invariant-polls : goal.invariant-polls
invariant-polls g l =
    Polling l.fn.collecting l.fn.collector l.fn.agent l.collector l.agent (g.S.Site.told l.fn.site) (g.S.Site.told l.site)
    (g.S.Site.fault_count l.fn.site) (g.S.Site.fault_count l.site)

abbrev pub decreases-polls : goal.decreases-polls
decreases-polls g l = unmarked_in l.agent
