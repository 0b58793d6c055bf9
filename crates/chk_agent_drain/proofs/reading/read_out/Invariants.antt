use Rattle.std.proofs.Common.{◌+◌, ◌-◌, ◌*◌, length}
use Rattle.chk_agent_drain.proofs.ReadingOn.{SteppingOn}
use Rattle.chk_agent_drain.proofs.reading.read_out.Given as goal

abbrev pub invariant-reads : goal.invariant-reads
invariant-reads g l =
    SteppingOn l.now l.fn.reads l.polls l.adaptor l.count l.fn.agent l.agent
    (g.S.Site.told l.fn.site)
    (g.S.Site.told l.site) (g.S.Site.fault_count l.fn.site) (g.S.Site.fault_count l.site)

abbrev pub decreases-reads : goal.decreases-reads
decreases-reads g l = 2 * (l.fn.reads - l.count) + length l.agent.delivery.queue.chunks
