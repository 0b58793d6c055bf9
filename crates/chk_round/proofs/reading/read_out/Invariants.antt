use Rattle.std.proofs.Common.{◌+◌, ◌-◌, ◌*◌, length}
use Rattle.chk_round.proofs.Stepping.{Reading}
use Rattle.chk_round.proofs.reading.read_out.Given as goal

abbrev pub invariant-reads : goal.invariant-reads
invariant-reads g l =
    Reading l.adaptor l.count l.fn.reads l.fn.collector l.fn.agent l.collector l.agent (g.S.Site.told l.fn.site)
    (g.S.Site.told l.site) (g.S.Site.fault_count l.fn.site) (g.S.Site.fault_count l.site)

abbrev pub decreases-reads : goal.decreases-reads
decreases-reads g l = 2 * (l.fn.reads - l.count) + length l.agent.delivery.queue.chunks
