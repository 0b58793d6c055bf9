use Rattle.chk_agent_drain.proofs.ReadingAll.{ReadingTo}
use Rattle.chk_agent_drain.proofs.reading.read_all.Given as goal

abbrev pub invariant-loop-adaptor : goal.invariant-loop-adaptor
invariant-loop-adaptor g l =
    ReadingTo l.now l.reads l.polls l.adaptor l.fn.agent l.agent (g.S.Site.told l.fn.site)
    (g.S.Site.told l.site)
    (g.S.Site.fault_count l.fn.site) (g.S.Site.fault_count l.site)
