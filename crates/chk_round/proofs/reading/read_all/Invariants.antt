use Rattle.chk_round.proofs.Logs.{ReadingEach}
use Rattle.chk_round.proofs.reading.read_all.Given as goal

abbrev pub invariant-loop-adaptor : goal.invariant-loop-adaptor
invariant-loop-adaptor g l =
    ReadingEach l.fn.reads l.adaptor l.fn.collector l.fn.agent l.collector l.agent (g.S.Site.told l.fn.site) (g.S.Site.told l.site)
    (g.S.Site.fault_count l.fn.site) (g.S.Site.fault_count l.site)
