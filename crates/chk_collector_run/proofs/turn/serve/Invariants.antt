use Rattle.chk_collector_run.proofs.Serving.{ServedSoFar}
use Rattle.chk_collector_run.proofs.turn.serve.Given as goal

abbrev pub invariant-loop-message : goal.invariant-loop-message
invariant-loop-message g l =
    ServedSoFar l.fn.who l.fn.door l.fn.most l._message l.wait l.fn.collector l.collector l.fn.tees l.tees
    (g.S.Site.told l.fn.site) (g.S.Site.told l.site) (g.S.Site.fault_count l.fn.site)
    (g.S.Site.fault_count l.site)
