use Rattle.chk_collector_run.proofs.Chains.{TurnsSoFar}
use Rattle.chk_collector_run.proofs.run.run_turns.Given as goal

abbrev pub invariant-loop-turn : goal.invariant-loop-turn
invariant-loop-turn g l =
    TurnsSoFar l.fn.who l.fn.door l.fn.most l._turn l.fn.collector l.collector l.fn.tees l.tees
    (g.S.Site.told l.fn.site) (g.S.Site.told l.site) (g.S.Site.fault_count l.fn.site) (g.S.Site.fault_count l.site)
