use Rattle.std.proofs.Common.{length}
use Rattle.chk_collector.proofs.CountSteps.{CountedSoFar}
use Rattle.chk_collector.proofs.collector.Collector.count_all.Given as goal

abbrev pub invariant-loop-stem : goal.invariant-loop-stem
invariant-loop-stem g l =
    CountedSoFar (g.S.Site.told l.fn.site) (g.S.Site.told l.site) (g.S.Site.fault_count l.fn.site) (g.S.Site.fault_count l.site)
    l.fn.self l.fn.stems l.stems l.lines

abbrev pub decreases-loop-stem : goal.decreases-loop-stem
decreases-loop-stem g l = length l.stems
