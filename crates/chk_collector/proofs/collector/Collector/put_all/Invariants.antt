use Rattle.std.proofs.Common.{length}
use Rattle.chk_collector.proofs.PutLoop.{PutSoFar}
use Rattle.chk_collector.proofs.collector.Collector.put_all.Given as goal

abbrev pub invariant-loop-chunk : goal.invariant-loop-chunk
invariant-loop-chunk g l =
    PutSoFar (g.S.Site.told l.fn.site) (g.S.Site.told l.site) (g.S.Site.fault_count l.fn.site) (g.S.Site.fault_count l.site) l.fn.self l.self-inside.sinks
    l.fn.post.left l.post.left l.lines

abbrev pub decreases-loop-chunk : goal.decreases-loop-chunk
decreases-loop-chunk g l = length l.post.left
