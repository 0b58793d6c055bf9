use Rattle.std.proofs.Common.{drop}
use Rattle.chk_sink.proofs.LeftLoop.{IsSettledTo}
use Rattle.chk_sink.proofs.settling.settle_listed.Given as goal

abbrev pub invariant-loop-name : goal.invariant-loop-name
invariant-loop-name g l =
    IsSettledTo l.who l.kept l.names (drop l.name-index l.names) l.last (g.S.Site.fault_count l.fn.site) (g.S.Site.fault_count l.site)
    (g.S.Site.told l.fn.site) (g.S.Site.told l.site)
