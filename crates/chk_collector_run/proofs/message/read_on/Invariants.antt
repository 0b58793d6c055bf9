use Rattle.std.proofs.Common.{◌-◌, length}
use Rattle.chk_collector_run.proofs.Reading.{ReadSoFar}
use Rattle.chk_collector_run.proofs.message.read_on.Given as goal

abbrev pub invariant-loop-alloc : goal.invariant-loop-alloc
invariant-loop-alloc g l =
    ReadSoFar l.fn.who l.fn.number l.fn.begun l.bytes (g.S.Site.told l.fn.site) (g.S.Site.told l.site)
    (g.S.Site.fault_count l.fn.site) (g.S.Site.fault_count l.site)

abbrev pub decreases-loop-alloc : goal.decreases-loop-alloc
decreases-loop-alloc g l = 4210688 - length l.bytes
