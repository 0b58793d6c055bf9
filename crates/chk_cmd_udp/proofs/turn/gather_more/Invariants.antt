use Rattle.std.proofs.Common.{◌-◌}
use Rattle.chk_cmd_udp.proofs.Gathering.{FurtherSoFar}
use Rattle.chk_cmd_udp.proofs.turn.gather_more.Given as goal

abbrev pub invariant-loop-further : goal.invariant-loop-further
invariant-loop-further g l =
    FurtherSoFar l.fn.who l.fn.door l.fn.work.rotate (l.fn.work.messages - 1) l._further l.fn.wahead
    l.wahead l.fn.tally l.tally (g.S.Site.told l.fn.site) (g.S.Site.told l.site)
    (g.S.Site.fault_count l.fn.site) (g.S.Site.fault_count l.site)
