use Rattle.chk_cmd_udp.proofs.Chains.{TurnsSoFar}
use Rattle.chk_cmd_udp.proofs.run.run_turns.Given as goal

abbrev pub invariant-loop-turn : goal.invariant-loop-turn
invariant-loop-turn g l =
    TurnsSoFar l.fn.who l.fn.door l.fn.work.rotate l.fn.work.messages l.fn.work.turns l._turn
    9223372036854775808 l.fn.wahead l.wahead l.fn.tally l.tally (g.S.Site.told l.fn.site)
    (g.S.Site.told l.site) (g.S.Site.fault_count l.fn.site) (g.S.Site.fault_count l.site)
