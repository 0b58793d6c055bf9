use Rattle.std.proofs.Common.{◌≤◌}
use Rattle.chk_agent_run.specs.Lent.{word_of}
use Rattle.chk_agent_run.proofs.TurnChains.{TurnedTo}
use Rattle.chk_agent_run.proofs.turn.run_turns.Given as goal

abbrev pub invariant-loop-turn : goal.invariant-loop-turn
invariant-loop-turn g l = record {
  run : TurnedTo l.who (word_of l.door) l.pause l.turns l.fn.agent (g.S.Site.told l.fn.site) l._turn l.agent (g.S.Site.told l.site);
  count : g.S.Site.fault_count l.fn.site ≤ g.S.Site.fault_count l.site;
}
