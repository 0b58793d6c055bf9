use Rattle.std.proofs.Common.{◌≡◌, ◌-◌}
use Rattle.chk_cmd_subscribe.proofs.Running.{TurnsOn}
use Rattle.chk_cmd_subscribe.proofs.run.run_turns.Given as goal

abbrev pub invariant-loop-turn : goal.invariant-loop-turn
invariant-loop-turn g l = record {
  goes_on : TurnsOn l.who l.door l.turns l.fn.watch (g.S.Site.told l.fn.site) (l.turns - l._turn) l.watch (g.S.Site.told l.site);
  count : g.S.Site.fault_count l.site ≡ g.S.Site.fault_count l.fn.site;
}
