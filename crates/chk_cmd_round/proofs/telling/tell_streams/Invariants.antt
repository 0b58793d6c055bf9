use Rattle.std.proofs.Common.{◌≡◌, drop, Option, Result}
use Rattle.chk_site.specs.declared.acts.OutsideFault.{OutsideFault}
use Rattle.chk_site.specs.History.{History}
use Rattle.chk_agent.specs.States.{lines_at, lines_of}
use Rattle.chk_cmd_output.specs.Printing.{PrintsInTurn}
use Rattle.chk_cmd_round.specs.Telling.{stream_lines}
use Rattle.chk_cmd_round.proofs.telling.tell_streams.Given as goal

abbrev pub invariant-loop-number : goal.invariant-loop-number
invariant-loop-number g l = record {
  count : g.S.Site.fault_count l.site ≡ g.S.Site.fault_count l.fn.site;
  behind : (result : Result (Unit {0}) OutsideFault) (new : Option History)
      → PrintsInTurn l.who (stream_lines l.who.name (lines_at (drop l.number l.agent.adaptors) (drop l.number l.agent.delivery.table.committed))) result (g.S.Site.told l.site) new
      → PrintsInTurn l.who (stream_lines l.who.name (lines_of l.agent)) result (g.S.Site.told l.fn.site) new;
}
