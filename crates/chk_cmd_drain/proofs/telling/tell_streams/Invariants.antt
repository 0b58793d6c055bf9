use Rattle.std.proofs.Common.{◌≡◌, map, drop, Option, Result}
use Rattle.chk_site.specs.declared.acts.OutsideFault.{OutsideFault}
use Rattle.chk_site.specs.History.{History}
use Rattle.chk_cmd_output.specs.Printing.{PrintsInTurn}
use Rattle.chk_cmd_drain.specs.Streams.{told_line}
use Rattle.chk_cmd_drain.proofs.telling.tell_streams.Given as goal

abbrev pub invariant-loop-number : goal.invariant-loop-number
invariant-loop-number g l = record {
  count : g.S.Site.fault_count l.site ≡ g.S.Site.fault_count l.fn.site;
  behind : (result : Result (Unit {0}) OutsideFault) (new : Option History)
      → PrintsInTurn l.who (map (told_line l.agent) (drop l.number-index l.numbers)) result
      (g.S.Site.told l.site) new
      → PrintsInTurn l.who (map (told_line l.agent) l.numbers) result (g.S.Site.told l.fn.site) new;
}
