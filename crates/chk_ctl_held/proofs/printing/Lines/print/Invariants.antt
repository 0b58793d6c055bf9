use Rattle.std.proofs.Common.{◌≡◌, drop, map, Option, Result}
use Rattle.std.specs.Prelude.{string_bytes}
use Rattle.chk_site.specs.declared.acts.OutsideFault.{OutsideFault}
use Rattle.chk_site.specs.History.{History}
use Rattle.chk_cmd_output.specs.Printing.{PrintsInTurn}
use Rattle.chk_ctl_held.proofs.printing.Lines.print.Given as goal

abbrev pub invariant-loop-line : goal.invariant-loop-line
invariant-loop-line g l = record {
  count : g.S.Site.fault_count l.site ≡ g.S.Site.fault_count l.fn.site;
  behind : (result : Result (Unit {0}) OutsideFault) (new : Option History)
      → PrintsInTurn l.who (map string_bytes (drop l.line-index l.line-items)) result
      (g.S.Site.told l.site) new
      → PrintsInTurn l.who l.self result (g.S.Site.told l.fn.site) new;
}
