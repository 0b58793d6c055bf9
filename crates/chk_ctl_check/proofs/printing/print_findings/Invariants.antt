use Rattle.std.proofs.Common.{◌≡◌, drop, Option, Result}
use Rattle.chk_site.specs.declared.acts.OutsideFault.{OutsideFault}
use Rattle.chk_site.specs.History.{History}
use Rattle.chk_cmd_output.specs.Printing.{PrintsInTurn}
use Rattle.chk_ctl_check.specs.Lines.{finding_lines}
use Rattle.chk_ctl_check.proofs.printing.print_findings.Given as goal

abbrev pub invariant-loop-finding : goal.invariant-loop-finding
invariant-loop-finding g l = record {
  count : g.S.Site.fault_count l.site ≡ g.S.Site.fault_count l.fn.site;
  behind : (result : Result (Unit {0}) OutsideFault) (new : Option History)
      → PrintsInTurn l.who (finding_lines (drop l.finding-index l.findings)) result
      (g.S.Site.told l.site) new
      → PrintsInTurn l.who (finding_lines l.findings) result (g.S.Site.told l.fn.site) new;
}
