use Rattle.std.proofs.Common.{◌≡◌, Option, Result}
use Rattle.chk_site.specs.declared.acts.OutsideFault.{OutsideFault}
use Rattle.chk_site.specs.History.{History}
use Rattle.chk_cmd_output.specs.Printing.{PrintsInTurn}
use Rattle.chk_ctl_sum.proofs.LineWords.{lines_from}
use Rattle.chk_ctl_sum.proofs.lines.print_rows.Given as goal

abbrev pub invariant-loop-index : goal.invariant-loop-index
invariant-loop-index g l = record {
  faults : g.S.Site.fault_count l.site ≡ g.S.Site.fault_count l.fn.site;
  behind : (result : Result (Unit {0}) OutsideFault) (new : Option History)
      → PrintsInTurn l.who (lines_from l.ends l.digests l.index) result (g.S.Site.told l.site) new
      → PrintsInTurn l.who (lines_from l.ends l.digests 0) result (g.S.Site.told l.fn.site) new;
}
