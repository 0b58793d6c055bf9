use Rattle.std.proofs.Common.{◌≡◌, map, Option, Result}
use Rattle.chk_site.specs.declared.acts.OutsideFault.{OutsideFault}
use Rattle.chk_site.specs.History.{History}
use Rattle.chk_cmd_output.specs.Printing.{PrintsInTurn}
use Rattle.chk_ctl_held.specs.Elsewhere.{all_lines}
use Rattle.chk_ctl_held.specs.Stores.{seen_of}
use Rattle.chk_ctl_held.proofs.StoreLines.{lines_from}
use Rattle.chk_ctl_held.proofs.elsewhere.print_stores.Given as goal

abbrev pub invariant-loop-at : goal.invariant-loop-at
invariant-loop-at g l = record {
  count : g.S.Site.fault_count l.site ≡ g.S.Site.fault_count l.fn.site;
  behind : (result : Result (Unit {0}) OutsideFault) (new : Option History)
      → PrintsInTurn l.who (lines_from l.stores l.at) result (g.S.Site.told l.site) new
      → PrintsInTurn l.who (all_lines (map seen_of l.stores)) result (g.S.Site.told l.fn.site) new;
}
