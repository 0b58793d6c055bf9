use Rattle.std.proofs.Common.{◌≡◌, map, drop, Option, Result}
use Rattle.chk_site.specs.declared.acts.OutsideFault.{OutsideFault}
use Rattle.chk_site.specs.History.{History}
use Rattle.chk_book.specs.Views.{end_view}
use Rattle.chk_cmd_output.specs.Printing.{PrintsInTurn}
use Rattle.chk_cmd_archive.specs.Telling.{stream_line}
use Rattle.chk_cmd_archive.proofs.telling.tell_ends.Given as goal

abbrev pub invariant-loop-end : goal.invariant-loop-end
invariant-loop-end g l = record {
  count : g.S.Site.fault_count l.site ≡ g.S.Site.fault_count l.fn.site;
  behind : (result : Result (Unit {0}) OutsideFault) (new : Option History)
      → PrintsInTurn l.who (map (λ e. stream_line (end_view e)) (drop l.end-index l.ends)) result (g.S.Site.told l.site) new
      → PrintsInTurn l.who (map (λ e. stream_line (end_view e)) l.ends) result (g.S.Site.told l.fn.site) new;
}
