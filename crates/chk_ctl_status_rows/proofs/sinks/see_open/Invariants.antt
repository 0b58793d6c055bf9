use Rattle.std.proofs.Common.{◌≡◌, List, drop, Option, Result}
use Rattle.chk_site.specs.declared.acts.OutsideFault.{OutsideFault}
use Rattle.chk_site.specs.History.{History}
use Rattle.chk_ctl_status_rows.specs.declared.sinks.OpenSink.{OpenSink}
use Rattle.chk_ctl_status_rows.specs.Sinks.{SeesSinks}
use Rattle.chk_ctl_status_rows.proofs.sinks.see_open.Given as goal

abbrev pub invariant-loop-name : goal.invariant-loop-name
invariant-loop-name g l = record {
  count : g.S.Site.fault_count l.site ≡ g.S.Site.fault_count l.fn.site;
  behind : (result : Result (List OpenSink) OutsideFault) (new : Option History)
      → SeesSinks l.who l.unclosed.items (drop l.name-index l.names) result
      (g.S.Site.told l.site) new
      → SeesSinks l.who l.fn.unclosed.items l.names result (g.S.Site.told l.fn.site) new;
}
