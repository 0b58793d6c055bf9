use Rattle.std.proofs.Common.{◌≤◌, Bool, drop, map, Option, Result}
use Rattle.chk_site.specs.declared.acts.OutsideFault.{OutsideFault}
use Rattle.chk_site.specs.History.{Every, History}
use Rattle.chk_site.specs.Site.{Adds}
use Rattle.chk_world.specs.JobSteps.{IsOf}
use Rattle.chk_ctl_check.specs.Collectors.{CollectorsChecked, SendsOrSays, or_silent}
use Rattle.chk_ctl_check.proofs.collectors.check_collectors.Given as goal

abbrev pub invariant-loop-address : goal.invariant-loop-address
invariant-loop-address g l = record {
  count : g.S.Site.fault_count l.fn.site ≤ g.S.Site.fault_count l.site;
  own : Adds (g.S.Site.told l.fn.site) (g.S.Site.told l.site) (Every (IsOf SendsOrSays));
  behind : (result : Result Bool OutsideFault) (new : Option History)
      → CollectorsChecked (map (λ a. a.now) (drop l.address-index l.addresses)) result
      (g.S.Site.told l.site) new
      → CollectorsChecked (map (λ a. a.now) l.addresses) (or_silent l.found result)
      (g.S.Site.told l.fn.site) new;
}
