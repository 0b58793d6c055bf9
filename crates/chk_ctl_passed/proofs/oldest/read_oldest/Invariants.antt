use Rattle.std.proofs.Common.{◌≡◌, ◌-◌, ◌^◌}
use Rattle.chk_site.specs.History.{Every}
use Rattle.chk_site.specs.Site.{Adds}
use Rattle.chk_world.specs.JobSteps.{IsOf}
use Rattle.chk_ctl_passed.specs.Oldest.{LooksAtLog}
use Rattle.chk_ctl_passed.proofs.oldest.read_oldest.Given as goal

abbrev pub invariant-loop-suffix : goal.invariant-loop-suffix
invariant-loop-suffix g l = record {
  own : Adds (g.S.Site.told l.fn.site) (g.S.Site.told l.site) (Every (IsOf (LooksAtLog l.path)));
  count : g.S.Site.fault_count l.site ≡ g.S.Site.fault_count l.fn.site;
}

abbrev pub decreases-loop-suffix : goal.decreases-loop-suffix
decreases-loop-suffix g l = 2 ^ 64 - l.at
