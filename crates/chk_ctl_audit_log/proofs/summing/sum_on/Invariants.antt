use Rattle.std.proofs.Common.{◌≡◌, ◌-◌}
use Rattle.chk_site.specs.History.{Every}
use Rattle.chk_site.specs.Site.{Adds}
use Rattle.chk_world.specs.JobSteps.{IsOf}
use Rattle.chk_ctl_audit_log.specs.Placing.{ReadsLogOf}
use Rattle.chk_ctl_audit_log.proofs.Loop.{SoFar}
use Rattle.chk_ctl_audit_log.proofs.summing.sum_on.Given as goal

abbrev pub invariant-loop-alloc : goal.invariant-loop-alloc
invariant-loop-alloc g l = record {
  so : SoFar l.who l.fn.reader l.reader l.end l.hasher (g.S.Site.told l.fn.site)
      (g.S.Site.told l.site);
  own : Adds (g.S.Site.told l.fn.site) (g.S.Site.told l.site)
      (Every (IsOf (ReadsLogOf l.fn.reader.path)));
  count : g.S.Site.fault_count l.site ≡ g.S.Site.fault_count l.fn.site;
}

abbrev pub decreases-loop-alloc : goal.decreases-loop-alloc
decreases-loop-alloc g l = l.end - l.reader.read.offset
