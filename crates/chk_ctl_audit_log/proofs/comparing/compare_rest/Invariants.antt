use Rattle.std.proofs.Common.{◌≡◌, ◌≤◌, ◌-◌, ◌++◌, List, ℕ, length, take, Option}
use Rattle.chk_site.specs.History.{Every, History}
use Rattle.chk_site.specs.Site.{Adds}
use Rattle.chk_rotate.specs.Readers.{Reader}
use Rattle.chk_world.specs.JobSteps.{IsOf}
use Rattle.chk_ctl_audit_log.specs.Placing.{ReadsLogOf}
use Rattle.chk_ctl_audit_log.specs.Ahead.{LogAt}
use Rattle.chk_ctl_audit_log.proofs.comparing.compare_rest.Given as goal

abbrev pub invariant-loop-done : goal.invariant-loop-done
invariant-loop-done g l = record {
  so : (from : Reader) (passed : List ℕ) (before : Option History)
      → LogAt l.who from passed l.fn.log before (g.S.Site.told l.fn.site)
      → LogAt l.who from (passed ++ take l.done l.rest) l.log before (g.S.Site.told l.site);
  own : Adds (g.S.Site.told l.fn.site) (g.S.Site.told l.site)
      (Every (IsOf (ReadsLogOf l.fn.log.reader.path)));
  path : l.log.reader.path ≡ l.fn.log.reader.path;
  count : g.S.Site.fault_count l.site ≡ g.S.Site.fault_count l.fn.site;
  within : l.done ≤ length l.rest;
}

abbrev pub decreases-loop-done : goal.decreases-loop-done
decreases-loop-done g l = length l.rest - l.done
