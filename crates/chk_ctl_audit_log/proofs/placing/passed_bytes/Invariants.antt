use Rattle.std.proofs.Common.{◌≡◌, ℕ, ◌+◌, Option, None}
use Rattle.chk_site.specs.History.{History, Every}
use Rattle.chk_site.specs.Site.{Adds}
use Rattle.chk_world.specs.JobSteps.{IsOf}
use Rattle.chk_ctl_audit_log.specs.Placing.{Passes, ReadsLogOf}
use Rattle.chk_ctl_audit_log.proofs.placing.passed_bytes.Given as goal

abbrev pub invariant-loop : goal.invariant-loop
invariant-loop g l = record {
  own : Adds (g.S.Site.told l.fn.site) (g.S.Site.told l.site) (Every (IsOf (ReadsLogOf l.path)));
  count : g.S.Site.fault_count l.site ≡ g.S.Site.fault_count l.fn.site;
  behind : (n : ℕ) (new : Option History)
      → Passes l.who l.path l.last l.after n (g.S.Site.told l.site) new
      → Passes l.who l.path l.last None (l.bytes + n) (g.S.Site.told l.fn.site) new;
}
