use Rattle.std.proofs.Common.{◌≡◌, Bool, true, drop, Option, Result}
use Rattle.chk_site.specs.History.{History}
use Rattle.chk_record_index.specs.declared.fault.JobFault.{JobFault}
use Rattle.chk_ctl_audit.specs.Streams.{Audits}
use Rattle.chk_ctl_audit.proofs.streams.audit_each.Given as goal

abbrev pub invariant-loop-index : goal.invariant-loop-index
invariant-loop-index g l = record {
  faults : g.S.Site.fault_count l.site ≡ g.S.Site.fault_count l.fn.site;
  behind : (result : Result Bool JobFault) (new : Option History)
      → Audits l.side result (drop l.index l.rests) (drop l.index l.digests) l.same
      (g.S.Site.told l.site) new
      → Audits l.side result l.rests l.digests true (g.S.Site.told l.fn.site) new;
}
